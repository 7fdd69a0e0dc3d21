-- What a List comes to before its bytes are looked at: they join a transcript, or it is answered without them (profile).
use Rattle.std.specs.Prelude.{◌≡◌, ℕ, ◌&&◌, nat_le, true, List, [], slice_get, Option, Some, None}
use Rattle.nv_core.specs.Seat.{bytes_told}
use Rattle.nv_laws_sound.specs.Side.{Side}
use Rattle.nv_machine.specs.Doing.{owner_in, replied, tag_at}
use Rattle.nv_machine.specs.Machine.{call, fetch}
use Rattle.nv_mem.specs.GuestMap.{all_mapped}
use Rattle.nv_model.specs.Limits.{part_size}
use Rattle.nv_model.specs.Transcript.{ReadDone}
use Rattle.nv_model.specs.declared.reply.Reply.{Reply}
use Rattle.nv_model.specs.declared.reply.Reply.TheVariants as reply
use Rattle.nv_world_model.specs.Geometry.{Geometry, regions_of}
use Rattle.nv_world_model.specs.Seat.{Owner}
use Rattle.nv_world_model.specs.World.{Command, Taken}
use Rattle.nv_world_model.specs.declared.event.Event.TheVariants as event

-- the bytes are read in a guest's memory, for its command that was taken
pub record IsListed (geometry : Geometry) (s : Side) (lane tag addr len number : ℕ) : Type 0 where
  pub command : Command
  pub reads : List ReadDone
  pub is : tag_at s lane tag ≡ Some (Taken command reads)
  pub led : command.leader ≡ tag
  pub owner : Owner
  pub owns : owner_in geometry s command.guest ≡ Some owner
  pub given : slice_get geometry.guests number ≡ Some owner.given
  pub mapped : all_mapped (regions_of owner.given) addr len ≡ true
  pub fits : (nat_le 1 len && nat_le len part_size) ≡ true

-- nothing is read, whatever was fetched
pub record IsUnlisted (geometry : Geometry) (s : Side) (lane tag addr len : ℕ) (r : Reply) : Type 0 where
  pub fetches : fetch geometry (event.List lane tag addr len) s ≡ []
  pub calls : (fetched : List ℕ) → call geometry (event.List lane tag addr len) fetched s ≡ replied r (record { side = s; effects = [] })
  pub told : bytes_told r ≡ None

-- the reply: the bytes, or another
abbrev pub bytes_or : (bytes : List ℕ) → (other : Option Reply) → Reply
bytes_or bytes None = reply.Bytes bytes
bytes_or bytes (Some r) = r
