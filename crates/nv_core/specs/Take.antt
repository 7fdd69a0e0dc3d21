-- What a Take comes to for the guest's controller and the lane (profile).
use Rattle.std.specs.Prelude.{◌≡◌, ℕ, Bool, false, List, [], Option, Some, None, is_some}
use Rattle.nv_core.specs.Groups.{tags_changed}
use Rattle.nv_laws_sound.specs.Side.{Side}
use Rattle.nv_machine.specs.Doing.{owner_in}
use Rattle.nv_model.specs.Controller.{Controller, front, took}
use Rattle.nv_model.specs.Memory.{bytes_from, image}
use Rattle.nv_model.specs.Queue.{sqe_size}
use Rattle.nv_model.specs.declared.reply.Reply.{Reply}
use Rattle.nv_model.specs.declared.reply.Reply.TheVariants as reply
use Rattle.nv_ns.specs.Extents.{Namespace}
use Rattle.nv_world_model.specs.Geometry.{Geometry, regions_of}
use Rattle.nv_world_model.specs.Seat.{Owner}
use Rattle.nv_world_model.specs.Share.{tags_of_entry}
use Rattle.nv_world_model.specs.World.{Command, Lane, Tag, Taken, claimed, lowest}

-- nothing was taken
pub record IsNothingTaken (answer r : Reply) (c c_new : Controller) (l l_new : Lane) : Type 0 where
  pub reply : r ≡ answer
  pub controller : c_new ≡ c
  pub lane : l_new ≡ l

-- the command with that entry, by these tags
abbrev pub command_by : (tags : List ℕ) → (entry : List ℕ) → (guest queue : ℕ) → Command
command_by tags entry guest queue = record { guest = guest; queue = queue; entry = entry; leader = lowest tags }

-- that entry was taken under these tags
pub record IsUnder (tags entry : List ℕ) (guest queue : ℕ) (r : Reply) (c c_new : Controller) (l l_new : Lane) : Type 0 where
  pub reply : r ≡ reply.Done
  pub controller : c_new ≡ took c queue
  pub lane : l_new ≡ tags_changed tags (Taken (command_by tags entry guest queue) []) l

-- that entry was taken, where enough tags are free
abbrev pub IsTagged : Option (List ℕ) → (entry : List ℕ) → (guest queue : ℕ) → Reply → (c c_new : Controller) → (l l_new : Lane) → Type 0
IsTagged None entry guest queue r c c_new l l_new = IsNothingTaken reply.Busy r c c_new l l_new
IsTagged (Some tags) entry guest queue r c c_new l l_new = IsUnder tags entry guest queue r c c_new l l_new

-- the front entry of a queue was taken, where there is one
abbrev pub IsFrontTaken : Option ℕ → (guest queue : ℕ) → Namespace → (entry : List ℕ) → Reply → (c c_new : Controller) → (l l_new : Lane) → Type 0
IsFrontTaken None guest queue ns entry r c c_new l l_new = IsNothingTaken reply.Idle r c c_new l l_new
IsFrontTaken (Some addr) guest queue ns entry r c c_new l l_new =
    IsTagged (claimed (tags_of_entry ns entry) l.tags) entry guest queue r c c_new l l_new

-- an entry is the one at the front of a guest's queue, where there is one
abbrev pub IsFrontIn : Geometry → Side → (guest queue : ℕ) → (host : ℕ → ℕ) → (entry : List ℕ) → Type 0
IsFrontIn geometry s guest queue host entry =
    (o : Owner) (addr : ℕ) → owner_in geometry s guest ≡ Some o → front o.controller queue ≡ Some addr
    → entry ≡ bytes_from (image (regions_of o.given) host) addr sqe_size

-- whether it may be taken: it is there, and enough tags are free
abbrev pub is_front_takeable : Option ℕ → Namespace → (memory : ℕ → ℕ) → List Tag → Bool
is_front_takeable None ns memory tags = false
is_front_takeable (Some addr) ns memory tags = is_some (claimed (tags_of_entry ns (bytes_from memory addr sqe_size)) tags)
