-- What an act gives in a guest's seat: its host and its controller after the act, and the reply (profile).
use Rattle.std.specs.Prelude.{◌≡◌, ◌⊎◌, ℕ, Bool, false, nat_lt, List, Option, Some, None}
use Rattle.nv_admin.specs.declared.reply.Admin.{Admin}
use Rattle.nv_admin.specs.declared.reply.Admin.TheVariants as admin
use Rattle.nv_mem.specs.declared.region.Region.{Region}
use Rattle.nv_model.specs.Controller.{Controller}
use Rattle.nv_model.specs.Memory.{image, put_image}
use Rattle.nv_model.specs.Private.{Acted, Bag, Private, acted}
use Rattle.nv_model.specs.declared.act.Act.{Act}
use Rattle.nv_model.specs.declared.act.Act.TheVariants as act
use Rattle.nv_model.specs.declared.reply.Reply.{Reply}
use Rattle.nv_model.specs.declared.reply.Reply.TheVariants as reply
use Rattle.nv_world_model.specs.Geometry.{Guest, regions_of, shape_of}

-- the private controller with the image of a host as its memory
abbrev pub seated : Guest → (host : ℕ → ℕ) → Controller → (disk : ℕ → ℕ → ℕ) → (kept : ℕ → Bool) → Bag → Private
seated given host c disk kept bag =
    record { memory = image (regions_of given) host; disk = disk; kept = kept; controller = c; bag = bag }

-- an act of a private controller came to this: the reply, the controller, and the host with its memory put back
pub record IsActedAs (regions : List Region) (before : ℕ → ℕ) (x : Acted) (r : Reply) (after : ℕ → ℕ) (c : Controller) : Type 0 where
  pub reply : r ≡ x.reply
  pub controller : c ≡ x.state.controller
  pub host : after ≡ put_image regions x.state.memory before

-- the act of a guest, whatever its blocks and its taken commands are
abbrev pub IsActed : Guest → Act → (host : ℕ → ℕ) → Controller → Reply → (host_new : ℕ → ℕ) → (c_new : Controller) → Type 0
IsActed given a host c reply host_new c_new =
    (disk : ℕ → ℕ → ℕ) (kept : ℕ → Bool) (bag : Bag)
    → IsActedAs (regions_of given) host (acted (shape_of given) a (seated given host c disk kept bag)) reply host_new c_new

-- whether an act asks for more bytes than a reply holds without memory of their own
abbrev pub is_long_load : Act → Bool
is_long_load (act.Store addr bytes) = false
is_long_load (act.Load addr len) = nat_lt 7 len
is_long_load (act.RegRead offset) = false
is_long_load (act.RegWrite offset value) = false
is_long_load (act.Doorbell offset value) = false

-- what the event of an admin queue is answered
abbrev pub told_by : Admin → Reply
told_by admin.Done = reply.Done
told_by admin.Idle = reply.Idle
told_by admin.Held = reply.Held

-- the bytes that a reply returns, where it returns some
abbrev pub bytes_told : Reply → Option (List ℕ)
bytes_told reply.Done = None
bytes_told (reply.Bytes bytes) = Some bytes
bytes_told reply.Idle = None
bytes_told reply.Busy = None
bytes_told reply.Held = None
bytes_told reply.Stale = None
bytes_told reply.Unmapped = None
bytes_told reply.Ignored = None
bytes_told reply.NoMemory = None

-- the bytes of a load are in the buffer that was lent for them, which is answered by Done; or nothing was loaded, and the buffer is as it was
abbrev pub IsLoaded : (IsReply : Reply → Type 0) → Reply → (before after : List ℕ) → Type 0
IsLoaded IsReply r before after =
    (r ≡ reply.Done) × IsReply (reply.Bytes after) ⊎ (bytes_told r ≡ None) × (after ≡ before) × IsReply r
