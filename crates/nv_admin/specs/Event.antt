-- What an event of the admin queue comes to, for its caller (profile).
use Rattle.std.specs.Prelude.{ℕ, Bool, true, false, List}
use Rattle.nv_mem.specs.declared.region.Region.{Region}
use Rattle.nv_model.specs.Admin.{AdminStep, NothingToDo, QueueFull, Stepped}
use Rattle.nv_model.specs.Controller.{Controller}
use Rattle.nv_model.specs.Memory.{put_image}
use Rattle.nv_admin.specs.declared.reply.Admin.{Admin}
use Rattle.nv_admin.specs.declared.reply.Admin.TheVariants as reply

-- the reply
abbrev pub reply_of : AdminStep → Admin
reply_of NothingToDo = reply.Idle
reply_of QueueFull = reply.Held
reply_of (Stepped c memory) = reply.Done

-- whether something was done
abbrev pub is_stepped : AdminStep → Bool
is_stepped NothingToDo = false
is_stepped QueueFull = false
is_stepped (Stepped c memory) = true

-- the controller after it
abbrev pub controller_behind : Controller → AdminStep → Controller
controller_behind c NothingToDo = c
controller_behind c QueueFull = c
controller_behind c (Stepped d memory) = d

-- and the host's bytes, with the guest's memory after it in the map
abbrev pub host_behind : List Region → (host : ℕ → ℕ) → AdminStep → ℕ → ℕ
host_behind regions host NothingToDo = host
host_behind regions host QueueFull = host
host_behind regions host (Stepped d memory) = put_image regions memory host
