-- What is delivered at last of a command, tag by tag (profile).
use Rattle.std.specs.Prelude.{ℕ, if◌then◌else◌, List, [], length, Option, Some, None}
use Rattle.nv_mem.specs.Places.{Place, places_of}
use Rattle.nv_model.specs.Judge.{is_read}
use Rattle.nv_model.specs.Memory.{bytes_from}
use Rattle.nv_world_model.specs.Plan.{Answer, Bounced, Direct, NoData, Plan}
use Rattle.nv_world_model.specs.World.{Ended, Flying, Free, Tag, Taken}
use Rattle.nv_laws.specs.Places.{HasAt}

-- the places of a guest's memory that the bytes of a plan reach at last: those of a bounced Read
abbrev pub plan_delivered : Plan → List Place
plan_delivered (Answer st) = []
plan_delivered (NoData work) = []
plan_delivered (Direct work) = []
plan_delivered (Bounced work) = if is_read work.opcode then places_of work.pieces else []

-- and those of a tag's share, which has ended
abbrev pub delivered_places : Option Tag → List Place
delivered_places None = []
delivered_places (Some Free) = []
delivered_places (Some (Taken command reads)) = []
delivered_places (Some (Flying command share standing)) = []
delivered_places (Some (Ended command st None)) = []
delivered_places (Some (Ended command st (Some share))) = plan_delivered share.plan

-- a memory has at these places what is in the host from there on
abbrev pub HasPage : (memory host : ℕ → ℕ) → (bounce : ℕ) → List Place → Type 0
HasPage memory host bounce places = HasAt memory places (bytes_from host bounce (length places))
