-- How many tags of a lane a guest's commands have (profile).
use Rattle.std.specs.Prelude.{ℕ, ◌==◌, Bool, false, Option, Some, None}
use Rattle.std.specs.List.{count_by}
use Rattle.nv_world_model.specs.World.{Ended, Flying, Free, Lane, Tag, Taken}

-- whether a tag is one of a command of that guest
abbrev pub is_of : (guest : ℕ) → Tag → Bool
is_of guest Free = false
is_of guest (Taken command reads) = command.guest == guest
is_of guest (Flying command share at) = command.guest == guest
is_of guest (Ended command st share) = command.guest == guest

-- the tags of a lane that are a guest's; none where there is no such lane
abbrev pub held_in : (guest : ℕ) → Option Lane → ℕ
held_in guest None = 0
held_in guest (Some l) = count_by (is_of guest) l.tags
