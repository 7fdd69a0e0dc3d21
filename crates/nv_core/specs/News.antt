-- Lanes of which something may be due (profile).
use Rattle.std.specs.Prelude.{ℕ, ◌||◌, ◌==◌, Bool, nat_lt, not, List, length, slice_get, Option}
use Rattle.std.specs.List.{filter, list_any}
use Rattle.std.specs.Option.{unwrap_or}
use Rattle.nv_core.specs.Reaping.{waits_in}
use Rattle.nv_core.specs.Tags.{ended_in, taken_in}
use Rattle.nv_tags.specs.Kept.{tags_in}
use Rattle.nv_world_model.specs.Geometry.{Geometry}
use Rattle.nv_world_model.specs.World.{Lane}

-- some part has ended, or a completion of the physical controller waits
abbrev pub has_news : Geometry → (lane : ℕ) → Option Lane → (memory : List ℕ) → Bool
has_news geometry lane l memory = nat_lt 0 (length (ended_in l)) || waits_in geometry lane l memory

-- the tags of a lane, where there is a mask of each lane's, and those that are none of them
abbrev pub tags_at : (masks : List ℕ) → (lane : ℕ) → List ℕ
tags_at masks lane = tags_in (unwrap_or (slice_get masks lane) 0)

abbrev pub others : (some tags : List ℕ) → List ℕ
others some tags = filter (λ tag. not (list_any (λ t. t == tag) some)) tags

-- some command waits for its plan, some part has ended that is none of these, or a completion of the physical controller waits
abbrev pub is_busy : Geometry → (lane : ℕ) → Option Lane → (held : List ℕ) → (memory : List ℕ) → Bool
is_busy geometry lane l held memory =
    nat_lt 0 (length (taken_in l)) || (nat_lt 0 (length (others held (ended_in l))) || waits_in geometry lane l memory)
