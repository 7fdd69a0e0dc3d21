-- Lemmas on regions that meet, and on those that are apart.
use Rattle.std.proofs.Common.{◌≡◌, ℕ, ◌+◌, ◌<◌, ◌||◌, List, length, get_or, drop, drop-cons, add-one}
use Rattle.std.specs.List.{list_any}
use Rattle.nv_mem.specs.declared.region.Region.{Region}
use Rattle.nv_mem.specs.MapRefusal.{regions_meet, any_two_meet}

-- the step of the search for two that meet
pub any_two_meet_drop : (rs : List Region) (i : ℕ) (d : Region) → i < length rs
    → any_two_meet (drop i rs) ≡ (list_any (regions_meet (get_or rs i d)) (drop (i + 1) rs) || any_two_meet (drop (i + 1) rs))
any_two_meet_drop rs i d below = rw (add-one, drop-cons rs i d)
