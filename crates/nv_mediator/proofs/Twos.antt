-- Whether some two members of a list meet, member by member.
use Rattle.std.proofs.Common.{◌≡◌, ℕ, ◌+◌, ◌<◌, ◌||◌, ◌++◌, Bool, List, drop, drop-cons, add-one, get_or, length, ap, ◌∙◌}
use Rattle.std.specs.List.{list_any}
use Rattle.std.proofs.lemmas.List.Folds.{list_any-append}
use Rattle.nv_ns.specs.BlockRange.{Extent}
use Rattle.nv_world_model.specs.Geometry.{Guest}
use Rattle.nv_world_model.specs.SetUp.{all_extents, any_two}

-- the step of the search
pub any_two_drop : {A : Type 0} (meet : A → A → Bool) (xs : List A) (i : ℕ) (d : A) → i < length xs
    → any_two meet (drop i xs) ≡ (list_any (meet (get_or xs i d)) (drop (i + 1) xs) || any_two meet (drop (i + 1) xs))
any_two_drop meet xs i d below = rw (add-one, drop-cons xs i d)

-- the extents of all guests, guest by guest
pub extents_drop : (guests : List Guest) (i : ℕ) (d : Guest) → i < length guests
    → all_extents (drop i guests) ≡ (get_or guests i d).namespace ++ all_extents (drop (i + 1) guests)
extents_drop guests i d below = rw (add-one, drop-cons guests i d)

pub any_extents_drop : (p : Extent → Bool) (guests : List Guest) (i : ℕ) (d : Guest) → i < length guests
    → list_any p (all_extents (drop i guests)) ≡ (list_any p (get_or guests i d).namespace || list_any p (all_extents (drop (i + 1) guests)))
any_extents_drop p guests i d below =
    ap (list_any p) (extents_drop guests i d below) ∙ list_any-append p (get_or guests i d).namespace (all_extents (drop (i + 1) guests))
