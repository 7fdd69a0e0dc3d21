-- The list that parts in place are: none, one, or more.
use Rattle.std.specs.Prelude.{◌≡◌, ◌≤◌, List, [], ◌∷◌, length}
use Rattle.std.proofs.Common.{refl, arith}
use Rattle.nv_ns.specs.Extents.{Cut, most_extents}
use Rattle.nv_ns.specs.declared.parts.Kept.{Kept}
use Rattle.nv_ns.specs.declared.parts.Kept.TheVariants.{More, None, One}

-- the parts, in order
abbrev pub listed : Kept → List Cut
listed None = []
listed (One part) = part ∷ []
listed (More parts) = parts

-- several are at least two, and at most eight
abbrev pub IsKept : Kept → Type 0
IsKept None = Unit {0}
IsKept (One part) = Unit {0}
IsKept (More parts) = (2 ≤ length parts) × (length parts ≤ most_extents)

-- how a list of them is stored
abbrev pub kept_of : List Cut → Kept
kept_of [] = None
kept_of (part ∷ []) = One part
kept_of (part ∷ next ∷ rest) = More (part ∷ next ∷ rest)

several_back : (parts : List Cut) → 2 ≤ length parts → kept_of parts ≡ More parts
several_back [] some = absurd (omega arith)
several_back (part ∷ []) some = absurd (omega arith)
several_back (part ∷ next ∷ rest) some = refl

-- and it is stored so
pub listed_back : (kept : Kept) → IsKept kept → kept_of (listed kept) ≡ kept
listed_back None is = refl
listed_back (One part) is = refl
listed_back (More parts) is = several_back parts is.0
