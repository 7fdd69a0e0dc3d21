-- Bags of commands by name, and the numbers of units that are left.
use Rattle.std.proofs.Common.{◌≡◌, ℕ, zero, suc, ◌+◌, ◌<◌, Bool, true, false, cond, not, ◌||◌, ◌==◌, List, [], ◌∷◌, length, slice_get, remove, Option, Some}
use Rattle.std.proofs.Common.{None, arith, refl, sym, ap, ◌∙◌, subst, eq-eqb, eqb-true}
use Rattle.std.proofs.lemmas.Bool.Decides.{nat_tests}
use mathlib.Core.Path.{fun_ext}
use Rattle.std.specs.Bool.{⊤}
use Rattle.std.specs.List.{list_any, range_with_len}
use Rattle.nv_model.specs.Judge.{WorkUnit, Work}
use Rattle.nv_model.specs.Private.{Bag, Taken, others, put, unit_left}

-- ---- bags

-- what was put under a name is there
pub put-here : (bag : Bag) (name : ℕ) (member : Option Taken) → put bag name member name ≡ member
put-here bag name member = rw (eq-eqb name name refl) refl

-- under other names nothing has changed
pub put-elsewhere : (bag : Bag) (name : ℕ) (member : Option Taken) (at : ℕ) → (at ≡ name → ⊥)
    → put bag name member at ≡ bag at
put-elsewhere bag name member at other =
    (elim (at == name) as (λ b. (at == name) ≡ b → cond b member (bag at) ≡ bag at) [
      | true ↦ λ is. absurd (other (eqb-true at name is))
      | false ↦ λ is. refl
    ]) refl

-- what is put last under a name stays
pub put-twice : (bag : Bag) (name : ℕ) (first last : Option Taken)
    → put (put bag name first) name last ≡ put bag name last
put-twice bag name first last = fun_ext (λ at. twice (at == name) (bag at))
  where
    twice : (b : Bool) (before : Option Taken) → cond b last (cond b first before) ≡ cond b last before
    twice true before = refl
    twice false before = refl

-- to put what is there changes nothing
pub put-same : (bag : Bag) (name : ℕ) (member : Option Taken) → bag name ≡ member → put bag name member ≡ bag
put-same bag name member is = fun_ext (λ at.
    (elim (at == name) as (λ b. (at == name) ≡ b → cond b member (bag at) ≡ bag at) [
      | true ↦ λ same. sym is ∙ ap bag (sym (eqb-true at name same))
      | false ↦ λ same. refl
    ]) refl)

-- ---- numbers that are left

-- a number that is not among them leaves them as they are
pub others-absent : (number : ℕ) (left : List ℕ) → list_any (λ k. k == number) left ≡ false → others number left ≡ left
others-absent number [] absent = refl
others-absent number (k ∷ left) absent =
    (elim (k == number) as (λ b. (b || list_any (λ j. j == number) left) ≡ false → cond (not b) (k ∷ others number left) (others number left) ≡ k ∷ left) [
      | true ↦ λ bad. cc
      | false ↦ λ none. ap (λ (rest : List ℕ). k ∷ rest) (others-absent number left none)
    ]) absent

-- a number below a range is not in it
pub range-absent : (number start n : ℕ) → number < start → list_any (λ k. k == number) (range_with_len start n) ≡ false
range-absent number start zero below = refl
range-absent number start (suc n) below =
    let unlike : (start == number) ≡ false = grind (arith, nat_tests) in
    rw unlike (range-absent number (start + 1) n (omega arith))

-- the first number of a range, and the others
pub others-first : (start n : ℕ) → others start (range_with_len start (suc n)) ≡ range_with_len (start + 1) n
others-first start n =
    let same : (start == start) ≡ true = eq-eqb start start refl in
    rw same (others-absent start (range_with_len (start + 1) n) (range-absent start (start + 1) n (omega arith)))

-- and its unit
pub unit_left-first : (work : Work) (start n : ℕ)
    → unit_left work (range_with_len start (suc n)) start ≡ slice_get work.units start
unit_left-first work start n = let same : (start == start) ≡ true = eq-eqb start start refl in rw same refl

-- no number stands among these twice
abbrev pub IsDistinct : List ℕ → Type 0
IsDistinct [] = ⊤
IsDistinct (k ∷ left) = (list_any (λ j. j == k) left ≡ false) × IsDistinct left

or-none : (a b : Bool) → (a || b) ≡ false → (a ≡ false) × (b ≡ false)
or-none true b bad = cc
or-none false b none = (refl, none)

absent-others : (k number : ℕ) (left : List ℕ) → list_any (λ j. j == k) left ≡ false
    → list_any (λ j. j == k) (others number left) ≡ false
absent-others k number [] absent = refl
absent-others k number (j ∷ left) absent =
    (elim (j == number) as (λ gone. list_any (λ i. i == k) (cond (not gone) (j ∷ others number left) (others number left)) ≡ false) [
      | true ↦ absent-others k number left (or-none (j == k) (list_any (λ i. i == k) left) absent).1
      | false ↦
          let parts = or-none (j == k) (list_any (λ i. i == k) left) absent in
          rw (parts.0, absent-others k number left parts.1) refl
    ])

-- nor does one once some are gone
pub IsDistinct-others : (number : ℕ) (left : List ℕ) → IsDistinct left → IsDistinct (others number left)
IsDistinct-others number [] distinct = tt
IsDistinct-others number (k ∷ left) distinct =
    (elim (k == number) as (λ gone. IsDistinct (cond (not gone) (k ∷ others number left) (others number left))) [
      | true ↦ IsDistinct-others number left distinct.1
      | false ↦ (absent-others k number left distinct.0, IsDistinct-others number left distinct.1)
    ])

pub IsDistinct-range : (start n : ℕ) → IsDistinct (range_with_len start n)
IsDistinct-range start zero = tt
IsDistinct-range start (suc n) = (range-absent start (start + 1) n (omega arith), IsDistinct-range (start + 1) n)

-- ---- the units of these numbers

-- a unit, where there is one, in front of others
abbrev with_unit : Option WorkUnit → List WorkUnit → List WorkUnit
with_unit None units = units
with_unit (Some unit) units = unit ∷ units

pub numbered : List WorkUnit → List ℕ → List WorkUnit
numbered units [] = []
numbered units (k ∷ left) = with_unit (slice_get units k) (numbered units left)

pub numbered-none : (units : List WorkUnit) → numbered units [] ≡ []
unfolding numbered
numbered-none units = refl

-- the units of all numbers are all units
numbered-from : (units rest : List WorkUnit) (start : ℕ)
    → ((i : ℕ) → i < length rest → slice_get units (start + i) ≡ slice_get rest i)
    → numbered units (range_with_len start (length rest)) ≡ rest
unfolding numbered
numbered-from units [] start each = refl
numbered-from units (unit ∷ rest) start each =
    let here : start + 0 ≡ start = omega arith in
    let first : slice_get units start ≡ Some unit = subst (λ (n : ℕ). slice_get units n ≡ Some unit) here (each 0 (omega arith)) in
    rw (
      first,
      numbered-from units rest (start + 1)
          (λ i below. let next : start + suc i ≡ start + 1 + i = omega arith in subst (λ (n : ℕ). slice_get units n ≡ slice_get rest i) next (each (suc i) (omega arith))),
    ) refl

pub numbered-all : (units : List WorkUnit) → numbered units (range_with_len 0 (length units)) ≡ units
numbered-all units =
    numbered-from units units 0 (λ i below. let same : 0 + i ≡ i = omega arith in ap (slice_get units) same)

-- where the unit of a number that is left stands among those that are, and which are left without it
pub record StandsAt (units : List WorkUnit) (left : List ℕ) (number : ℕ) (unit : WorkUnit) : Type 0 where
  pub place : ℕ
  pub found : slice_get (numbered units left) place ≡ Some unit
  pub rest : remove (numbered units left) place ≡ numbered units (others number left)

stands_first : (units : List WorkUnit) (k : ℕ) (left : List ℕ) (unit : WorkUnit) → slice_get units k ≡ Some unit
    → list_any (λ j. j == k) left ≡ false → StandsAt units (k ∷ left) k unit
unfolding numbered
stands_first units k left unit is absent =
    let same : (k == k) ≡ true = eq-eqb k k refl in
    record {
      place = 0;
      found = rw is refl;
      rest = rw (is, same, others-absent k left absent) refl;
    }

stands_behind : (units : List WorkUnit) (k number : ℕ) (left : List ℕ) (unit : WorkUnit) → (k == number) ≡ false
    → (o : Option WorkUnit)
    → slice_get units k ≡ o → StandsAt units left number unit → StandsAt units (k ∷ left) number unit
unfolding numbered
stands_behind units k number left unit unlike None is behind =
    record { place = behind.place; found = rw is behind.found; rest = rw (unlike, is) behind.rest }
stands_behind units k number left unit unlike (Some first) is behind =
    record {
      place = suc behind.place;
      found = rw is behind.found;
      rest = rw (unlike, is) (ap (λ (us : List WorkUnit). first ∷ us) behind.rest);
    }

pub stands_at : (units : List WorkUnit) (left : List ℕ) (number : ℕ) (unit : WorkUnit) → IsDistinct left
    → list_any (λ j. j == number) left ≡ true → slice_get units number ≡ Some unit → StandsAt units left number unit
stands_at units [] number unit distinct there is = cc
stands_at units (k ∷ left) number unit distinct there is =
    (elim (k == number) as (λ b. (k == number) ≡ b → (b || list_any (λ j. j == number) left) ≡ true → StandsAt units (k ∷ left) number unit) [
      | true ↦ λ same _.
          let e : k ≡ number = eqb-true k number same in
          subst (λ (n : ℕ). StandsAt units (k ∷ left) n unit) e (stands_first units k left unit (ap (slice_get units) e ∙ is) distinct.0)
      | false ↦ λ unlike further. stands_behind units k number left unit unlike (slice_get units k) refl (stands_at units left number unit distinct.1 further is)
    ]) refl there
