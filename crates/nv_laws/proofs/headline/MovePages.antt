-- Bytes that a memory has at a block's places, and that stand in its page; and what is left behind a unit.
use Rattle.std.proofs.Common.{◌≡◌, ℕ, zero, suc, ◌+◌, ◌<◌, ◌≤◌, Bool, true, false, not, ◌&&◌, ◌||◌, ◌==◌, List, [], ◌∷◌, length, slice_get}
use Rattle.std.proofs.Common.{Some, arith, refl, sym, ap, ◌∙◌, eq-eqb}
use Rattle.std.specs.List.{list_any, range_with_len}
use Rattle.std.proofs.lemmas.Bool.{ne_eqb}
use Rattle.nv_mem.specs.Places.{At, Bucket, Place}
use Rattle.nv_model.proofs.Endings.{and-true}
use Rattle.nv_model.specs.Memory.{bytes_from}
use Rattle.nv_model.specs.Private.{others}
use Rattle.nv_laws.proofs.related.Keeping.{any-filter}
use Rattle.nv_laws.specs.Places.{HasAt}

pub page-has : (host memory : ℕ → ℕ) (from len : ℕ) (places : List Place) → length places ≡ len
    → ((i addr : ℕ) → slice_get places i ≡ Some (At addr) → host (from + i) ≡ memory addr) → HasAt memory places (bytes_from host from len)
unfolding bytes_from
page-has host memory from zero [] sized same = tt
page-has host memory from (suc len) [] sized same = absurd (omega (arith, sized))
page-has host memory from zero (place ∷ places) sized same = absurd (omega (arith, sized))
page-has host memory from (suc len) (At addr ∷ places) sized same =
    let here : from + 0 ≡ from = omega arith in (
      sym (ap host (sym here) ∙ same 0 addr refl),
      page-has host memory (suc from) len places (omega (arith, sized))
          (λ i x at. (let next : suc from + i ≡ from + suc i = omega arith in ap host next ∙ same (suc i) x at)),
    )
page-has host memory from (suc len) (Bucket ∷ places) sized same =
    page-has host memory (suc from) len places (omega (arith, sized))
    (λ i x at. (let next : suc from + i ≡ from + suc i = omega arith in ap host next ∙ same (suc i) x at))

pub has-page : (host memory : ℕ → ℕ) (from len : ℕ) (places : List Place) → HasAt memory places (bytes_from host from len) → (i addr : ℕ)
    → slice_get places i ≡ Some (At addr) → host (from + i) ≡ memory addr
unfolding bytes_from
has-page host memory from len [] has i addr at = cc
has-page host memory from zero (place ∷ places) has i addr at = absurd has
has-page host memory from (suc len) (At x ∷ places) has zero addr at =
    let here : from + 0 ≡ from = omega arith in
    let same : x ≡ addr = cc in
    ap host here ∙ sym has.0 ∙ ap memory same
has-page host memory from (suc len) (At x ∷ places) has (suc i) addr at =
    let next : suc from + i ≡ from + suc i = omega arith in
    ap host (sym next) ∙ has-page host memory (suc from) len places has.1 i addr at
has-page host memory from (suc len) (Bucket ∷ places) has zero addr at = cc
has-page host memory from (suc len) (Bucket ∷ places) has (suc i) addr at =
    let next : suc from + i ≡ from + suc i = omega arith in
    ap host (sym next) ∙ has-page host memory (suc from) len places has i addr at

-- ---- what is left behind a unit

-- another unit that is left no longer was not left before
pub left-before : (unit index : ℕ) (left : List ℕ) → (index ≡ unit → ⊥) → not (list_any (λ k. k == index) (others unit left)) ≡ true
    → not (list_any (λ k. k == index) left) ≡ true
left-before unit index left apart e =
    sym
    (ap not
    (any-filter (λ k. not (k == unit)) left index ∙ ap (λ b. not b && list_any (λ k. k == index) left) (ne_eqb index unit apart)))
    ∙ e

-- and the unit is left no longer
pub gone-left : (unit : ℕ) (left : List ℕ) → list_any (λ k. k == unit) (others unit left) ≡ false
gone-left unit left =
    any-filter (λ k. not (k == unit)) left unit ∙ ap (λ b. not b && list_any (λ k. k == unit) left) (eq-eqb unit unit refl)

-- what was not left still isn't
pub gone-still : (unit index : ℕ) (left : List ℕ) → not (list_any (λ k. k == index) left) ≡ true → not (list_any (λ k. k == index) (others unit left)) ≡ true
gone-still unit index left e = ap not (any-filter (λ k. not (k == unit)) left index) ∙ with_it (not (index == unit)) (list_any (λ k. k == index) left) e
  where
    with_it : (a b : Bool) → not b ≡ true → not (a && b) ≡ true
    with_it true b e = e
    with_it false b e = refl

-- one of a row that passes
pub row-some : (test : ℕ → Bool) (at from len : ℕ) → from ≤ at → at < from + len → test at ≡ true → list_any test (range_with_len from len) ≡ true
row-some test at from zero low high e = absurd (omega (arith, low, high))
row-some test at from (suc len) low high e =
    (elim (test from) as (λ b. test from ≡ b → (b || list_any test (range_with_len (from + 1) len)) ≡ true) [
      | true ↦ λ is. refl
      | false ↦ λ is. row-some test at (from + 1) len (omega (arith, low, apart is)) (omega (arith, high)) e
    ]) refl
  where
    apart : test from ≡ false → from ≡ at → ⊥
    apart is same = let bad : true ≡ false = sym e ∙ sym (ap test same) ∙ is in cc

-- what is left behind a unit was left before it
pub still-left : (unit index : ℕ) (left : List ℕ) → list_any (λ k. k == index) (others unit left) ≡ true → list_any (λ k. k == index) left ≡ true
still-left unit index left e =
    (and-true (not (index == unit)) (list_any (λ k. k == index) left) (sym (any-filter (λ k. not (k == unit)) left index) ∙ e)).1
