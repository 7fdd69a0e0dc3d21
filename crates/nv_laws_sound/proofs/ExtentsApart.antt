-- Of extents no two of which meet: no block is in two of them, of one guest's or of two guests'.
use Rattle.std.proofs.Common.{◌≡◌, ℕ, zero, suc, ◌+◌, ◌<◌, ◌≤◌, Bool, true, false, cond, ◌||◌, nat_le, nat_lt, max, min}
use Rattle.std.proofs.Common.{List, [], ◌∷◌, ◌++◌, flat_map, slice_get, Some, arith, refl, sym, ap, ◌∙◌, leb-true, ltb-false, ltb-true}
use Rattle.std.specs.List.{count_by, list_any}
use Rattle.std.proofs.lemmas.List.Folds.{list_any-append}
use Rattle.std.proofs.lemmas.List.Sums.{sum_by-cons}
use Rattle.nv_ns.specs.BlockRange.{Extent}
use Rattle.nv_ns.specs.Extents.{Namespace, has_block}
use Rattle.nv_ns.specs.Laws.{AreApart}
use Rattle.nv_model.proofs.Endings.{and-true}
use Rattle.nv_world_model.specs.SetUp.{any_two, blocks_meet}

-- ---- tests of lists

pub or-none : (a b : Bool) → (a || b) ≡ false → (a ≡ false) × (b ≡ false)
or-none true b e = cc
or-none false b e = (refl, e)

or-both : (a b : Bool) → a ≡ false → b ≡ false → (a || b) ≡ false
or-both true b none also = cc
or-both false b none also = also

-- no member of the one meets one of the other
abbrev pub AreClear : {X : Type 0} → (meet : X → X → Bool) → (xs ys : List X) → Type 0
AreClear meet xs ys = list_any (λ x. list_any (meet x) ys) xs ≡ false

-- where no two of two lists meet, no two of each do, and none of the first meets one of the second
two-append : {X : Type 0} (meet : X → X → Bool) (xs ys : List X) → any_two meet (xs ++ ys) ≡ false
    → (any_two meet xs ≡ false) × ((any_two meet ys ≡ false) × AreClear meet xs ys)
two-append meet [] ys e = (refl, (e, refl))
two-append meet (x ∷ xs) ys e =
    let both = or-none (list_any (meet x) (xs ++ ys)) (any_two meet (xs ++ ys)) e in
    let rest = two-append meet xs ys both.1 in
    let first = or-none (list_any (meet x) xs) (list_any (meet x) ys) (sym (list_any-append (meet x) xs ys) ∙ both.0) in (
      or-both (list_any (meet x) xs) (any_two meet xs) first.0 rest.0,
      (rest.1.0, or-both (list_any (meet x) ys) (list_any (λ z. list_any (meet z) ys) xs) first.1 rest.1.1),
    )

module _ {A X : Type 0} (f : A → List X) where
  -- what no member of any of the lists passes, none of one of them does
  none-joined : (p : X → Bool) (owners : List A) (j : ℕ) (a : A) → list_any p (flat_map f owners) ≡ false → slice_get owners j ≡ Some a
      → list_any p (f a) ≡ false
  none-joined p [] j a none at = cc
  none-joined p (b ∷ owners) zero a none at =
      let same : b ≡ a = cc in
      ap (λ x. list_any p (f x)) (sym same)
      ∙ (or-none (list_any p (f b)) (list_any p (flat_map f owners)) (sym (list_any-append p (f b) (flat_map f owners)) ∙ none)).0
  none-joined p (b ∷ owners) (suc j) a none at =
      none-joined p owners j a
      (or-none (list_any p (f b)) (list_any p (flat_map f owners)) (sym (list_any-append p (f b) (flat_map f owners)) ∙ none)).1 at

  clear-joined : (meet : X → X → Bool) (xs : List X) (owners : List A) (j : ℕ) (a : A) → AreClear meet xs (flat_map f owners)
      → slice_get owners j ≡ Some a → AreClear meet xs (f a)
  clear-joined meet [] owners j a clear at = refl
  clear-joined meet (x ∷ xs) owners j a clear at =
      let both = or-none (list_any (meet x) (flat_map f owners)) (list_any (λ z. list_any (meet z) (flat_map f owners)) xs) clear in
      or-both (list_any (meet x) (f a)) (list_any (λ z. list_any (meet z) (f a)) xs)
      (none-joined (meet x) owners j a both.0 at) (clear-joined meet xs owners j a both.1 at)

  -- where no two of all lists joined meet, no two of one list do
  pub two-one : (meet : X → X → Bool) (owners : List A) (i : ℕ) (a : A) → any_two meet (flat_map f owners) ≡ false → slice_get owners i ≡ Some a
      → any_two meet (f a) ≡ false
  two-one meet [] i a clear at = cc
  two-one meet (b ∷ owners) zero a clear at =
      let same : b ≡ a = cc in
      ap (λ x. any_two meet (f x)) (sym same) ∙ (two-append meet (f b) (flat_map f owners) clear).0
  two-one meet (b ∷ owners) (suc i) a clear at = two-one meet owners i a (two-append meet (f b) (flat_map f owners) clear).1.0 at

  -- nor one of an earlier list and one of a later
  pub two-others : (meet : X → X → Bool) (owners : List A) (i j : ℕ) (a b : A) → any_two meet (flat_map f owners) ≡ false → i < j
      → slice_get owners i ≡ Some a → slice_get owners j ≡ Some b → AreClear meet (f a) (f b)
  two-others meet [] i j a b clear less at there = cc
  two-others meet (c ∷ owners) i zero a b clear less at there = absurd (omega arith)
  two-others meet (c ∷ owners) zero (suc j) a b clear less at there =
      let same : c ≡ a = cc in
      ap (λ x. list_any (λ z. list_any (meet z) (f b)) (f x)) (sym same)
      ∙ clear-joined meet (f c) owners j b (two-append meet (f c) (flat_map f owners) clear).1.1 there
  two-others meet (c ∷ owners) (suc i) (suc j) a b clear less at there =
      two-others meet owners i j a b (two-append meet (f c) (flat_map f owners) clear).1.0 (omega (arith, less)) at there

-- ---- extents

has_block-between : (e : Extent) (at : ℕ) → has_block at e ≡ true → (e.base ≤ at) × (at < e.base + e.blocks)
has_block-between e at has =
    let both = and-true (nat_le e.base at) (nat_lt at (e.base + e.blocks)) has in
    (leb-true e.base at both.0, ltb-true at (e.base + e.blocks) both.1)

-- no block is in two that don't meet
not_both : (e f : Extent) (at : ℕ) → blocks_meet e f ≡ false → has_block at e ≡ true → has_block at f ≡ true → ⊥
not_both e f at clear one other =
    let most = ltb-false (max e.base f.base) (min (e.base + e.blocks) (f.base + f.blocks)) clear in
    let here = has_block-between e at one in
    let there = has_block-between f at other in
    let low = here.0 in
    let high = here.1 in
    let low_too = there.0 in
    let high_too = there.1 in absurd (omega (arith, most, low, high, low_too, high_too))

refused : (b : Bool) → (b ≡ true → ⊥) → b ≡ false
refused true not_so = absurd (not_so refl)
refused false not_so = refl

-- a block that is in an extent is in none that it does not meet
met-none : (e : Extent) (fs : Namespace) (at : ℕ) → list_any (blocks_meet e) fs ≡ false → has_block at e ≡ true
    → list_any (has_block at) fs ≡ false
met-none e [] at clear has = refl
met-none e (f ∷ fs) at clear has =
    let both = or-none (blocks_meet e f) (list_any (blocks_meet e) fs) clear in
    or-both (has_block at f) (list_any (has_block at) fs) (refused (has_block at f) (not_both e f at both.0 has)) (met-none e fs at both.1 has)

-- one that is in one of some extents is in none of others that they don't meet
pub clear-none : (es fs : Namespace) (at : ℕ) → AreClear blocks_meet es fs → list_any (has_block at) es ≡ true
    → list_any (has_block at) fs ≡ false
clear-none [] fs at clear some = cc
clear-none (e ∷ es) fs at clear some =
    let both = or-none (list_any (blocks_meet e) fs) (list_any (λ x. list_any (blocks_meet x) fs) es) clear in
    (elim (has_block at e) as (λ b. has_block at e ≡ b → (b || list_any (has_block at) es) ≡ true → list_any (has_block at) fs ≡ false) [
      | true ↦ λ here one. met-none e fs at both.0 here
      | false ↦ λ here one. clear-none es fs at both.1 one
    ]) refl some

-- and the other way round
pub clear-none_back : (es fs : Namespace) (at : ℕ) → AreClear blocks_meet es fs → list_any (has_block at) fs ≡ true
    → list_any (has_block at) es ≡ false
clear-none_back es fs at clear some =
    refused (list_any (has_block at) es) (λ here. (let bad : true ≡ false = sym some ∙ clear-none es fs at clear here in cc))

-- extents of which no two meet are apart
pub extents-apart : (ns : Namespace) → any_two blocks_meet ns ≡ false → AreApart ns
extents-apart [] clear = λ at. omega arith
extents-apart (e ∷ rest) clear = λ at.
    (let both = or-none (list_any (blocks_meet e) rest) (any_two blocks_meet rest) clear in
    let more = extents-apart rest both.1 at in
    (elim (has_block at e) as (λ b. has_block at e ≡ b → count_by (has_block at) (e ∷ rest) ≡ cond b 1 0 + count_by (has_block at) rest
    → count_by (has_block at) (e ∷ rest) ≤ 1) [
      | true ↦ λ here count. (let none = count-none at rest (met-none e rest at both.0 here) in omega (arith, count, none))
      | false ↦ λ here count. omega (arith, count, more)
    ]) refl (count-cons at e rest))
  where
    count-cons : (at : ℕ) (e : Extent) (rest : Namespace)
        → count_by (has_block at) (e ∷ rest) ≡ cond (has_block at e) 1 0 + count_by (has_block at) rest
    count-cons at e rest = sum_by-cons (λ (x : Extent). cond (has_block at x) 1 0) e rest

    count-none : (at : ℕ) (rest : Namespace) → list_any (has_block at) rest ≡ false → count_by (has_block at) rest ≡ 0
    count-none at [] none = refl
    count-none at (e ∷ rest) none =
        let both = or-none (has_block at e) (list_any (has_block at) rest) none in
        let more = count-none at rest both.1 in
        let here : cond {A = ℕ} (has_block at e) 1 0 ≡ 0 = ap (λ b. cond {A = ℕ} b 1 0) both.0 in
        let sum = count-cons at e rest in omega (arith, more, here, sum)
