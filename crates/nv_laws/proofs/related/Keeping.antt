-- Steps by which blocks become kept.
use Rattle.std.proofs.Common.{◌≡◌, ℕ, zero, suc, ◌+◌, ◌<◌, ◌≤◌, inl, inr, Bool, true, false, cond, ◌&&◌, ◌||◌, ◌==◌}
use Rattle.std.proofs.Common.{List, [], ◌∷◌, All, filter, map, Some, arith, refl, sym, ap, ◌∙◌, eq-eqb}
use Rattle.std.specs.List.{list_any, range_with_len}
use Rattle.std.proofs.lemmas.Bool.{cases_eq, lt-ltb, ne_eqb}
use Rattle.std.proofs.lemmas.List.Elements.{All-head, All-tail}
use Rattle.nv_model.specs.Private.{KeepStep, Private, Shape, further, marked, run_of, step, unseen}

-- the marks with these blocks kept
pub keep_all : List ℕ → (ℕ → Bool) → ℕ → Bool
keep_all [] kept = kept
keep_all (lba ∷ lbas) kept = keep_all lbas (marked kept lba true)

keep-one : (shape : Shape) (lba : ℕ) (p : Private) → lba < shape.blocks → step shape (KeepStep lba) p ≡ unseen (record p { kept = marked p.kept lba true })
unfolding step
keep-one shape lba p below = rw (lt-ltb lba shape.blocks below) refl

pub keep-run : (shape : Shape) (lbas : List ℕ) (p : Private) → All (λ lba. lba < shape.blocks) lbas
    → run_of shape (map KeepStep lbas) p ≡ Some (record { state = record p { kept = keep_all lbas p.kept }; seen = [] })
unfolding run_of keep_all
keep-run shape [] p each = refl
keep-run shape (lba ∷ lbas) p each =
    ap (λ o. further o (λ q. run_of shape (map KeepStep lbas) q)) (keep-one shape lba p (All-head (λ n. n < shape.blocks) lba lbas each))
    ∙ ap (λ o. further (unseen p) (λ _. o))
    (keep-run shape lbas (record p { kept = marked p.kept lba true }) (All-tail (λ n. n < shape.blocks) lba lbas each))

-- a block is kept where it is one of these, or was
pub keep_all-is : (lbas : List ℕ) (kept : ℕ → Bool) (at : ℕ) → keep_all lbas kept at ≡ (list_any (λ lba. lba == at) lbas || kept at)
unfolding keep_all
keep_all-is [] kept at = refl
keep_all-is (lba ∷ lbas) kept at =
    keep_all-is lbas (marked kept lba true) at
    ∙ elim (cases_eq lba at) [
      | inl same ↦ by_here (ap (λ b. cond b true (kept at)) (eq-eqb at lba (sym same))) (eq-eqb lba at same)
      | inr other ↦ by_other (ap (λ b. cond b true (kept at)) (ne_eqb at lba (λ e. other (sym e)))) (ne_eqb lba at other)
    ]
  where
    rest : Bool
    rest = list_any (λ n. n == at) lbas

    or-true : (b : Bool) → (b || true) ≡ true
    or-true true = refl
    or-true false = refl

    by_here : marked kept lba true at ≡ true → (lba == at) ≡ true → (rest || marked kept lba true at) ≡ (((lba == at) || rest) || kept at)
    by_here is e = ap (λ b. rest || b) is ∙ or-true rest ∙ sym (ap (λ b. (b || rest) || kept at) e)

    by_other : marked kept lba true at ≡ kept at → (lba == at) ≡ false → (rest || marked kept lba true at) ≡ (((lba == at) || rest) || kept at)
    by_other is e = ap (λ b. rest || b) is ∙ sym (ap (λ b. (b || rest) || kept at) e)

-- ---- rows of blocks

pub row-any : (at from len : ℕ) → from ≤ at → at < from + len → list_any (λ n. n == at) (range_with_len from len) ≡ true
row-any at from zero low high = absurd (omega (arith, low, high))
row-any at from (suc len) low high =
    elim (cases_eq from at) [
      | inl same ↦ ap (λ b. b || list_any (λ n. n == at) (range_with_len (from + 1) len)) (eq-eqb from at same)
      | inr other ↦ any-later (from == at) (row-any at (from + 1) len (omega (arith, low, other)) (omega (arith, high)))
    ]
  where
    any-later : (b : Bool) → list_any (λ n. n == at) (range_with_len (from + 1) len) ≡ true → (b || list_any (λ n. n == at) (range_with_len (from + 1) len)) ≡ true
    any-later true e = refl
    any-later false e = e

none-is : (b : Bool) → false ≡ (b && false)
none-is true = refl
none-is false = refl

-- one of those that pass is one that passes
pub any-filter : (p : ℕ → Bool) (xs : List ℕ) (at : ℕ) → list_any (λ n. n == at) (filter p xs) ≡ (p at && list_any (λ n. n == at) xs)
any-filter p [] at = none-is (p at)
any-filter p (x ∷ xs) at =
    elim (cases_eq x at) [
      | inl same ↦ here (any-filter p xs at) (p x) refl (ap p same) (eq-eqb x at same)
      | inr other ↦ elsewhere (any-filter p xs at) (p x) (ne_eqb x at other)
    ]
  where
    rest : Bool
    rest = list_any (λ n. n == at) xs

    here : list_any (λ n. n == at) (filter p xs) ≡ (p at && rest) → (b : Bool) → p x ≡ b → p x ≡ p at → (x == at) ≡ true
        → list_any (λ n. n == at) (cond b (x ∷ filter p xs) (filter p xs)) ≡ (p at && ((x == at) || rest))
    here further_on true is same e =
        ap (λ c. c || list_any (λ n. n == at) (filter p xs)) e ∙ sym (ap (λ c. c && ((x == at) || rest)) (sym same ∙ is) ∙ ap (λ c. c || rest) e)
    here further_on false is same e =
        further_on ∙ ap (λ c. c && rest) (sym same ∙ is) ∙ sym (ap (λ c. c && ((x == at) || rest)) (sym same ∙ is))

    elsewhere : list_any (λ n. n == at) (filter p xs) ≡ (p at && rest) → (b : Bool) → (x == at) ≡ false
        → list_any (λ n. n == at) (cond b (x ∷ filter p xs) (filter p xs)) ≡ (p at && ((x == at) || rest))
    elsewhere further_on true e = ap (λ c. c || list_any (λ n. n == at) (filter p xs)) e ∙ further_on ∙ sym (ap (λ c. p at && (c || rest)) e)
    elsewhere further_on false e = further_on ∙ sym (ap (λ c. p at && (c || rest)) e)
