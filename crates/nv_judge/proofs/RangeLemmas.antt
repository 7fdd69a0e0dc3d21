-- Lemmas on the ranges of Dataset Management.
use Rattle.std.proofs.Common.{◌≡◌, ℕ, zero, suc, ◌+◌, ◌/◌, ◌<◌, Bool, true, false, ◌&&◌, cond, List}
use Rattle.std.proofs.Common.{[], ◌∷◌, length, take, drop, Result, Ok, Err, refl, sym, ap, ◌∙◌, arith}
use Rattle.std.specs.List.{list_all}
use Rattle.nv_entry.specs.Status.{StatusField}
use Rattle.nv_entry.specs.StatusCode.{refused_with}
use Rattle.nv_entry.specs.declared.status_code.StatusCode.TheVariants.{LbaOutOfRange}
use Rattle.nv_model.specs.Judge.{range_fits, ranges_in}
use Rattle.nv_judge.specs.Ranges.{ranges_verdict}

-- one more range in front
pub ranges_in-more : (bytes range more : List ℕ) → range ≡ take 16 bytes → more ≡ drop 16 bytes
    → length more + 16 ≡ length bytes
    → ranges_in (length bytes / 16) bytes ≡ range ∷ ranges_in (length more / 16) more
unfolding ranges_in
ranges_in-more bytes range more first rest sized =
    let e : length bytes / 16 ≡ suc (length more / 16) = omega arith in
    ap (λ (n : ℕ). ranges_in n bytes) e
    ∙ ap (λ (r : List ℕ). r ∷ ranges_in (length more / 16) (drop 16 bytes)) (sym first)
    ∙ ap (λ (m : List ℕ). range ∷ ranges_in (length more / 16) m) (sym rest)

-- no more ranges
pub ranges_in-none : (bytes : List ℕ) → length bytes < 16 → ranges_in (length bytes / 16) bytes ≡ []
unfolding ranges_in
ranges_in-none bytes few =
    let e : length bytes / 16 ≡ zero = omega arith in
    ap (λ (n : ℕ). ranges_in n bytes) e

-- the verdict on some ranges
verdict_on : (blocks : ℕ) → List (List ℕ) → Result (Unit {0}) StatusField
verdict_on blocks ranges = cond (list_all (range_fits blocks) ranges) (Ok tt) (Err (refused_with LbaOutOfRange))

pub ranges_verdict-none : (blocks : ℕ) (bytes : List ℕ) → length bytes < 16 → Ok tt ≡ ranges_verdict blocks bytes
unfolding verdict_on
ranges_verdict-none blocks bytes few = sym (ap (verdict_on blocks) (ranges_in-none bytes few))

pub ranges_verdict-fits : (blocks : ℕ) (bytes range more : List ℕ) → range ≡ take 16 bytes → more ≡ drop 16 bytes
    → length more + 16 ≡ length bytes
    → range_fits blocks range ≡ true → ranges_verdict blocks more ≡ ranges_verdict blocks bytes
unfolding verdict_on
ranges_verdict-fits blocks bytes range more first rest sized fits =
    sym (ap (verdict_on blocks) (ranges_in-more bytes range more first rest sized)
    ∙ ap (λ (b : Bool). cond (b && list_all (range_fits blocks) (ranges_in (length more / 16) more)) (Ok tt) (Err (refused_with LbaOutOfRange))) fits)

pub ranges_verdict-leaves : (blocks : ℕ) (bytes range more : List ℕ) → range ≡ take 16 bytes → more ≡ drop 16 bytes
    → length more + 16 ≡ length bytes
    → range_fits blocks range ≡ false → Err (refused_with LbaOutOfRange) ≡ ranges_verdict blocks bytes
unfolding verdict_on
ranges_verdict-leaves blocks bytes range more first rest sized leaves =
    sym (ap (verdict_on blocks) (ranges_in-more bytes range more first rest sized)
    ∙ ap (λ (b : Bool). cond (b && list_all (range_fits blocks) (ranges_in (length more / 16) more)) (Ok tt) (Err (refused_with LbaOutOfRange))) leaves)

-- the first range fits, and the others do
pub both-fit : (blocks : ℕ) (rest range more : List ℕ) → range ≡ take 16 rest → more ≡ drop 16 rest
    → length more + 16 ≡ length rest
    → list_all (range_fits blocks) (ranges_in (length rest / 16) rest) ≡ true
    → (range_fits blocks range ≡ true) × (list_all (range_fits blocks) (ranges_in (length more / 16) more) ≡ true)
both-fit blocks rest range more first others sized fit =
    both (range_fits blocks range) (list_all (range_fits blocks) (ranges_in (length more / 16) more))
    (sym (ap (list_all (range_fits blocks)) (ranges_in-more rest range more first others sized)) ∙ fit)
  where
    both : (a b : Bool) → a && b ≡ true → (a ≡ true) × (b ≡ true)
    both true b e = (refl, e)
    both false b e = (cc)

-- ranges that are not refused all fit
pub ranges-fit : (blocks : ℕ) (bytes : List ℕ) → ranges_verdict blocks bytes ≡ Ok tt
    → list_all (range_fits blocks) (ranges_in (length bytes / 16) bytes) ≡ true
ranges-fit blocks bytes e = by_test (list_all (range_fits blocks) (ranges_in (length bytes / 16) bytes)) e
  where
    by_test : (all : Bool)
        → ◌≡◌ {A = Result (Unit {0}) StatusField} (cond all (Ok tt) (Err (refused_with LbaOutOfRange))) (Ok tt)
        → all ≡ true
    by_test true e = refl
    by_test false e = (cc)

-- and of ranges that are refused one does not
pub ranges-leave : (blocks : ℕ) (bytes : List ℕ) (st : StatusField) → ranges_verdict blocks bytes ≡ Err st
    → (list_all (range_fits blocks) (ranges_in (length bytes / 16) bytes) ≡ false) × (st ≡ refused_with LbaOutOfRange)
ranges-leave blocks bytes st e = by_test (list_all (range_fits blocks) (ranges_in (length bytes / 16) bytes)) e
  where
    by_test : (all : Bool)
        → ◌≡◌ {A = Result (Unit {0}) StatusField} (cond all (Ok tt) (Err (refused_with LbaOutOfRange))) (Err st)
        → (all ≡ false) × (st ≡ refused_with LbaOutOfRange)
    by_test true e = (cc)
    by_test false e = (refl, (cc))
