-- Numbers of units as marks
use Rattle.std.proofs.Common.{◌≡◌, ℕ, zero, suc, ◌+◌, ◌<◌, ◌==◌, ◌||◌, Bool, true, false, cond, not}
use Rattle.std.proofs.Common.{List, [], ◌∷◌, length, replicate, get_or, set, refl, sym, ap, ◌∙◌, arith, eq-eqb, Option, Some, None}
use Rattle.std.proofs.lemmas.Bool.Decides.{nat_tests}
use Rattle.std.specs.List.{list_any, range_with_len}
use Rattle.nv_model.specs.Private.{others}
use Rattle.nv_device.specs.Units.{IsLowest, numbers_marked}

-- all of them
pub numbers-all : (from n : ℕ) → numbers_marked from (replicate n true) ≡ range_with_len from n
unfolding numbers_marked
numbers-all from zero = refl
numbers-all from (suc n) = ap (λ (ks : List ℕ). from ∷ ks) (numbers-all (from + 1) n)

apart : (a b : ℕ) → (a ≡ b → ⊥) → a == b ≡ false
apart a b other = grind (arith, nat_tests)

-- none of a smaller number
pub numbers-above : (from j : ℕ) (marks : List Bool) → j < from → list_any (λ k. k == j) (numbers_marked from marks) ≡ false
unfolding numbers_marked
numbers-above from j [] below = refl
numbers-above from j (true ∷ marks) below =
    ap (λ (b : Bool). b || list_any (λ k. k == j) (numbers_marked (from + 1) marks)) (apart from j (λ e. omega arith))
    ∙ numbers-above (from + 1) j marks (omega arith)
numbers-above from j (false ∷ marks) below = numbers-above (from + 1) j marks (omega arith)

-- a number is one of them where its mark is set
pub numbers-any : (from i : ℕ) (marks : List Bool) → list_any (λ k. k == from + i) (numbers_marked from marks) ≡ get_or marks i false
unfolding numbers_marked
numbers-any from i [] = refl
numbers-any from zero (true ∷ marks) =
    ap (λ (b : Bool). b || list_any (λ k. k == from + zero) (numbers_marked (from + 1) marks)) (eq-eqb from (from + zero) (omega arith))
numbers-any from zero (false ∷ marks) = numbers-above (from + 1) (from + zero) marks (omega arith)
numbers-any from (suc i) (true ∷ marks) =
    let e : from + suc i ≡ from + 1 + i = omega arith in
    ap (λ (b : Bool). b || list_any (λ k. k == from + suc i) (numbers_marked (from + 1) marks)) (apart from (from + suc i) (λ e. omega arith))
    ∙ ap (λ (n : ℕ). list_any (λ k. k == n) (numbers_marked (from + 1) marks)) e
    ∙ numbers-any (from + 1) i marks
numbers-any from (suc i) (false ∷ marks) =
    let e : from + suc i ≡ from + 1 + i = omega arith in
    ap (λ (n : ℕ). list_any (λ k. k == n) (numbers_marked (from + 1) marks)) e
    ∙ numbers-any (from + 1) i marks

-- the others of numbers that are all larger are these
others-above : (from j : ℕ) (marks : List Bool) → j < from → others j (numbers_marked from marks) ≡ numbers_marked from marks
unfolding numbers_marked
others-above from j [] below = refl
others-above from j (true ∷ marks) below =
    ap (λ (b : Bool). cond (not b) (from ∷ others j (numbers_marked (from + 1) marks)) (others j (numbers_marked (from + 1) marks))) (apart from j (λ e. omega arith))
    ∙ ap (λ (ks : List ℕ). from ∷ ks) (others-above (from + 1) j marks (omega arith))
others-above from j (false ∷ marks) below = others-above (from + 1) j marks (omega arith)

-- without a mark the others are left
pub numbers-others : (from i : ℕ) (marks : List Bool) → numbers_marked from (set marks i false) ≡ others (from + i) (numbers_marked from marks)
unfolding numbers_marked
numbers-others from i [] = refl
numbers-others from zero (true ∷ marks) =
    sym (ap (λ (b : Bool). cond (not b) (from ∷ others (from + zero) (numbers_marked (from + 1) marks))
    (others (from + zero) (numbers_marked (from + 1) marks)))
    (eq-eqb from (from + zero) (omega arith))
    ∙ others-above (from + 1) (from + zero) marks (omega arith))
numbers-others from zero (false ∷ marks) = sym (others-above (from + 1) (from + zero) marks (omega arith))
numbers-others from (suc i) (true ∷ marks) =
    let e : from + 1 + i ≡ from + suc i = omega arith in
    ap (λ (ks : List ℕ). from ∷ ks) (numbers-others (from + 1) i marks ∙ ap (λ (n : ℕ). others n (numbers_marked (from + 1) marks)) e)
    ∙ sym (ap (λ (b : Bool). cond (not b) (from ∷ others (from + suc i) (numbers_marked (from + 1) marks))
    (others (from + suc i) (numbers_marked (from + 1) marks)))
    (apart from (from + suc i) (λ e. omega arith)))
numbers-others from (suc i) (false ∷ marks) =
    let e : from + 1 + i ≡ from + suc i = omega arith in
    numbers-others (from + 1) i marks ∙ ap (λ (n : ℕ). others n (numbers_marked (from + 1) marks)) e

-- and one less is left
pub numbers-fewer : (from i : ℕ) (marks : List Bool) → get_or marks i false ≡ true
    → length (numbers_marked from (set marks i false)) + 1 ≡ length (numbers_marked from marks)
unfolding numbers_marked
numbers-fewer from i [] is = (let wrong : false ≡ true = is in cc)
numbers-fewer from zero (true ∷ marks) is = omega arith
numbers-fewer from zero (false ∷ marks) is = (let wrong : false ≡ true = is in cc)
numbers-fewer from (suc i) (true ∷ marks) is = let rest = numbers-fewer (from + 1) i marks is in omega arith
numbers-fewer from (suc i) (false ∷ marks) is = numbers-fewer (from + 1) i marks is

-- the same, counted from 0
pub any-marked : (i : ℕ) (marks : List Bool) → list_any (λ k. k == i) (numbers_marked 0 marks) ≡ get_or marks i false
any-marked i marks =
    let e : 0 + i ≡ i = omega arith in
    ap (λ (n : ℕ). list_any (λ k. k == n) (numbers_marked 0 marks)) (sym e) ∙ numbers-any 0 i marks

pub others-marked : (i : ℕ) (marks : List Bool) → numbers_marked 0 (set marks i false) ≡ others i (numbers_marked 0 marks)
others-marked i marks =
    let e : 0 + i ≡ i = omega arith in
    numbers-others 0 i marks ∙ ap (λ (n : ℕ). others n (numbers_marked 0 marks)) e

any-of : (marks : List Bool) (units : List ℕ) (i : ℕ) → numbers_marked 0 marks ≡ units → list_any (λ k. k == i) units ≡ get_or marks i false
any-of marks units i is = sym (ap (list_any (λ k. k == i)) is) ∙ any-marked i marks

-- a mark that is set is there
pub within-marked : (i : ℕ) (marks : List Bool) → get_or marks i false ≡ true → i < length marks
within-marked i [] is = (let wrong : false ≡ true = is in cc)
within-marked zero (mark ∷ marks) is = omega arith
within-marked (suc i) (mark ∷ marks) is = let rest = within-marked i marks is in omega arith

-- what stands at an index that is there, whatever stands elsewhere
pub got-marked : (i : ℕ) (marks : List Bool) (mark : Bool) → i < length marks → mark ≡ get_or marks i mark → mark ≡ get_or marks i false
got-marked i [] mark within is = absurd (omega arith)
got-marked zero (m ∷ marks) mark within is = is
got-marked (suc i) (m ∷ marks) mark within is = got-marked i marks mark (omega arith) is

-- the first mark that is set is that of the lowest number
pub lowest-marked : (marks : List Bool) (units : List ℕ) (o : Option ℕ) → numbers_marked 0 marks ≡ units → IsLowest (λ n. get_or marks n false) o
    → IsLowest (λ n. list_any (λ k. k == n) units) o
lowest-marked marks units None is none = λ n. any-of marks units n is ∙ none n
lowest-marked marks units (Some number) is lowest =
    (any-of marks units number is ∙ lowest.0, λ k below. any-of marks units k is ∙ lowest.1 k below)
