-- Units that move one after the other are a run of the guest's private controller.
use Rattle.std.proofs.Common.{◌≡◌, ℕ, suc, ◌+◌, ◌<◌, Bool, true, false, not, ◌||◌, ◌==◌, cond, List, [], ◌∷◌, All}
use Rattle.std.proofs.Common.{filter, flat_map, length, map, slice_get}
use Rattle.std.proofs.Common.{Some, None, option_to_list, arith, refl, sym, ap, ◌∙◌, eq-eqb, eqb-true, subst}
use Rattle.std.specs.List.{enumerate_from, list_any}
use Rattle.std.specs.Bool.{⊤}
use Rattle.std.proofs.lemmas.Bool.{ne_eqb}
use Rattle.std.proofs.lemmas.List.Elements.{All-cons, All-head, All-nil, All-tail}
use Rattle.nv_model.specs.Carried.{moved_on, units_moved}
use Rattle.nv_model.specs.Carrying.{at_work}
use Rattle.nv_model.specs.Judge.{Work}
use Rattle.nv_model.specs.Private.{MoveStep, Moved, Private, Shape, Taken, others, run_of, unit_left}
use Rattle.nv_model.proofs.CarriedOut.{step-move}
use Rattle.nv_laws_sound.proofs.Lists.{slice_get-there}

-- ---- numbers that go

-- the numbers but for these
unfoldable pub without : List ℕ → List ℕ → List ℕ
without [] left = left
without (number ∷ numbers) left = without numbers (others number left)

-- numbers that grow
abbrev pub Grow : List ℕ → Type 0
Grow [] = ⊤
Grow (number ∷ numbers) = All (λ k. number < k) numbers × Grow numbers

abbrev pub is_among : (number : ℕ) → List ℕ → Bool
is_among number left = list_any (λ k. k == number) left

-- a number that goes leaves the others
others-among : (number gone : ℕ) (left : List ℕ) → (number ≡ gone → ⊥) → is_among number (others gone left) ≡ is_among number left
others-among number gone [] apart = refl
others-among number gone (k ∷ left) apart =
    (elim (k == gone) as (λ b. (k == gone) ≡ b → is_among number (cond (not b) (k ∷ others gone left) (others gone left)) ≡ ((k == number) || is_among number left)) [
      | true ↦ λ is.
          others-among number gone left apart
          ∙ sym (ap (λ b. b || is_among number left) (ne_eqb k number (λ same. apart (sym same ∙ eqb-true k gone is))))
      | false ↦ λ is. ap (λ b. (k == number) || b) (others-among number gone left apart)
    ]) refl

gone-among : (number : ℕ) (left : List ℕ) → is_among number (others number left) ≡ false
gone-among number [] = refl
gone-among number (k ∷ left) =
    (elim (k == number) as (λ b. (k == number) ≡ b → is_among number (cond (not b) (k ∷ others number left) (others number left)) ≡ false) [
      | true ↦ λ is. gone-among number left
      | false ↦ λ is. ap (λ b. b || is_among number (others number left)) is ∙ gone-among number left
    ]) refl

others-above : (number : ℕ) (left : List ℕ) → All (λ k. number < k) left → others number left ≡ left
others-above number [] above = refl
others-above number (k ∷ left) above =
    let more = All-head (λ k. number < k) k left above in
    ap (λ b. cond (not b) (k ∷ others number left) (others number left)) (ne_eqb k number (λ same. absurd (omega (arith, same, more))))
    ∙ ap (λ ks. k ∷ ks) (others-above number left (All-tail (λ k. number < k) k left above))

without-first : (first : ℕ) (numbers left : List ℕ) → All (λ k. first < k) numbers → without numbers (first ∷ left) ≡ first ∷ without numbers left
unfolding without
without-first first [] left above = refl
without-first first (number ∷ numbers) left above =
    let more = All-head (λ k. first < k) number numbers above in
    ap (λ b. without numbers (cond (not b) (first ∷ others number left) (others number left))) (ne_eqb first number (λ same. absurd (omega (arith, same, more))))
    ∙ without-first first numbers (others number left) (All-tail (λ k. first < k) number numbers above)

-- ---- a run

-- units that are left move one after the other
pub moves-run : (shape : Shape) (name : ℕ) (t : Taken) (work : Work) (p : Private) (numbers left : List ℕ) (m : Moved) → Grow numbers
    → All (λ k. is_among k left ≡ true) numbers → All (λ k. k < length work.units) numbers
    → run_of shape (map (MoveStep name) numbers) (at_work name t work left m p)
    ≡ Some (record {
      state = at_work name t work (without numbers left) (units_moved (flat_map (λ k. option_to_list (slice_get work.units k)) numbers) work m) p;
      seen = [];
    })
unfolding run_of units_moved without
moves-run shape name t work p [] left m grow among below = refl
moves-run shape name t work p (number ∷ numbers) left m grow among below =
    let there = slice_get-there work.units number (All-head (λ k. k < length work.units) number numbers below) in
    let here = All-head (λ k. is_among k left ≡ true) number numbers among in
    let found : unit_left work left number ≡ Some there.0 = ap (λ b. cond b (slice_get work.units number) None) here ∙ there.1 in
    let rest = moves-run shape name t work p numbers (others number left) (moved_on there.0 work m) grow.1
    (still numbers grow.0 (All-tail (λ k. is_among k left ≡ true) number numbers among)) (All-tail (λ k. k < length work.units) number numbers below) in
    rw (step-move shape name t work left number there.0 m p found, there.1, rest) refl
  where
    still : (ks : List ℕ) → All (λ k. number < k) ks → All (λ k. is_among k left ≡ true) ks → All (λ k. is_among k (others number left) ≡ true) ks
    still [] above each = All-nil (λ k. is_among k (others number left) ≡ true)
    still (k ∷ ks) above each =
        (let more = All-head (λ j. number < j) k ks above in
        All-cons (λ j. is_among j (others number left) ≡ true) k ks
        (others-among k number left (λ same. absurd (omega (arith, same, more))) ∙ All-head (λ j. is_among j left ≡ true) k ks each)
        (still ks (All-tail (λ j. number < j) k ks above) (All-tail (λ j. is_among j left ≡ true) k ks each)))

-- ---- the places of numbers

-- the places of numbers that are among these, from a place on
abbrev places_of_those : (left : List ℕ) (from : ℕ) → List ℕ → List ℕ
places_of_those left from numbers = map (λ (u : ℕ × ℕ). u.0) (filter (λ (u : ℕ × ℕ). is_among u.1 left) (enumerate_from from numbers))

-- with a first place or not
abbrev with_first : Bool → ℕ → List ℕ → List ℕ
with_first b first places = cond b (first ∷ places) places

places-first : (left : List ℕ) (from n : ℕ) (numbers : List ℕ)
    → places_of_those left from (n ∷ numbers) ≡ with_first (is_among n left) from (places_of_those left (from + 1) numbers)
places-first left from n numbers =
    elim (is_among n left) as (λ b. map (λ (u : ℕ × ℕ). u.0) (cond b ((from, n) ∷ filter (λ (u : ℕ × ℕ). is_among u.1 left) (enumerate_from (from + 1) numbers))
    (filter (λ (u : ℕ × ℕ). is_among u.1 left) (enumerate_from (from + 1) numbers))) ≡ with_first b from (places_of_those left (from + 1) numbers)) [
      | true ↦ refl
      | false ↦ refl
    ]

places-above : (left : List ℕ) (least from : ℕ) (numbers : List ℕ) → least < from → All (λ k. least < k) (places_of_those left from numbers)
places-above left least from [] less = All-nil (λ k. least < k)
places-above left least from (n ∷ numbers) less =
    subst (All (λ k. least < k)) (sym (places-first left from n numbers))
    (by_test (is_among n left) (places-above left least (from + 1) numbers (omega (arith, less))))
  where
    by_test : (b : Bool) → All (λ k. least < k) (places_of_those left (from + 1) numbers) → All (λ k. least < k) (with_first b from (places_of_those left (from + 1) numbers))
    by_test true rest = All-cons (λ k. least < k) from (places_of_those left (from + 1) numbers) less rest
    by_test false rest = rest

pub places-grow : (left : List ℕ) (from : ℕ) (numbers : List ℕ) → Grow (places_of_those left from numbers)
places-grow left from [] = tt
places-grow left from (n ∷ numbers) =
    subst Grow (sym (places-first left from n numbers)) (by_test (is_among n left) (places-grow left (from + 1) numbers))
  where
    by_test : (b : Bool) → Grow (places_of_those left (from + 1) numbers) → Grow (with_first b from (places_of_those left (from + 1) numbers))
    by_test true rest = (places-above left from (from + 1) numbers (omega arith), rest)
    by_test false rest = rest

pub places-below : (left : List ℕ) (from : ℕ) (numbers : List ℕ) → All (λ k. k < from + length numbers) (places_of_those left from numbers)
places-below left from [] = All-nil (λ k. k < from + 0)
places-below left from (n ∷ numbers) =
    let next : from + 1 + length numbers ≡ from + suc (length numbers) = omega arith in
    subst (All (λ k. k < from + suc (length numbers))) (sym (places-first left from n numbers))
    (by_test (is_among n left) (subst (λ end. All (λ k. k < end) (places_of_those left (from + 1) numbers)) next (places-below left (from + 1) numbers)))
  where
    by_test : (b : Bool) → All (λ k. k < from + suc (length numbers)) (places_of_those left (from + 1) numbers)
        → All (λ k. k < from + suc (length numbers)) (with_first b from (places_of_those left (from + 1) numbers))
    by_test true rest = All-cons (λ k. k < from + suc (length numbers)) from (places_of_those left (from + 1) numbers) (omega arith) rest
    by_test false rest = rest

-- those of one number are among those of more
pub one-among : (left : List ℕ) (number from : ℕ) (numbers : List ℕ) → is_among number left ≡ true
    → All (λ k. is_among k (places_of_those left from numbers) ≡ true) (places_of_those (number ∷ []) from numbers)
one-among left number from [] there = All-nil (λ k. is_among k [] ≡ true)
one-among left number from (n ∷ numbers) there =
    subst (λ ps. All (λ k. is_among k ps ≡ true) (places_of_those (number ∷ []) from (n ∷ numbers))) (sym (places-first left from n numbers))
    (subst (All (λ k. is_among k (with_first (is_among n left) from (places_of_those left (from + 1) numbers)) ≡ true)) (sym (places-first (number ∷ []) from n numbers))
    (by_test (number == n) refl (more (is_among n left) (places_of_those (number ∷ []) (from + 1) numbers) (one-among left number (from + 1) numbers there))))
  where
    later : (b : Bool) (k : ℕ) (ps : List ℕ) → is_among k ps ≡ true → is_among k (with_first b from ps) ≡ true
    later false k ps is = is
    later true k ps is = elim (from == k) as (λ c. (c || is_among k ps) ≡ true) [ true ↦ refl | false ↦ is ]

    more : (b : Bool) (ks : List ℕ) → All (λ k. is_among k (places_of_those left (from + 1) numbers) ≡ true) ks
        → All (λ k. is_among k (with_first b from (places_of_those left (from + 1) numbers)) ≡ true) ks
    more b [] each = All-nil (λ k. is_among k (with_first b from (places_of_those left (from + 1) numbers)) ≡ true)
    more b (k ∷ ks) each =
        All-cons (λ j. is_among j (with_first b from (places_of_those left (from + 1) numbers)) ≡ true) k ks
        (later b k (places_of_those left (from + 1) numbers) (All-head (λ j. is_among j (places_of_those left (from + 1) numbers) ≡ true) k ks each))
        (more b ks (All-tail (λ j. is_among j (places_of_those left (from + 1) numbers) ≡ true) k ks each))

    by_test : (b : Bool) → (number == n) ≡ b
        → All (λ k. is_among k (with_first (is_among n left) from (places_of_those left (from + 1) numbers)) ≡ true) (places_of_those (number ∷ []) (from + 1) numbers)
        → All (λ k. is_among k (with_first (is_among n left) from (places_of_those left (from + 1) numbers)) ≡ true)
        (with_first (b || false) from (places_of_those (number ∷ []) (from + 1) numbers))
    by_test true is rest =
        (let has : is_among n left ≡ true = ap (λ x. is_among x left) (sym (eqb-true number n is)) ∙ there in
        All-cons (λ k. is_among k (with_first (is_among n left) from (places_of_those left (from + 1) numbers)) ≡ true) from (places_of_those (number ∷ []) (from + 1) numbers)
        (ap (λ b. is_among from (with_first b from (places_of_those left (from + 1) numbers))) has
        ∙ ap (λ b. b || is_among from (places_of_those left (from + 1) numbers)) (eq-eqb from from refl)) rest)
    by_test false is rest = rest

-- and the others are those of the other numbers
pub places-without : (left : List ℕ) (number from : ℕ) (numbers : List ℕ)
    → without (places_of_those (number ∷ []) from numbers) (places_of_those left from numbers) ≡ places_of_those (others number left) from numbers
unfolding without
places-without left number from [] = refl
places-without left number from (n ∷ numbers) =
    ap (λ ps. without ps (places_of_those left from (n ∷ numbers))) (places-first (number ∷ []) from n numbers)
    ∙ ap (without (with_first ((number == n) || false) from (places_of_those (number ∷ []) (from + 1) numbers))) (places-first left from n numbers)
    ∙ by_test (number == n) refl (places-without left number (from + 1) numbers)
    ∙ sym (places-first (others number left) from n numbers)
  where
    above : (these : List ℕ) → All (λ k. from < k) (places_of_those these (from + 1) numbers)
    above these = places-above these from (from + 1) numbers (omega arith)

    drops : (b : Bool) (ps : List ℕ) → All (λ k. from < k) ps → others from (with_first b from ps) ≡ ps
    drops true ps over =
        ap (λ b. cond (not b) (from ∷ others from ps) (others from ps)) (eq-eqb from from refl) ∙ others-above from ps over
    drops false ps over = others-above from ps over

    passes : (b : Bool) (ks ps : List ℕ) → All (λ k. from < k) ks → without ks (with_first b from ps) ≡ with_first b from (without ks ps)
    passes true ks ps over = without-first from ks ps over
    passes false ks ps over = refl

    by_test : (b : Bool) → (number == n) ≡ b
        → without (places_of_those (number ∷ []) (from + 1) numbers) (places_of_those left (from + 1) numbers) ≡ places_of_those (others number left) (from + 1) numbers
        → without (with_first (b || false) from (places_of_those (number ∷ []) (from + 1) numbers)) (with_first (is_among n left) from (places_of_those left (from + 1) numbers))
        ≡ with_first (is_among n (others number left)) from (places_of_those (others number left) (from + 1) numbers)
    by_test true is rest =
        ap (without (places_of_those (number ∷ []) (from + 1) numbers)) (drops (is_among n left) (places_of_those left (from + 1) numbers) (above left))
        ∙ rest
        ∙ sym (ap (λ b. with_first b from (places_of_those (others number left) (from + 1) numbers))
        (ap (λ x. is_among x (others number left)) (sym (eqb-true number n is)) ∙ gone-among number left))
    by_test false is rest =
        passes (is_among n left) (places_of_those (number ∷ []) (from + 1) numbers) (places_of_those left (from + 1) numbers) (above (number ∷ []))
        ∙ ap (with_first (is_among n left) from) rest
        ∙ sym (ap (λ b. with_first b from (places_of_those (others number left) (from + 1) numbers))
        (others-among n number left (λ same. differ is same)))
      where
        differ : (number == n) ≡ false → n ≡ number → ⊥
        differ apart same = let both : true ≡ false = sym (eq-eqb number n (sym same)) ∙ apart in cc
