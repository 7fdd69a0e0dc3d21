-- Lists of acts that are gone through from the front.
use Rattle.std.proofs.Common.{◌≡◌, ◌≢◌, ℕ, ◌+◌, ◌<◌, ◌≤◌, Bool, true, false, cond, List, [], ◌∷◌, ◌++◌, drop, get_or, length, set, slice_get, take, Option}
use Rattle.std.proofs.Common.{Some, None, refl, sym, ap, ◌∙◌, add-one, arith, zero, suc}
use Rattle.std.proofs.Math.Seq.{drop-cons}
use Rattle.std.proofs.lemmas.Option.{none-some, same_Some, slice_get_past, slice_get_read}
use Rattle.nv_threads.specs.Finished.{DifferAt, acts_of, is_act_of}
use Rattle.nv_world_model.specs.declared.logged.Logged.{Logged}

-- an element that was read stands at the front of what is left
left-front : {X : Type 0} (xs : List X) (i : ℕ) (x : X) → i < length xs → x ≡ get_or xs i x → drop i xs ≡ x ∷ drop (i + 1) xs
left-front xs i x below has =
    drop-cons xs i x below ∙ ap (λ (y : _). y ∷ drop (suc i) xs) (sym has) ∙ ap (λ (k : ℕ). x ∷ drop k xs) (sym (add-one i))

-- what is no act of the guest is passed
pub acts-passed : (guest : ℕ) (log : List Logged) (i : ℕ) (x : Logged) → i < length log → x ≡ get_or log i x → is_act_of guest x.event ≡ false
    → acts_of guest (drop i log) ≡ acts_of guest (drop (i + 1) log)
acts-passed guest log i x below has other =
    ap (acts_of guest) (left-front log i x below has)
    ∙ ap (λ (b : Bool). cond b (x ∷ acts_of guest (drop (i + 1) log)) (acts_of guest (drop (i + 1) log))) other

-- an act of the guest comes next
pub acts-met : (guest : ℕ) (log : List Logged) (i : ℕ) (x : Logged) → i < length log → x ≡ get_or log i x → is_act_of guest x.event ≡ true
    → acts_of guest (drop i log) ≡ x ∷ acts_of guest (drop (i + 1) log)
acts-met guest log i x below has is =
    ap (acts_of guest) (left-front log i x below has)
    ∙ ap (λ (b : Bool). cond b (x ∷ acts_of guest (drop (i + 1) log)) (acts_of guest (drop (i + 1) log))) is

-- a place that was marked isn't unmarked, and others are as they were
pub unmarked : (marks : List Bool) (by guest : ℕ) → slice_get (set marks by true) guest ≡ Some false
    → (slice_get marks guest ≡ Some false) × (by ≢ guest)
unmarked [] by guest is = cc
unmarked (m ∷ marks) zero guest is = unmarked_front marks guest is
  where
    unmarked_front : (marks : List Bool) (guest : ℕ) → slice_get (true ∷ marks) guest ≡ Some false → (slice_get (m ∷ marks) guest ≡ Some false) × (zero ≢ guest)
    unmarked_front marks zero is = cc
    unmarked_front marks (suc guest) is = (is, λ same. absurd (omega (arith, same)))
unmarked (m ∷ marks) (suc by) zero is = (is, λ same. absurd (omega (arith, same)))
unmarked (m ∷ marks) (suc by) (suc guest) is =
    let rest = unmarked marks by guest is in (rest.0, λ same. rest.1 (omega (arith, same)))

-- lists that begin alike differ behind it, if what comes next does
pub differ-behind : (told : List Logged) (met : ℕ) (xs rest : List Logged) → met ≤ length told → xs ≡ take met told ++ rest
    → slice_get rest 0 ≢ slice_get told met → DifferAt (met + 1) xs told
differ-behind told met xs rest within is apart = record {
  index = met;
  from_one = refl;
  before = ap (take met) is ∙ front told met rest within;
  there = λ same. apart (sym (behind told met rest within) ∙ ap (λ (ys : List Logged). slice_get ys met) (sym is) ∙ same);
}
  where
    front : (told : List Logged) (met : ℕ) (rest : List Logged) → met ≤ length told → take met (take met told ++ rest) ≡ take met told
    front [] zero rest within = refl
    front [] (suc met) rest within = absurd (omega arith)
    front (x ∷ told) zero rest within = refl
    front (x ∷ told) (suc met) rest within = ap (λ (ys : List Logged). x ∷ ys) (front told met rest (omega arith))

    behind : (told : List Logged) (met : ℕ) (rest : List Logged) → met ≤ length told → slice_get (take met told ++ rest) met ≡ slice_get rest 0
    behind [] zero rest within = refl
    behind [] (suc met) rest within = absurd (omega arith)
    behind (x ∷ told) zero rest within = refl
    behind (x ∷ told) (suc met) rest within = behind told met rest (omega arith)

-- an act of the guest stands at the front of what is left
pub front-act : (guest : ℕ) (log : List Logged) (i : ℕ) (x : Logged) → i < length log → x ≡ get_or log i x → is_act_of guest x.event ≡ true
    → slice_get (acts_of guest (drop i log)) 0 ≡ Some x
front-act guest log i x below has is = ap (λ (ys : List Logged). slice_get ys 0) (acts-met guest log i x below has is)

-- a list that has ended differs from one that goes on, and two that go on otherwise differ
pub ended-differs : (told : List Logged) (met : ℕ) (o : Option Logged) (x : Logged) → length told ≤ met → o ≡ Some x → o ≢ slice_get told met
ended-differs told met o x past is same = none-some x (sym (sym is ∙ same ∙ slice_get_past told met past))

pub other-differs : (told : List Logged) (met : ℕ) (o : Option Logged) (x y : Logged) → met < length told → y ≡ get_or told met y → o ≡ Some x
    → (y ≡ x → ⊥) → o ≢ slice_get told met
other-differs told met o x y below has is apart same =
    apart (same_Some y x (sym (slice_get_read told (length told) met y refl below has) ∙ sym same ∙ is))

pub goes-on : (told : List Logged) (met : ℕ) → met < length told → None ≢ slice_get told met
goes-on [] met below = absurd (omega arith)
goes-on (x ∷ told) zero below = λ same. none-some x same
goes-on (x ∷ told) (suc met) below = goes-on told met (omega arith)

-- behind the end of the log there is no act
pub acts-ended : (guest : ℕ) (log : List Logged) (i : ℕ) → length log ≤ i → acts_of guest (drop i log) ≡ []
acts-ended guest [] zero past = refl
acts-ended guest [] (suc i) past = refl
acts-ended guest (x ∷ log) zero past = absurd (omega arith)
acts-ended guest (x ∷ log) (suc i) past = acts-ended guest log i (omega arith)
