-- How many commands of each queue a bag has, and how that changes with what is put into it.
use Rattle.std.proofs.Common.{◌≡◌, ℕ, zero, suc, ◌+◌, ◌-◌, ◌<◌, ◌≤◌, inl, inr, true, false, ◌==◌, List, length, slice_index, set, Option, Some, None, arith}
use Rattle.std.proofs.Common.{refl, sym, ap, ◌∙◌, eq-eqb, get_or-set_other}
use Rattle.std.proofs.lemmas.Bool.{cases_lt, cases_eq}
use Rattle.std.proofs.lemmas.Bool.Decides.{nat_tests}
use Rattle.std.proofs.lemmas.Grind.{get_or-set_at}
use Rattle.nv_entry.specs.Status.{bit}
use Rattle.nv_model.specs.Private.{Bag, Taken, put}
use Rattle.nv_model.specs.Running.{AreCounted, HasTaken, count_below, one_of}
use Rattle.nv_model.proofs.Bags.{put-elsewhere, put-here}

-- ---- counts below a bound

-- past the bound nothing is counted
count-beyond : (bag : Bag) (queue bound n : ℕ) → bound ≤ n → ((name : ℕ) → bound ≤ name → bag name ≡ None)
    → count_below bag queue n ≡ count_below bag queue bound
count-beyond bag queue bound zero past none = let same : 0 ≡ bound = omega arith in ap (count_below bag queue) same
count-beyond bag queue bound (suc n) past none =
    elim (cases_lt n bound) [
      | inl last ↦ let same : suc n ≡ bound = omega arith in ap (count_below bag queue) same
      | inr further ↦ let more = count-beyond bag queue bound n further none in rw (none n further, more) (omega arith)
    ]

-- what is put under a name past the bound is not counted
count-put-beyond : (bag : Bag) (name : ℕ) (member : Option Taken) (queue n : ℕ) → n ≤ name
    → count_below (put bag name member) queue n ≡ count_below bag queue n
count-put-beyond bag name member queue zero past = refl
count-put-beyond bag name member queue (suc n) past =
    let other : n ≡ name → ⊥ = λ same. omega arith in
    rw (put-elsewhere bag name member n other, count-put-beyond bag name member queue n (omega arith)) refl

-- what is put under a name takes the place of what was there
count-put : (bag : Bag) (name : ℕ) (member : Option Taken) (queue n : ℕ) → name < n
    → count_below (put bag name member) queue n + one_of queue (bag name) ≡ count_below bag queue n + one_of queue member
count-put bag name member queue zero below = omega arith
count-put bag name member queue (suc n) below =
    elim (cases_eq n name) [
      | inl same ↦
          let here : put bag name member n ≡ member = ap (put bag name member) same ∙ put-here bag name member in
          let there : bag n ≡ bag name = ap bag same in
          let before = count-put-beyond bag name member queue n (omega arith) in
          rw (here, there, before) (omega arith)
      | inr other ↦
          let elsewhere = put-elsewhere bag name member n other in
          let before = count-put bag name member queue n (omega arith) in
          rw elsewhere (omega arith)
    ]

-- a name below the bound counts
one-below : (bag : Bag) (name queue n : ℕ) → name < n → one_of queue (bag name) ≤ count_below bag queue n
one-below bag name queue zero below = omega arith
one-below bag name queue (suc n) below =
    elim (cases_eq n name) [
      | inl same ↦ let there : bag n ≡ bag name = ap bag same in rw there (omega arith)
      | inr other ↦ let before = one-below bag name queue n (omega arith) in omega arith
    ]

-- a bag with something else under a name, where the counts change as that does
pub counted-put : (taken after : List ℕ) (bag : Bag) (name : ℕ) (member : Option Taken) → AreCounted taken bag
    → ((queue : ℕ) → slice_index after queue + one_of queue (bag name) ≡ slice_index taken queue + one_of queue member)
    → AreCounted after (put bag name member)
counted-put taken after bag name member counted changed =
    record {
      bound = counted.bound + suc name;
      none_beyond = λ at past.
          let other : at ≡ name → ⊥ = λ same. omega arith in
          put-elsewhere bag name member at other ∙ counted.none_beyond at (omega arith);
      count = λ queue.
          let change = changed queue in
          let was = counted.count queue in
          let far = count-beyond bag queue counted.bound (counted.bound + suc name) (omega arith) counted.none_beyond in
          let now = count-put bag name member queue (counted.bound + suc name) (omega arith) in
          omega arith;
    }

-- a command that is taken counts
pub counted-some : (taken : List ℕ) (bag : Bag) (name : ℕ) (t : Taken) → AreCounted taken bag → bag name ≡ Some t
    → 0 < slice_index taken t.queue
counted-some taken bag name t counted is =
    elim (cases_lt name counted.bound) [
      | inl below ↦
          let counts = one-below bag name t.queue counted.bound below in
          let same : (t.queue == t.queue) ≡ true = eq-eqb t.queue t.queue refl in
          let one : one_of t.queue (bag name) ≡ 1 = rw (is, same) refl in
          let whole = counted.count t.queue in
          omega arith
      | inr past ↦ let none : Some t ≡ None = sym is ∙ counted.none_beyond name past in cc
    ]

-- ---- counts of a queue

-- one more, where a queue's count rises
pub index-more : (taken : List ℕ) (queue y : ℕ) → queue < length taken
    → slice_index (set taken queue (slice_index taken queue + 1)) y ≡ slice_index taken y + bit (queue == y)
index-more taken queue y below =
    elim (cases_eq y queue) [
      | inl same ↦
          let e : (queue == y) ≡ true = eq-eqb queue y (sym same) in
          let is : slice_index taken y ≡ slice_index taken queue = ap (slice_index taken) same in
          rw (e, is, get_or-set_at taken queue y (slice_index taken queue + 1) 0 same below) refl
      | inr other ↦
          let e : (queue == y) ≡ false = grind (arith, nat_tests) in
          rw (e, get_or-set_other taken queue y (slice_index taken queue + 1) 0 other) (omega arith)
    ]

-- one less, where it falls
pub index-less : (taken : List ℕ) (queue y : ℕ) → queue < length taken → 0 < slice_index taken queue
    → slice_index (set taken queue (slice_index taken queue - 1)) y + bit (queue == y) ≡ slice_index taken y
index-less taken queue y below some =
    elim (cases_eq y queue) [
      | inl same ↦
          let e : (queue == y) ≡ true = eq-eqb queue y (sym same) in
          let is : slice_index taken y ≡ slice_index taken queue = ap (slice_index taken) same in
          rw (e, is, get_or-set_at taken queue y (slice_index taken queue - 1) 0 same below) (omega arith)
      | inr other ↦
          let e : (queue == y) ≡ false = grind (arith, nat_tests) in
          rw (e, get_or-set_other taken queue y (slice_index taken queue - 1) 0 other) (omega arith)
    ]

-- ---- any command

-- where some are counted, a command is taken
count-member : (bag : Bag) (name queue rest : ℕ) (o : Option Taken) → bag name ≡ o → 0 < one_of queue o + rest
    → (0 < rest → HasTaken bag) → HasTaken bag
count-member bag name queue rest (Some t) is some below = record { name = name; command = t; is_there = is }
count-member bag name queue rest None is some below = below (omega arith)

count-has : (bag : Bag) (queue n : ℕ) → 0 < count_below bag queue n → HasTaken bag
count-has bag queue zero some = absurd (omega arith)
count-has bag queue (suc n) some =
    count-member bag n queue (count_below bag queue n) (bag n) refl some (λ below. count-has bag queue n below)

-- so it is where a queue's count is not zero
pub counted-has : (taken : List ℕ) (bag : Bag) (queue : ℕ) → AreCounted taken bag → 0 < slice_index taken queue
    → HasTaken bag
counted-has taken bag queue counted some =
    let whole = counted.count queue in
    count-has bag queue counted.bound (omega arith)
