-- Lemmas on the slots of a queue.
use Rattle.std.proofs.Common.{◌≡◌, ℕ, ◌+◌, ◌-◌, ◌<◌, ◌≤◌, inl, inr, Bool, true, false, nat_le, arith, refl, leb-true, mod-lt, mod-eq_of_lt, eq-eqb}
use Rattle.std.proofs.Math.Nat.{add-mod_right, mod_self}
use Rattle.std.proofs.lemmas.Bool.{cases_lt}
use Rattle.nv_model.specs.Queue.{ahead, is_full, next_slot}
use Rattle.nv_model.specs.Controller.{size_fits}
use Rattle.nv_model.specs.Laws.{IsCompletionInOrder, IsCompletionInPlace, IsCompletionOnPage, IsInOrder, IsSubmissionInOrder, IsSubmissionInPlace}
use Rattle.nv_model.specs.Laws.{IsSubmissionOnPage}
use Rattle.nv_model.proofs.QueuesKept.{IsKept}
use Rattle.nv_model.proofs.Endings.{and-true}

-- ---- slots

next_slot-below : (size at : ℕ) → 2 ≤ size → next_slot size at < size
next_slot-below size at some = mod-lt (at + 1) (omega arith)

-- a new queue is in order
pub IsInOrder-new : (size : ℕ) → 2 ≤ size → size ≤ 1024 → IsInOrder size 0 0
IsInOrder-new size some few = record { at_least = some; at_most = few; head_is_slot = omega arith; tail_is_slot = omega arith }

-- a queue whose head is the next slot, and whose tail is
IsInOrder-head : (size head tail : ℕ) → IsInOrder size head tail → IsInOrder size (next_slot size head) tail
IsInOrder-head size head tail order =
    record { at_least = order.at_least; at_most = order.at_most; head_is_slot = next_slot-below size head order.at_least; tail_is_slot = order.tail_is_slot }

pub IsInOrder-tail : (size head tail : ℕ) → IsInOrder size head tail → IsInOrder size head (next_slot size tail)
IsInOrder-tail size head tail order =
    record { at_least = order.at_least; at_most = order.at_most; head_is_slot = order.head_is_slot; tail_is_slot = next_slot-below size tail order.at_least }

-- fewer slots lie ahead than there are
pub ahead-below : (size head tail : ℕ) → IsInOrder size head tail → ahead size head tail ≤ size - 1
ahead-below size head tail order =
    let some = order.at_least in
    let below : ahead size head tail < size = mod-lt (tail + size - head) (omega arith) in
    omega arith

-- from where to where, without a remainder
pub ahead-up : (size head tail : ℕ) → head ≤ tail → tail < size → ahead size head tail ≡ tail - head
ahead-up size head tail up below =
    let split : tail + size - head ≡ (tail - head) + size = omega arith in
    rw (split, add-mod_right) (mod-eq_of_lt (omega arith))

pub ahead-round : (size head tail : ℕ) → tail < head → head < size → ahead size head tail ≡ tail + size - head
ahead-round size head tail round below = mod-eq_of_lt (omega arith)

-- the next slot is one further, unless it is the head
pub ahead-next : (size head tail : ℕ) → IsInOrder size head tail → is_full size head tail ≡ false
    → ahead size head (next_slot size tail) ≡ ahead size head tail + 1
ahead-next size head tail order free =
    let some = order.at_least in
    let head_below = order.head_is_slot in
    let tail_below = order.tail_is_slot in
    elim (cases_lt (tail + 1) size) [
      | inl within ↦
          let next : next_slot size tail ≡ tail + 1 = mod-eq_of_lt within in
          elim (cases_lt tail head) [
            | inl round ↦ elim (cases_lt (tail + 1) head) [
              | inl still ↦ rw (next, ahead-round size head (tail + 1) still head_below, ahead-round size head tail round head_below) (omega arith)
              | inr at ↦
                  let same : head ≡ tail + 1 = omega arith in
                  let full : is_full size head tail ≡ true = rw (next, ← same) (eq-eqb head head refl) in cc
            ]
            | inr up ↦ rw (next, ahead-up size head (tail + 1) (omega arith) within, ahead-up size head tail up tail_below) (omega arith)
          ]
      | inr last ↦
          let end : tail + 1 ≡ size = omega arith in
          let next : next_slot size tail ≡ 0 = rw end (mod_self size) in
          elim (cases_lt 0 head) [
            | inl round ↦ rw (next, ahead-round size head 0 round head_below, ahead-up size head tail (omega arith) tail_below) (omega arith)
            | inr at ↦
                let same : head ≡ 0 = omega arith in
                let full : is_full size head tail ≡ true = rw (next, same) refl in cc
          ]
    ]

-- a size that may be
size_fits-bounds : (size : ℕ) → size_fits size ≡ true → (2 ≤ size) × (size ≤ 1024)
size_fits-bounds size fits =
    let both = and-true (nat_le 2 size) (nat_le size 1024) fits in
    (leb-true 2 size both.0, leb-true size 1024 both.1)

-- ---- what each change keeps

-- a head or a tail that is a slot
IsInOrder-at : (size head tail from to : ℕ) → IsInOrder size head tail → from < size → to < size
    → IsInOrder size from to
IsInOrder-at size head tail from to order head_below tail_below =
    record { at_least = order.at_least; at_most = order.at_most; head_is_slot = head_below; tail_is_slot = tail_below }

-- that queues are in order
pub IsKept-in_order : (mapped : ℕ → Bool) → IsKept mapped IsSubmissionInOrder IsCompletionInOrder
IsKept-in_order mapped =
    record {
      new_submission = λ base size to fits on there. let bounds = size_fits-bounds size fits in IsInOrder-new size bounds.0 bounds.1;
      new_completion = λ base size vector fits on there. let bounds = size_fits-bounds size fits in IsInOrder-new size bounds.0 bounds.1;
      front_taken = λ q is. IsInOrder-head q.size q.head q.tail is;
      tail_rung = λ q tail below is. IsInOrder-at q.size q.head q.tail q.head tail is is.head_is_slot below;
      closing = λ q is. is;
      posted = λ q is. IsInOrder-tail q.size q.head q.tail is;
      head_rung = λ q head below is. IsInOrder-at q.size q.head q.tail head q.tail is below is.tail_is_slot;
    }

-- and that their slots are mapped
pub IsKept-in_place : (mapped : ℕ → Bool) → IsKept mapped (IsSubmissionInPlace mapped) (IsCompletionInPlace mapped)
IsKept-in_place mapped =
    record {
      new_submission = λ base size to fits on there. let bounds = size_fits-bounds size fits in (IsInOrder-new size bounds.0 bounds.1, there);
      new_completion = λ base size vector fits on there. let bounds = size_fits-bounds size fits in (IsInOrder-new size bounds.0 bounds.1, there);
      front_taken = λ q is. (IsInOrder-head q.size q.head q.tail is.0, is.1);
      tail_rung = λ q tail below is. (IsInOrder-at q.size q.head q.tail q.head tail is.0 is.0.head_is_slot below, is.1);
      closing = λ q is. is;
      posted = λ q is. (IsInOrder-tail q.size q.head q.tail is.0, is.1);
      head_rung = λ q head below is. (IsInOrder-at q.size q.head q.tail head q.tail is.0 below is.0.tail_is_slot, is.1);
    }

-- and that they begin with a page
pub IsKept-on_pages : (mapped : ℕ → Bool) → IsKept mapped IsSubmissionOnPage IsCompletionOnPage
IsKept-on_pages mapped =
    record {
      new_submission = λ base size to fits on there. on;
      new_completion = λ base size vector fits on there. on;
      front_taken = λ q is. is;
      tail_rung = λ q tail below is. is;
      closing = λ q is. is;
      posted = λ q is. is;
      head_rung = λ q head below is. is;
    }
