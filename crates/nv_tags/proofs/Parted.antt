-- Tags that are in two masks, or in one and not in another
use Rattle.std.proofs.Common.{◌≡◌, ℕ, zero, suc, ◌-◌, ◌<◌, ◌^◌, ◌==◌, ◌&&◌, ◌||◌, not, Bool, true, false, inl, inr, List, length, slice_index, arith, refl, sym, ap, ◌∙◌}
use Rattle.std.specs.Int.{bit_at, w64}
use Rattle.std.specs.List.{filter}
use Rattle.std.specs.Prelude.{bit_and, bit_or, max, min}
use Rattle.std.proofs.lemmas.Bool.{ne_eqb}
use Rattle.std.proofs.lemmas.Nat.Bits.{bit_at-lt, bit_at_and, bit_at_not, bit_at_or}
use Rattle.nv_entry.specs.Status.{bit}
use Rattle.nv_tags.specs.Kept.{AreKept, AreNumbered, IsWith, slots_of, tags_in}
use Rattle.nv_tags.specs.Numbers.{ByGuest, ByQueue, Key, has_number, is_from}
use Rattle.nv_tags.specs.Tags.{Free, Slot, Used, slot_at, tags_where}
use Rattle.nv_tags.specs.declared.claim.Claim.{Claim}
use Rattle.nv_tags.specs.declared.state.TagState.{TagState}
use Rattle.nv_tags.proofs.Groups.{bit_test, test_bit}
use Rattle.nv_tags.proofs.Masks.{among-past, among-tags_in, is_set, only-is}
use Rattle.nv_tags.proofs.Rows.{holding, holding-filter, holding-same, is_among, less-or-past}
use Rattle.nv_tags.proofs.Together.{lane_length}

and-set : (a b t : ℕ) → is_set (bit_and a b) t ≡ (is_set a t && is_set b t)
and-set a b t =
    ap (λ (n : ℕ). n == 1)
    (bit_at_and a b t ∙ ap (λ (n : ℕ). min n (bit_at b t)) (bit_test a t) ∙ ap (λ (n : ℕ). min (bit (is_set a t)) n) (bit_test b t))
    ∙ join (is_set a t) (is_set b t)
  where
    join : (x y : Bool) → min (bit x) (bit y) == 1 ≡ (x && y)
    join true true = refl
    join true false = refl
    join false true = refl
    join false false = refl

or-set : (a b t : ℕ) → is_set (bit_or a b) t ≡ (is_set a t || is_set b t)
or-set a b t =
    ap (λ (n : ℕ). n == 1)
    (bit_at_or a b t ∙ ap (λ (n : ℕ). max n (bit_at b t)) (bit_test a t) ∙ ap (λ (n : ℕ). max (bit (is_set a t)) n) (bit_test b t))
    ∙ either (is_set a t) (is_set b t)
  where
    either : (x y : Bool) → max (bit x) (bit y) == 1 ≡ (x || y)
    either true true = refl
    either true false = refl
    either false true = refl
    either false false = refl

-- the tags of two masks together
pub among-or : (a b t : ℕ) → is_among (tags_in (bit_or a b)) t ≡ (is_among (tags_in a) t || is_among (tags_in b) t)
among-or a b t = (elim (less-or-past t 64) [
  | inl below ↦
      among-tags_in (bit_or a b) t below ∙ or-set a b t
      ∙ ap (λ (x : Bool). x || is_set b t) (sym (among-tags_in a t below)) ∙ ap (λ (x : Bool). is_among (tags_in a) t || x) (sym (among-tags_in b t below))
  | inr past ↦
      among-past (bit_or a b) t past
      ∙ ap (λ (x : Bool). x || false) (sym (among-past a t past)) ∙ ap (λ (x : Bool). is_among (tags_in a) t || x) (sym (among-past b t past))
])

-- the tags of both
pub among-and : (a b t : ℕ) → is_among (tags_in (bit_and a b)) t ≡ (is_among (tags_in a) t && is_among (tags_in b) t)
among-and a b t = (elim (less-or-past t 64) [
  | inl below ↦
      among-tags_in (bit_and a b) t below ∙ and-set a b t
      ∙ ap (λ (x : Bool). x && is_set b t) (sym (among-tags_in a t below)) ∙ ap (λ (x : Bool). is_among (tags_in a) t && x) (sym (among-tags_in b t below))
  | inr past ↦
      among-past (bit_and a b) t past
      ∙ ap (λ (x : Bool). x && false) (sym (among-past a t past)) ∙ ap (λ (x : Bool). is_among (tags_in a) t && x) (sym (among-past b t past))
])

-- one tag
pub among-one : (tag mask t : ℕ) → tag < 64 → IsWith 0 tag mask → is_among (tags_in mask) t ≡ (t == tag)
among-one tag mask t there with = (elim (less-or-past t 64) [
  | inl below ↦ among-tags_in mask t below ∙ only-is tag mask t with below
  | inr past ↦ among-past mask t past ∙ sym (ne_eqb t tag (λ same. absurd (omega (arith, same, past, there))))
])

-- whether a tag is one of them, by its bit
pub among-bit : (mask t : ℕ) → t < 64 → is_among (tags_in mask) t ≡ not (bit_at mask t == 0)
among-bit mask t below = among-tags_in mask t below ∙ by_value (bit_at mask t) (bit_at-lt mask t)
  where
    by_value : (n : ℕ) → n < 2 → n == 1 ≡ not (n == 0)
    by_value zero low = refl
    by_value (suc zero) low = refl
    by_value (suc (suc n)) low = absurd (omega (arith, low))

not-set : (b t : ℕ) → b < 2 ^ 64 → t < 64 → is_set (18446744073709551615 - b) t ≡ not (is_set b t)
not-set b t fits below =
    ap (λ (n : ℕ). n == 1) (bit_at_not w64 b t fits below ∙ ap (λ (n : ℕ). 1 - n) (bit_test b t)) ∙ other (is_set b t)
  where
    other : (x : Bool) → 1 - bit x == 1 ≡ not x
    other true = refl
    other false = refl

-- the tags of one mask that are not in another
pub tags_in-parted : (a b : ℕ) → b < 2 ^ 64
    → tags_in (bit_and a (18446744073709551615 - b)) ≡ filter (λ t. not (is_among (tags_in b) t)) (tags_in a)
unfolding tags_in
tags_in-parted a b fits =
    holding-same (is_set (bit_and a (18446744073709551615 - b))) (λ t. is_set a t && not (is_among (tags_in b) t)) 0 64
    (λ t low high.
    (let below : t < 64 = omega (arith, high) in
    and-set a (18446744073709551615 - b) t
    ∙ ap (λ (x : Bool). is_set a t && x) (not-set b t fits below ∙ ap not (sym (among-tags_in b t below)))))
    ∙ sym (holding-filter (is_set a) (λ t. not (is_among (tags_in b) t)) 0 64)

-- by guest and queue
from-both : (guest queue : ℕ) (s : Slot) → (has_number ByGuest guest s && has_number ByQueue queue s) ≡ is_from guest queue s
from-both guest queue Free = refl
from-both guest queue (Used command point) = refl

module _ (states : List TagState) (claims : List Claim) (leaders groups : List ℕ) (kept : AreKept states claims leaders groups) (slots : List Slot)
    (seen : slots_of states claims leaders ≡ slots) where
  its-bit : (key : Key) (masks : List ℕ) → AreNumbered key (slots_of states claims leaders) masks → (at number t : ℕ) → at ≡ number → number < 16 → t < 64
      → is_set (slice_index masks at) t ≡ has_number key number (slot_at (slots_of states claims leaders) t)
  its-bit key masks are at number t same low below =
      ap (λ (n : ℕ). is_set (slice_index masks n) t) same
      ∙ ap (λ (n : ℕ). n == 1) (are.each number t low below)
      ∙ test_bit (has_number key number (slot_at (slots_of states claims leaders) t))

  -- the tags of a queue of a guest
  pub from-seen : (owned queued : List ℕ) → AreNumbered ByGuest (slots_of states claims leaders) owned
      → AreNumbered ByQueue (slots_of states claims leaders) queued → (guest queue at behind : ℕ) → at ≡ guest → behind ≡ queue → guest < 16 → queue < 16
      → tags_in (bit_and (slice_index owned at) (slice_index queued behind)) ≡ tags_where (is_from guest queue) slots
  unfolding tags_where tags_in
  from-seen owned queued own by guest queue at behind same too few low =
      holding-same (is_set (bit_and (slice_index owned at) (slice_index queued behind)))
      (λ t. is_from guest queue (slot_at (slots_of states claims leaders) t)) 0 64
      (λ t from high.
      (let below : t < 64 = omega (arith, high) in
      and-set (slice_index owned at) (slice_index queued behind) t
      ∙ ap (λ (x : Bool). x && is_set (slice_index queued behind) t) (its-bit ByGuest owned own at guest t same few below)
      ∙ ap (λ (x : Bool). has_number ByGuest guest (slot_at (slots_of states claims leaders) t) && x)
      (its-bit ByQueue queued by behind queue t too low below)
      ∙ from-both guest queue (slot_at (slots_of states claims leaders) t)))
      ∙ sym (ap (holding (λ t. is_from guest queue (slot_at (slots_of states claims leaders) t)) 0) (lane_length states claims leaders groups kept))
      ∙ ap (λ (xs : List Slot). holding (λ t. is_from guest queue (slot_at xs t)) 0 (length xs)) seen
