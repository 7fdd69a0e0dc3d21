-- How many entries stand in a ring
use Rattle.std.proofs.Common.{◌≡◌, ℕ, ◌+◌, ◌-◌, ◌<◌, ◌↔◌, IsTrue, Bool, true, false, not, arith, refl, ap, ◌∙◌, inl, inr, eqb-true, eq-eqb}
use Rattle.std.proofs.lemmas.Bool.{cases_eq}
use Rattle.nv_model.specs.Laws.{IsInOrder}
use Rattle.nv_model.specs.Queue.{ahead, is_empty, is_full, next_slot}
use Rattle.nv_model.proofs.QueueCounts.{ahead-full, ahead-some, ahead-taken, full-ahead}
use Rattle.nv_model.proofs.QueueOrder.{ahead-below, ahead-up}

-- none where head equals tail, and only there
pub none-waiting : (size head tail : ℕ) → IsInOrder size head tail → is_empty head tail ≡ true → ahead size head tail ≡ 0
none-waiting size head tail order empty =
    let same : head ≡ tail = eqb-true head tail empty in
    let below = order.tail_is_slot in
    ahead-up size head tail (omega arith) below ∙ (let none : tail - head ≡ 0 = omega arith in none)

pub empty-none : (size head tail : ℕ) → IsInOrder size head tail → ahead size head tail ≡ 0 → is_empty head tail ≡ true
empty-none size head tail order none =
    elim (cases_eq head tail) [
      | inl same ↦ eq-eqb head tail same
      | inr apart ↦ let some = ahead-some size head tail order apart in absurd (omega arith)
    ]

-- one less behind the oldest
pub one-taken : (size head tail : ℕ) → IsInOrder size head tail → is_empty head tail ≡ false → ahead size (next_slot size head) tail + 1 ≡ ahead size head tail
one-taken size head tail order some =
    ahead-taken size head tail order (λ same. let empty : is_empty head tail ≡ true = eq-eqb head tail same in cc)

-- there is room where one slot stays empty behind the next entry
pub room-counted : (size head tail : ℕ) → IsInOrder size head tail → is_full size head tail ≡ false → ahead size head tail + 1 < size
room-counted size head tail order free =
    let below = ahead-below size head tail order in
    let some = order.at_least in
    elim (cases_eq (ahead size head tail) (size - 1)) [
      | inl most ↦ let full = ahead-full size head tail order most in cc
      | inr other ↦ omega arith
    ]

pub counted-room : (size head tail : ℕ) → IsInOrder size head tail → ahead size head tail + 1 < size → is_full size head tail ≡ false
counted-room size head tail order fewer =
    (elim (is_full size head tail) as (λ b. is_full size head tail ≡ b → b ≡ false) [
      | true ↦ λ full. let most = full-ahead size head tail order full in absurd (omega arith)
      | false ↦ λ _. refl
    ]) refl

-- the same as tests
pub empty-counted : (size head tail : ℕ) → IsInOrder size head tail → IsTrue (is_empty head tail) ↔ (ahead size head tail ≡ 0)
empty-counted size head tail order = (none-waiting size head tail order, empty-none size head tail order)

pub room-tested : (size head tail : ℕ) → IsInOrder size head tail → IsTrue (not (is_full size head tail)) ↔ (ahead size head tail + 1 < size)
room-tested size head tail order = (
  λ free. room-counted size head tail order (turned (is_full size head tail) free),
  λ fewer. ap not (counted-room size head tail order fewer),
)
  where
    turned : (b : Bool) → not b ≡ true → b ≡ false
    turned true is = (let wrong : false ≡ true = is in cc)
    turned false is = refl
