-- How many entries wait in a queue, and how many completions are not acknowledged: what raises and lowers it.
use Rattle.std.proofs.Common.{◌≡◌, ℕ, ◌+◌, ◌-◌, ◌*◌, ◌<◌, ◌≤◌, inl, inr, true, false, cond, ◌&&◌, nat_le, nat_lt, Option, Some, None, arith, refl, sym, ap, ◌∙◌}
use Rattle.std.proofs.Common.{subst, leb-true, ltb-true, mod-eq_of_lt, mod-lt, eq-eqb, eqb-true}
use Rattle.std.proofs.Math.Nat.{mod_self}
use Rattle.std.proofs.lemmas.Bool.{cases_lt, cases_eq}
use Rattle.nv_model.specs.Queue.{SubmissionQueue, CompletionQueue, ahead, front_taken, is_empty, is_full, next_slot, unacknowledged}
use Rattle.nv_model.specs.Controller.{Controller, completion_queue, front, front_of, head_rung, is_ready, submission_queue, took, took_of, with_completion}
use Rattle.nv_model.specs.Laws.{IsInOrder}
use Rattle.nv_model.proofs.Endings.{and-true}
use Rattle.nv_model.proofs.QueueOrder.{ahead-next, ahead-round, ahead-up}
use Rattle.nv_model.proofs.QueuesKept.{queue_of-set}

-- ---- slots

-- a slot is ahead where head and tail differ
pub ahead-some : (size head tail : ℕ) → IsInOrder size head tail → (head ≡ tail → ⊥) → 0 < ahead size head tail
ahead-some size head tail order apart =
    let head_below = order.head_is_slot in
    let tail_below = order.tail_is_slot in
    elim (cases_lt tail head) [
      | inl round ↦ rw (ahead-round size head tail round head_below) (omega arith)
      | inr up ↦ elim (cases_eq head tail) [
        | inl same ↦ absurd (apart same)
        | inr other ↦ rw (ahead-up size head tail up tail_below) (omega arith)
      ]
    ]

-- and one less is from the slot behind the head
pub ahead-taken : (size head tail : ℕ) → IsInOrder size head tail → (head ≡ tail → ⊥)
    → ahead size (next_slot size head) tail + 1 ≡ ahead size head tail
ahead-taken size head tail order apart =
    let head_below = order.head_is_slot in
    let tail_below = order.tail_is_slot in
    elim (cases_eq head tail) [
      | inl same ↦ absurd (apart same)
      | inr other ↦ elim (cases_lt (head + 1) size) [
        | inl within ↦
            let next : next_slot size head ≡ head + 1 = mod-eq_of_lt within in
            elim (cases_lt tail head) [
              | inl round ↦ rw (next, ahead-round size (head + 1) tail (omega arith) within, ahead-round size head tail round head_below) (omega arith)
              | inr up ↦ rw (next, ahead-up size (head + 1) tail (omega arith) tail_below, ahead-up size head tail up tail_below) (omega arith)
            ]
        | inr last ↦
            let end : head + 1 ≡ size = omega arith in
            let next : next_slot size head ≡ 0 = rw end (mod_self size) in
            rw (next, ahead-up size 0 tail (omega arith) tail_below, ahead-round size head tail (omega arith) head_below) (omega arith)
      ]
    ]

-- a queue is full where one slot alone is left
pub full-ahead : (size head tail : ℕ) → IsInOrder size head tail → is_full size head tail ≡ true
    → ahead size head tail ≡ size - 1
full-ahead size head tail order full =
    let at : head ≡ next_slot size tail = eqb-true head (next_slot size tail) full in
    let tail_below = order.tail_is_slot in
    let some = order.at_least in
    elim (cases_lt (tail + 1) size) [
      | inl within ↦
          let next : next_slot size tail ≡ tail + 1 = mod-eq_of_lt within in
          let here : head ≡ tail + 1 = at ∙ next in
          rw (here, ahead-round size (tail + 1) tail (omega arith) within) (omega arith)
      | inr last ↦
          let end : tail + 1 ≡ size = omega arith in
          let next : next_slot size tail ≡ 0 = rw end (mod_self size) in
          let here : head ≡ 0 = at ∙ next in
          rw (here, ahead-up size 0 tail (omega arith) tail_below) (omega arith)
    ]

pub ahead-full : (size head tail : ℕ) → IsInOrder size head tail → ahead size head tail ≡ size - 1
    → is_full size head tail ≡ true
ahead-full size head tail order most =
    (elim (is_full size head tail) as (λ b. is_full size head tail ≡ b → b ≡ true) [
      | true ↦ λ _. refl
      | false ↦ λ free.
          let some = order.at_least in
          let more = ahead-next size head tail order free in
          let below : ahead size head (next_slot size tail) < size = mod-lt (next_slot size tail + size - head) (omega arith) in
          absurd (omega arith)
    ]) refl

-- a new head on the way to the tail parts the way
pub ahead-parts : (size head at tail : ℕ) → IsInOrder size head tail → at < size
    → ahead size head at ≤ ahead size head tail
    → ahead size at tail + ahead size head at ≡ ahead size head tail
ahead-parts size head at tail order at_below on_the_way =
    let head_below = order.head_is_slot in
    let tail_below = order.tail_is_slot in
    elim (cases_lt tail head) [
      | inl round ↦
          let whole = ahead-round size head tail round head_below in
          elim (cases_lt at head) [
            | inl behind ↦
                let way = ahead-round size head at behind head_below in
                rw (ahead-up size at tail (omega arith) tail_below, way, whole) (omega arith)
            | inr before ↦
                let way = ahead-up size head at before at_below in
                rw (ahead-round size at tail (omega arith) at_below, way, whole) (omega arith)
          ]
      | inr up ↦
          let whole = ahead-up size head tail up tail_below in
          elim (cases_lt at head) [
            | inl behind ↦ let way = ahead-round size head at behind head_below in absurd (omega arith)
            | inr before ↦
                let way = ahead-up size head at before at_below in
                rw (ahead-up size at tail (omega arith) tail_below, way, whole) (omega arith)
          ]
    ]

-- ---- a controller's queues

-- where a front entry is, the queue is not empty
front_of-waits : (q : SubmissionQueue) (addr : ℕ) → front_of (Some q) ≡ Some addr → q.head ≡ q.tail → ⊥
front_of-waits q addr found same =
    let empty : is_empty q.head q.tail ≡ true = rw same (eq-eqb q.tail q.tail refl) in
    (elim q.closing as (λ b. cond b None (cond (is_empty q.head q.tail) None (Some (q.base + 64 * q.head))) ≡ Some addr → ⊥) [
      | true ↦ λ bad. cc
      | false ↦ λ bad. (let none : None ≡ Some addr = rw empty at bad in cc)
    ]) found

pub front-waits : (c : Controller) (y addr : ℕ) (q : SubmissionQueue) → submission_queue c y ≡ Some q
    → front c y ≡ Some addr → q.head ≡ q.tail → ⊥
unfolding front
front-waits c y addr q is found =
    (elim (is_ready c) as (λ b. cond b (front_of (submission_queue c y)) None ≡ Some addr → q.head ≡ q.tail → ⊥) [
      | true ↦ λ there. front_of-waits q addr (ap front_of (sym is) ∙ there)
      | false ↦ λ bad. cc
    ]) found

-- the queue behind a take
pub took-behind : (c : Controller) (y : ℕ) (q : SubmissionQueue) → submission_queue c y ≡ Some q
    → submission_queue (took c y) y ≡ Some (front_taken q)
unfolding took
took-behind c y q is =
    subst (λ (o : Option SubmissionQueue). submission_queue (took_of o c y) y ≡ Some (front_taken q)) (sym is)
    (queue_of-set c.submission y q (front_taken q) is)

-- what a head doorbell acknowledges
pub record Acknowledges (q : CompletionQueue) (y : ℕ) (after : Controller) : Type 0 where
  pub now : CompletionQueue
  pub behind : completion_queue after y ≡ Some now
  pub tail : now.tail ≡ q.tail
  pub less : unacknowledged now + ahead q.size q.head now.head ≡ unacknowledged q

pub head_rung-acknowledges : (c after : Controller) (y head : ℕ) (q : CompletionQueue) → IsInOrder q.size q.head q.tail
    → completion_queue c y ≡ Some q → head_rung (Some q) c y head ≡ Some after → Acknowledges q y after
head_rung-acknowledges c after y head q order is rung =
    (elim (nat_lt head q.size && nat_le (ahead q.size q.head head) (ahead q.size q.head q.tail))
    as (λ b. (nat_lt head q.size && nat_le (ahead q.size q.head head) (ahead q.size q.head q.tail)) ≡ b
    → cond b (Some (with_completion c y (Some (record q { head = head })))) None ≡ Some after
    → Acknowledges q y after) [
      | true ↦ λ fits done.
          let both = and-true (nat_lt head q.size) (nat_le (ahead q.size q.head head) (ahead q.size q.head q.tail)) fits in
          let same : with_completion c y (Some (record q { head = head })) ≡ after = cc in
          record {
            now = record q { head = head };
            behind = subst (λ (d : Controller). completion_queue d y ≡ Some (record q { head = head })) same
                (queue_of-set c.completion_queues y q (record q { head = head }) is);
            tail = refl;
            less = ahead-parts q.size q.head head q.tail order (ltb-true head q.size both.0) (leb-true _ _ both.1);
          }
      | false ↦ λ _ bad. cc
    ]) refl rung
