-- Doorbells, by the queue and the kind that their offset names.
use Rattle.std.proofs.Common.{◌≡◌, ℕ, ◌-◌, ◌/◌, ◌%◌, ◌≤◌, Bool, true, false, cond, ◌&&◌, nat_le, None, arith, refl, sym, ap, ◌∙◌}
use Rattle.std.proofs.lemmas.Bool.Decides.{nat_tests}
use Rattle.nv_entry.specs.Layout.{bits}
use Rattle.nv_model.specs.Queue.{SubmissionQueue}
use Rattle.nv_model.specs.Controller.{Controller, completion_queue, doorbell, head_rung, is_ready, rung, submission_queue, tail_rung}

-- a doorbell of a controller that is ready
doorbell-rung : (c : Controller) (offset value : ℕ) → is_ready c ≡ true → 4096 ≤ offset
    → doorbell c offset value ≡ rung c ((offset - 4096) / 8) ((offset - 4096) % 8) (bits value 15 0)
unfolding doorbell
doorbell-rung c offset value up from =
    let at : nat_le 4096 offset ≡ true = grind (arith, nat_tests) in
    ap (λ (b : Bool). cond (b && nat_le 4096 offset) (rung c ((offset - 4096) / 8) ((offset - 4096) % 8) (bits value 15 0)) None) up
    ∙ ap (λ (b : Bool). cond b (rung c ((offset - 4096) / 8) ((offset - 4096) % 8) (bits value 15 0)) None) at

-- a tail that may be taken leaves the completion queue as it was
pub rung-completes : (b : Bool) (q : SubmissionQueue) (tail : ℕ) → (cond b (record q { tail = tail }) q).completes_to ≡ q.completes_to
rung-completes true q tail = refl
rung-completes false q tail = refl

-- the tail of a submission queue
pub doorbell-tail : (c : Controller) (offset value slot : ℕ) → is_ready c ≡ true → 4096 ≤ offset → (offset - 4096) % 8 ≡ 0 → slot ≡ bits value 15 0
    → tail_rung (submission_queue c ((offset - 4096) / 8)) c ((offset - 4096) / 8) slot ≡ doorbell c offset value
doorbell-tail c offset value slot up from tail is =
    ap (λ (n : ℕ). tail_rung (submission_queue c ((offset - 4096) / 8)) c ((offset - 4096) / 8) n) is
    ∙ sym (doorbell-rung c offset value up from ∙ ap (λ (k : ℕ). rung c ((offset - 4096) / 8) k (bits value 15 0)) tail)

-- the head of a completion queue
pub doorbell-head : (c : Controller) (offset value slot : ℕ) → is_ready c ≡ true → 4096 ≤ offset → (offset - 4096) % 8 ≡ 4 → slot ≡ bits value 15 0
    → head_rung (completion_queue c ((offset - 4096) / 8)) c ((offset - 4096) / 8) slot ≡ doorbell c offset value
doorbell-head c offset value slot up from head is =
    ap (λ (n : ℕ). head_rung (completion_queue c ((offset - 4096) / 8)) c ((offset - 4096) / 8) n) is
    ∙ sym (doorbell-rung c offset value up from ∙ ap (λ (k : ℕ). rung c ((offset - 4096) / 8) k (bits value 15 0)) head)
