use Rattle.std.proofs.Common.{◌≡◌, ℕ, ◌≤◌, ◌<◌, false, arith, inl, inr}
use Rattle.std.proofs.lemmas.Bool.{cases_lt}
use Rattle.std.proofs.lemmas.Bool.Decides.{nat_tests}
use Rattle.nv_host.proofs.Queues.{take-quiet}
use Rattle.nv_host.proofs.Rests.{take-no_queue}
use Rattle.nv_mediator.specs.Hosted.{hosted_world}
use Rattle.nv_world_model.specs.Step.{is_io_queue}
use Rattle.nv_c.proofs.working.next_take.Goals as goal

too_low : (queue : ℕ) → queue < 1 → is_io_queue queue ≡ false
too_low queue low = grind (arith, nat_tests)

too_high : (queue : ℕ) → 9 ≤ queue → is_io_queue queue ≡ false
too_high queue high = grind (arith, nat_tests)

pub returns-then-not-is_noted : goal.returns-then-not-is_noted
returns-then-not-is_noted c = λ queue.
    take-quiet c.args.mediator.now.geometry (hosted_world c.args.mediator.now) c.args.guest queue c.args.lane
    (λ k at io. (c.is_noted.ensures c.if-not-is_noted.true k at).queues queue io)

pub returns : goal.returns
returns c = λ queue.
    let h = c.args.mediator.now in
    let end = c.loop-queue-test.false in
    elim (cases_lt queue 1) [
      | inl low ↦ take-no_queue h.geometry (hosted_world h) c.args.guest queue c.args.lane (too_low queue low)
      | inr some ↦
          elim (cases_lt queue 9) [
            | inl below ↦ c.loop-queue.invariant queue some (omega (arith, below, end))
            | inr high ↦ take-no_queue h.geometry (hosted_world h) c.args.guest queue c.args.lane (too_high queue high)
          ]
    ]
