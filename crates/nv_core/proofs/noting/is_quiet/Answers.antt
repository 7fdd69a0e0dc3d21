use Rattle.std.proofs.Common.{◌≡◌, ◌≤◌, ◌<◌, ◌∙◌, ℕ, true, false, Option, None, Some, is_some, arith, refl, sym}
use Rattle.std.proofs.lemmas.Bool.Decides.{nat_tests}
use Rattle.nv_model.specs.Controller.{front}
use Rattle.nv_world_model.specs.Step.{is_io_queue}
use Rattle.nv_core.proofs.noting.is_quiet.Goals as goal

none-there : {X : Type 0} (o : Option X) → is_some o ≡ false → o ≡ None
none-there None e = refl
none-there (Some x) e = cc

low : (queue : ℕ) → is_io_queue queue ≡ true → 1 ≤ queue
low queue io = grind (arith, nat_tests, io)

high : (queue : ℕ) → is_io_queue queue ≡ true → queue < 9
high queue io = grind (arith, nat_tests, io)

pub returns : goal.returns
returns c = λ yes.
    let past = c.if-next_waiting-le-LAST_QUEUE.false in
    record {
      admin = λ test blocks memory. sym (c.is_due.ensures test blocks memory) ∙ c.if-is_due.false;
      queues = λ queue io.
          let below = high queue io in
          none-there (front c.args.vctl.now queue) (c.next_waiting.ensures.passed queue (low queue io) (omega (arith, below, past)));
    }
