use Rattle.std.proofs.Common.{◌∙◌, ℕ, Option, is_some, arith, inl, inr, ap, sym}
use Rattle.std.proofs.lemmas.Bool.{cases_eq}
use Rattle.nv_model.specs.Controller.{front}
use Rattle.nv_vctl.proofs.Entries.{front-ready, front-unready}
use Rattle.nv_vctl.proofs.vctl.Vctl.next_waiting.Goals as goal

pub returns-then-not-is_ready : goal.returns-then-not-is_ready
returns-then-not-is_ready c =
    record {
      passed = λ queue from below. ap (λ (o : Option ℕ). is_some o) (front-unready c.args.self.now queue (sym c.is_ready.ensures.value ∙ c.if-not-is_ready.true));
      here = λ below. absurd (omega (arith, below));
      within = omega arith;
    }

pub loop-queue-init : goal.loop-queue-init
loop-queue-init c = record { from = omega arith; passed = λ queue from below. absurd (omega (arith, from, below)) }

pub returns-then-holds_command : goal.returns-then-holds_command
returns-then-holds_command c =
    let less = c.loop-queue-test.true in
    record {
      passed = c.loop-queue.invariant.passed;
      here = λ below. (
        c.loop-queue.invariant.from,
        ap (λ (o : Option ℕ). is_some o) (front-ready c.args.self.now c.loop-queue.queue (sym c.is_ready.ensures.value ∙ c.if-not-is_ready.false))
            ∙ sym c.holds_command.ensures ∙ c.if-holds_command.true,
      );
      within = omega (arith, less);
    }

pub loop-queue-preserved : goal.loop-queue-preserved
loop-queue-preserved c =
    let low = c.loop-queue.invariant.from in
    record {
      from = omega (arith, low);
      passed = λ queue from below.
          elim (cases_eq queue c.loop-queue.queue) [
            | inl same ↦
                ap (λ (k : ℕ). is_some (front c.args.self.now k)) same
                ∙ ap (λ (o : Option ℕ). is_some o) (front-ready c.args.self.now c.loop-queue.queue (sym c.is_ready.ensures.value ∙ c.if-not-is_ready.false))
                ∙ sym c.holds_command.ensures ∙ c.if-holds_command.false
            | inr other ↦ c.loop-queue.invariant.passed queue from (omega (arith, below, other))
          ];
    }

pub returns : goal.returns
returns c =
    let end = c.loop-queue-test.false in
    record {
      passed = λ queue from below. c.loop-queue.invariant.passed queue from (omega (arith, below, end));
      here = λ below. absurd (omega (arith, below));
      within = omega arith;
    }
