use Rattle.std.proofs.Common.{◌∙◌, ℕ, slice_get, arith, inl, inr, ap, sym}
use Rattle.std.proofs.lemmas.Bool.{cases_eq}
use Rattle.nv_core.specs.News.{is_busy, tags_at}
use Rattle.nv_core.proofs.front.Front.next_busy.Goals as goal

pub loop-lane-init : goal.loop-lane-init
loop-lane-init g c = record { from = omega arith; passed = λ lane from below. absurd (omega (arith, from, below)) }

pub returns-then-is_busy : goal.returns-then-is_busy
returns-then-is_busy g c =
    let less = c.loop-lane-test.true in
    record {
      passed = c.loop-lane.invariant.passed;
      here = λ below. (c.loop-lane.invariant.from, sym c.is_busy.ensures ∙ c.if-is_busy.true);
      within = omega (arith, less);
    }

pub loop-lane-preserved : goal.loop-lane-preserved
loop-lane-preserved g c =
    let low = c.loop-lane.invariant.from in
    record {
      from = omega (arith, low);
      passed = λ lane from below.
          elim (cases_eq lane c.loop-lane.lane) [
            | inl same ↦
                ap (λ (k : ℕ). is_busy c.args.layout.now k (slice_get c.args.self.now.lanes k) (tags_at c.args.held.now k) (g.C.MemoryCell.bytes c.args.host.now)) same
                ∙ sym c.is_busy.ensures ∙ c.if-is_busy.false
            | inr other ↦ c.loop-lane.invariant.passed lane from (omega (arith, below, other))
          ];
    }

pub returns : goal.returns
returns g c =
    let end = c.loop-lane-test.false in
    record {
      passed = λ lane from below. c.loop-lane.invariant.passed lane from (omega (arith, below, end));
      here = λ below. absurd (omega (arith, below));
      within = omega arith;
    }
