use Rattle.std.proofs.Common.{◌∙◌, ap, sym, subst, Some, ◌≤◌, ℕ}
use Rattle.std.specs.List.{slice_range}
use Rattle.nv_plan.proofs.CutRuns.{begin-order, end-within, run-at}
use Rattle.nv_plan.proofs.ends.Ends.run.Goals as goal

pub between-requires-clause-order : goal.between-requires-clause-order
between-requires-clause-order g c =
    subst (λ (n : ℕ). n ≤ c.span-begin.result.1) (sym c.span-begin.ensures.begin)
    (begin-order 0 c.args.self.now (_) c.args.part c.span-begin.result.1 c.requires.ends c.span-begin.ensures.end)

pub between-requires-clause-within : goal.between-requires-clause-within
between-requires-clause-within g c =
    (end-within 0 c.args.self.now (_) c.args.part c.span-begin.result.1 c.requires.ends c.span-begin.ensures.end).1

pub returns : goal.returns
returns g c =
    run-at c.args.items.now 0 c.args.self.now c.args.part c.span-begin.result.1 c.span-begin.ensures.end
    ∙ ap (λ n. Some (slice_range c.args.items.now n c.span-begin.result.1)) (sym c.span-begin.ensures.begin) ∙ ap Some (sym c.between.ensures)
