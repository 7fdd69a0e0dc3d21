use Rattle.std.proofs.Common.{List, sym, ap, ◌∙◌}
use Rattle.nv_judge.proofs.RangeLemmas.{ranges-fit}
use Rattle.nv_ns.specs.Extents.{blocks_in}
use Rattle.nv_plan.specs.Outline.{Portion}
use Rattle.nv_plan.specs.declared.kind.PlanKind.TheVariants as kind
use Rattle.nv_plan.proofs.PlanCases.{ranged-fits}
use Rattle.nv_plan.proofs.given.GrantRef.ranged.Goals as goal

pub returns : goal.returns
returns c = λ entry pieces.
    c.new.ensures ∙ ap (λ (ps : List Portion). record { kind = kind.Bounced; portions = ps }) c.in_ok-portions.ensures
    ∙ ranged-fits c.args.self.now.ns.now c.args.self.now.map.now.regions entry pieces c.args.bytes.now
    (ranges-fit (blocks_in c.args.self.now.ns.now) c.args.bytes.now (sym c.judge_ranges.ensures ∙ c.in_default.is))
