use Rattle.std.proofs.Common.{◌≡◌, slice_get, Some, ap, sym, subst, ◌∙◌}
use Rattle.nv_plan.specs.Made.{MadePlan, share_made}
use Rattle.nv_plan.specs.Outline.{portion_of}
use Rattle.nv_plan.specs.Parts.{ranges_of}
use Rattle.nv_plan.proofs.MadeShares.{made-portion}
use Rattle.nv_plan.proofs.plan.Plan.part_ranges.Goals as goal

pub returns-clause-value : goal.returns-clause-value
returns-clause-value c = λ share there.
    let p : MadePlan = record {
      job = c.self.inside.job;
      given = record { memory_map = c.self.inside.map; namespace = c.self.inside.ns; limit = c.self.inside.limit };
      outline = record { kind = c.self.inside.kind; portions = c.self.inside.portions };
    } in
    let here = subst (λ (q : MadePlan). share_made c.args.part q ≡ Some share) (sym c.self.view_is) there in
    c.ranges-2.ensures (portion_of c.self.inside.ns share)
    (ap (slice_get c.self.inside.portions) c.from.ensures ∙ made-portion p c.args.part share c.self.invariant here)
    ∙ ap (λ (q : MadePlan). ranges_of q.given.namespace share.plan) c.self.view_is
