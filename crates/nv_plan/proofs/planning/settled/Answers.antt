use Rattle.std.proofs.Common.{refl, ap, ◌∙◌}
use Rattle.nv_plan.specs.Drafted.{ahead_of}
use Rattle.nv_plan.specs.Drawn.{given_of}
use Rattle.nv_plan.specs.Made.{outcome_of}
use Rattle.nv_plan.specs.Outline.{outline_of}
use Rattle.nv_plan.proofs.DraftSteps.{made-jobs, made-same, under_way-says, under_way-wanted}
use Rattle.nv_plan.proofs.PlanCases.{outlined-settled}
use Rattle.nv_plan.proofs.planning.settled.Goals as goal

pub returns-in-Read : goal.returns-in-Read
returns-in-Read g c = (
  refl,
  under_way-wanted c.args.draft.now c.args.job c.in-Read.addr c.in-Read.len c.requires.under_way (c.requires.next ∙ ap ahead_of c.in-Read.is),
)

pub new-requires : goal.new-requires
new-requires g c =
    made-jobs c.args.job (given_of c.args.draft.now.given) c.in-Ok-kept.map c.in-Ok-kept.ns c.in-Ok.outline c.in-Ok-kept.ensures.0 c.in-Ok-kept.ensures.1
    (under_way-says c.args.draft.now c.args.job c.in-Ok.outline c.requires.under_way c.in-Ok.ensures)

pub returns-in-Ok-kept : goal.returns-in-Ok-kept
returns-in-Ok-kept g c =
    let says = under_way-says c.args.draft.now c.args.job c.in-Ok.outline c.requires.under_way c.in-Ok.ensures in
    let came = outlined-settled c.args.draft.now.given.ns.now c.args.job.sqe (outcome_of (given_of c.args.draft.now.given) c.args.job) c.in-Ok.outline says in (
      came.0,
      (
        came.1.0,
        made-same c.new.result c.args.job (given_of c.args.draft.now.given) c.in-Ok-kept.map c.in-Ok-kept.ns c.in-Ok.outline (outline_of c.args.draft.now.given.ns.now c.args.job.sqe came.0)
            c.new.ensures c.in-Ok-kept.ensures.0 c.in-Ok-kept.ensures.1 came.1.1,
      ),
    )
