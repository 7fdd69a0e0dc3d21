use Rattle.std.proofs.Common.{◌≡◌, ◌∙◌, refl, subst, sym, Some}
use Rattle.nv_c.proofs.Readings.{waiting-guest, waiting-wants}
use Rattle.nv_c.proofs.Rests.{given-there, holder-given, some-job}
use Rattle.nv_c.specs.Work.{IsWaiting}
use Rattle.nv_c.specs.declared.working.Scope.TheVariants as scope
use Rattle.nv_core.specs.Jobs.{job_of}
use Rattle.nv_mediator.specs.Hosted.{hosted_world}
use Rattle.nv_plan.specs.declared.job.Job.{Job}
use Rattle.nv_world_model.specs.Geometry.{Guest}
use Rattle.nv_c.proofs.working.plan.Goals as goal

pub returns-then-is_waiting : goal.returns-then-is_waiting
returns-then-is_waiting c =
    let h = c.args.mediator.now in
    let some = some-job (job_of (hosted_world h) c.args.lane c.args.tag) (c.if-is_waiting.ensures.0 refl) in
    let given = given-there h.geometry (hosted_world h) c.promise.ensures.consistent c.args.lane c.args.tag some.0 some.1 in
    record {
      job = some.0;
      given = given.0;
      there = some.1;
      waiting = waiting-guest h c.args.guest c.args.lane c.args.tag some.0 given.0 c.requires some.1 given.1;
    }

pub returns-in_default : goal.returns-in_default
returns-in_default c =
    let h = c.args.mediator.now in
    let some = some-job (job_of (hosted_world h) c.args.lane c.args.tag) c.in_default.ensures.err in
    let given = given-there h.geometry (hosted_world h) c.promise.ensures.consistent c.args.lane c.args.tag some.0 some.1 in
    waiting-wants (scope.Guest c.args.guest) h some.0 given.0 (waiting-guest h c.args.guest c.args.lane c.args.tag some.0 given.0 c.requires some.1 given.1)

pub given_to-limit-requires : goal.given_to-limit-requires
given_to-limit-requires c =
    let h = c.args.mediator.now in
    let there : job_of (hosted_world h) c.args.lane c.args.tag ≡ Some c.in-Some.job = sym c.in-Ok.ensures.ok ∙ c.in-Some.is in
    holder-given h.geometry (hosted_world h) c.promise.ensures.consistent c.args.guest c.args.lane c.args.tag c.in-Some.job c.requires there

pub returns-in-Need : goal.returns-in-Need
returns-in-Need c =
    let h = c.args.mediator.now in
    let there : job_of (hosted_world h) c.args.lane c.args.tag ≡ Some c.in-Some.job = sym c.in-Ok.ensures.ok ∙ c.in-Some.is in
    let given = given-there h.geometry (hosted_world h) c.promise.ensures.consistent c.args.lane c.args.tag c.in-Some.job there in
    subst (λ (j : Job). (x : Guest) × IsWaiting (scope.Guest c.args.guest) h j x) (sym c.in-Need.ensures.0)
    (given.0, waiting-guest h c.args.guest c.args.lane c.args.tag c.in-Some.job given.0 c.requires there given.1)
