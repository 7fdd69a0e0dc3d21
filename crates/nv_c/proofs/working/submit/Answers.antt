use Rattle.std.proofs.Common.{arith}
use Rattle.nv_c.proofs.Works.{leads_one}
use Rattle.nv_world_model.specs.declared.event.Event.TheVariants as event
use Rattle.nv_c.proofs.working.submit.Goals as goal

pub returns : goal.returns
returns c =
    let job = c.args.plan.job in
    let some = c.requires.some in
    (leads_one c.args._scope (event.Submit job.lane job.tag) c.args.mediator.now c.submit_plan.new.self c.in-Some._reply c.requires.work c.in-Some.ensures.some.1, omega arith, omega (arith, some))
