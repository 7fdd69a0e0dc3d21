use Rattle.std.proofs.Common.{arith}
use Rattle.nv_c.proofs.Works.{leads_one}
use Rattle.nv_c.proofs.working.make.Goals as goal

pub returns-in-Ok : goal.returns-in-Ok
returns-in-Ok c =
    let some = c.requires.some in
    (leads_one c.args._scope c.args.event.now c.args.mediator.now c.step.new.self c.in-Ok._reply c.requires.work c.in-Ok.ensures.ok, omega arith, omega (arith, some))

pub returns-in-Err : goal.returns-in-Err
returns-in-Err c = (c.in-Err.ensures.err.0, record { event = c.args.event.now; work = c.requires.work; wants = c.in-Err.ensures.err.1 })
