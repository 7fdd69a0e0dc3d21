use Rattle.std.proofs.Common.{arith}
use Rattle.nv_c.proofs.Works.{leads_give}
use Rattle.nv_c.proofs.reading.give_up.Goals as goal

pub returns : goal.returns
returns c =
    let some = c.requires.some in
    (leads_give c.args._scope c.args.lane c.args.tag c.args.mediator.now c.step.new.self c.in-Ok._reply c.requires.may c.in-Ok.ensures.ok, omega (arith, some))
