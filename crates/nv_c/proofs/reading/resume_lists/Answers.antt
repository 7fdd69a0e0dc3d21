use Rattle.std.proofs.Common.{refl}
use Rattle.nv_c.proofs.Readings.{waiting-wants}
use Rattle.nv_c.proofs.reading.resume_lists.Goals as goal

pub returns-in-Err : goal.returns-in-Err
returns-in-Err c =
    let waits = c.requires.waits in
    (refl, waiting-wants c.args.scope c.args.mediator.now waits.job waits.given waits.waiting)
