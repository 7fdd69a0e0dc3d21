use Rattle.nv_print.specs.declared.cannot_write.CannotWrite.{CannotWrite}
use Rattle.nv_replay.proofs.Runs.{PrintsStep-made, PrintsStep-none}
use Rattle.nv_replay.proofs.replay.step.Goals as goal

pub returns-in-Ok : goal.returns-in-Ok
returns-in-Ok g c = PrintsStep-made {E = CannotWrite} _ _ _ _ _ _ _ c.print_reply.result c.in-Ok.ensures.ok c.print_reply.ensures

pub returns-in-Err : goal.returns-in-Err
returns-in-Err g c = PrintsStep-none {E = CannotWrite} _ c.args.event.now _ _ _ _ c.print_reply-in-Err.result c.in-Err.ensures.err.0 c.in-Err.ensures.err.1 c.print_reply-in-Err.ensures
