use Rattle.nv_mediator.proofs.Quiet.{on-err, unchanged-told}
use Rattle.nv_mediator.specs.Hosted.{IsUnchanged}
use Rattle.nv_mediator.proofs.performing.perform_twice.Goals as goal

pub returns-in_err-told-2-clause-err : goal.returns-in_err-told-2-clause-err
returns-in_err-told-2-clause-err c =
    on-err c.from_residual-in_err-told-2.result (IsUnchanged c.args.core.now c.perform.new.core)
    (unchanged-told c.args.layout.now c.args.event.now c.args.core.now c.perform.new.core c.in_ok-reply-2.reply c.in_ok-reply-2.ensures.step
    c.in_default.not-List c.in_err-told-2.ensures.err.1)
