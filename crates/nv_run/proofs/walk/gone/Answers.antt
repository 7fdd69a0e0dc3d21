use Rattle.nv_run.proofs.Drives.{IsGone-act}
use Rattle.nv_run.proofs.walk.gone.Goals as goal

pub returns-then-is_act : goal.returns-then-is_act
returns-then-is_act c =
    IsGone-act c.args.guest c.args.task.now c.in-Act.act c.args.calls.now c.in_ok-call-in-Act.rest.now c.in_ok-call-in-Act.call.now
    c.in-Act.is c.in_ok-call-in-Act.ensures.cases.0 (c.is_act.ensures.0 c.if-is_act.true)
