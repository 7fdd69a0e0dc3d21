use Rattle.std.proofs.Common.{◌∙◌, sym}
use Rattle.nv_c.proofs.Rests.{lane-rests}
use Rattle.nv_c.proofs.working.next_of_lane.Goals as goal

pub returns-in-None : goal.returns-in-None
returns-in-None c =
    lane-rests c.args.mediator.now c.args.lane (sym c.due-3.ensures ∙ c.if-due-3.false) (sym c.due-2.ensures ∙ c.if-due-2.false) c.in_default.ensures c.in-None.ensures
