use Rattle.std.proofs.Common.{◌∙◌, sym, arith, below_more}
use Rattle.nv_c.proofs.Rests.{guest-rests}
use Rattle.nv_c.proofs.working.next_of_guest.Goals as goal

pub loop-lane-preserved : goal.loop-lane-preserved
loop-lane-preserved c = below_more _ _ c.loop-lane.invariant (c.in-Nothing.ensures, c.in_default-next_take.ensures)

pub returns : goal.returns
returns c =
    let end = c.loop-lane-test.false in
    let lanes = c.lanes-lane-end.ensures.1 in
    guest-rests c.args.mediator.now c.args.guest (sym c.is_admin_due.ensures ∙ c.if-is_admin_due.false)
    (λ lane below. (c.loop-lane.invariant lane (omega (arith, below, end, lanes))).0)
    (λ lane below. (c.loop-lane.invariant lane (omega (arith, below, end, lanes))).1)
