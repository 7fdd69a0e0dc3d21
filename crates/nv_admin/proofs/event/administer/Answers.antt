use Rattle.std.proofs.Common.{None, Some, sym, ◌∙◌}
use Rattle.nv_mem.specs.GuestMap.{mapped}
use Rattle.nv_admin.proofs.Cases.{event-idle, event-ready}
use Rattle.nv_admin.proofs.event.administer.Goals as goal

pub returns-then-not-is_ready-clause-event : goal.returns-then-not-is_ready-clause-event
returns-then-not-is_ready-clause-event c =
    event-idle (mapped c.args.map.now.regions) c.args.blocks c.args.entry.now c.args.vctl.now (sym c.if-not-is_ready.ensures.value)

pub returns-in-Some-clause-event : goal.returns-in-Some-clause-event
returns-in-Some-clause-event c =
    event-ready (mapped c.args.map.now.regions) c.args.blocks c.args.entry.now c.args.vctl.now (Some c.in-Some.deletion)
    (sym c.if-not-is_ready.ensures.value) (sym c.in-Some.ensures)
    ∙ c.finish_deletion.ensures.event

pub returns-in-None-clause-event : goal.returns-in-None-clause-event
returns-in-None-clause-event c =
    event-ready (mapped c.args.map.now.regions) c.args.blocks c.args.entry.now c.args.vctl.now None
    (sym c.if-not-is_ready.ensures.value) (sym c.in-None.ensures)
    ∙ c.do_command.ensures.event
