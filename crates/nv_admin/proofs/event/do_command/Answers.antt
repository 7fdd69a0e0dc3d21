use Rattle.std.proofs.Common.{sym, ap, ◌∙◌}
use Rattle.nv_mem.specs.GuestMap.{mapped}
use Rattle.nv_model.specs.Admin.{admin_command, is_queue_full}
use Rattle.nv_model.specs.Controller.{Controller, completion_queue, front, is_ready}
use Rattle.nv_admin.specs.Effect.{stored_by}
use Rattle.nv_admin.specs.Identify.{command_stored, memory_behind}
use Rattle.nv_admin.proofs.Cases.{front-goes, front-held, front-idle, no_memory, outcome-answered}
use Rattle.nv_admin.proofs.Steps.{took-keeps}
use Rattle.nv_admin.proofs.event.do_command.Goals as goal

pub carry_out-carried-requires-clause-ready : goal.carry_out-carried-requires-clause-ready
carry_out-carried-requires-clause-ready c =
    ap (λ (d : Controller). is_ready d) c.took.ensures.state ∙ (took-keeps c.args.vctl.now).0 ∙ c.requires.ready

pub carry_out-carried-requires-clause-no_deletion : goal.carry_out-carried-requires-clause-no_deletion
carry_out-carried-requires-clause-no_deletion c =
    ap (λ (d : Controller). d.deletion) c.took.ensures.state ∙ (took-keeps c.args.vctl.now).1 ∙ c.requires.no_deletion

pub complete-requires-clause-in_place : goal.complete-requires-clause-in_place
complete-requires-clause-in_place c =
    c.carry_out-carried.ensures.in_place (c.took.ensures.in_place (mapped c.args.map.now.regions) c.requires.in_place)

pub complete-requires-clause-ready : goal.complete-requires-clause-ready
complete-requires-clause-ready c =
    c.carry_out-carried.ensures.keeps.ready ∙ ap (λ (d : Controller). is_ready d) c.took.ensures.state
    ∙ (took-keeps c.args.vctl.now).0 ∙ c.requires.ready

pub complete-requires-clause-room : goal.complete-requires-clause-room
complete-requires-clause-room c =
    ap is_queue_full (
    c.carry_out-carried.ensures.keeps.admin_queue ∙ ap (λ (d : Controller). completion_queue d 0) c.took.ensures.state
    ∙ (took-keeps c.args.vctl.now).2)
    ∙ sym c.if-is_admin_full.ensures

pub returns-then-not-waits-clause-event : goal.returns-then-not-waits-clause-event
returns-then-not-waits-clause-event c =
    front-idle (mapped c.args.map.now.regions) c.args.blocks c.args.entry.now c.args.vctl.now (front c.args.vctl.now 0) (sym c.if-not-waits.ensures)

pub returns-then-is_admin_full-clause-event : goal.returns-then-is_admin_full-clause-event
returns-then-is_admin_full-clause-event c =
    front-held (mapped c.args.map.now.regions) c.args.blocks c.args.entry.now c.args.vctl.now (front c.args.vctl.now 0) (sym c.if-not-waits.ensures)
    (sym c.if-is_admin_full.ensures)

pub returns-clause-event : goal.returns-clause-event
returns-clause-event c =
    front-goes (mapped c.args.map.now.regions) c.args.blocks c.args.entry.now c.args.vctl.now (front c.args.vctl.now 0) (sym c.if-not-waits.ensures)
    (sym c.if-is_admin_full.ensures)
    ∙ rw (← c.cid.ensures, ← c.took.ensures.state)
    (outcome-answered (admin_command (mapped c.args.map.now.regions) c.args.blocks c.args.entry.now c.took.new.self no_memory)
    c.carry_out-carried.result.outcome c.carry_out-carried.new.vctl c.args.vctl.now
    (memory_behind (stored_by c.carry_out-carried.result.page) no_memory) c.cid.result
    (command_stored (mapped c.args.map.now.regions) c.args.blocks c.args.entry.now) (stored_by c.carry_out-carried.result.page)
    (c.carry_out-carried.ensures.effect no_memory) c.carry_out-carried.ensures.stored)
    ∙ c.complete.ensures.event c.args.vctl.now
