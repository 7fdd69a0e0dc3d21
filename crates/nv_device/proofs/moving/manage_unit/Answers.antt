use Rattle.std.proofs.Common.{length, ap, sym, ◌∙◌}
use Rattle.nv_disk.specs.Flat.{flat, moved_of}
use Rattle.nv_world_model.specs.Device.{range_at}
use Rattle.nv_device.proofs.UnitLemmas.{deallocate-unit, leave-unit, memory-of, range-there}
use Rattle.nv_device.proofs.moving.manage_unit.Goals as goal

pub returns-then-not-deallocates-clause-moved : goal.returns-then-not-deallocates-clause-moved
returns-then-not-deallocates-clause-moved c =
    ap (moved_of (flat c.args.host.now c.args.disk.now c.args.kept.now)) c.has_differed.ensures
    ∙ leave-unit c.args.number c.args.command.now c.args.host.now c.args.disk.now c.args.kept.now c.requires.opcode (sym c.deallocates.ensures ∙ c.if-not-deallocates.true)

pub returns-clause-moved : goal.returns-clause-moved
returns-clause-moved c =
    ap (moved_of (flat c.args.host.now c.clear_range.new.disk c.clear_range.new.kept)) c.has_differed-2.ensures
    ∙ c.clear_range.ensures.moved c.args.host.now c.args.command.now.differed
    ∙ deallocate-unit c.args.number c.args.command.now c.args.host.now c.args.disk.now c.args.kept.now c.range_of.result c.requires.opcode
    (sym c.deallocates.ensures ∙ c.if-not-deallocates.false)
    (c.range_of.ensures ∙ ap (range_at c.args.number c.args.command.now.pieces) (sym (memory-of c.args.host.now c.args.disk.now c.args.kept.now c.args.command.now.differed)))

pub range_of-requires-clause-number : goal.range_of-requires-clause-number
range_of-requires-clause-number c =
    (range-there (length c.args.disk.now) c.args.number c.args.command.now c.requires.opcode c.requires.ready.left c.requires.ready.held).1

pub range_of-requires-clause-enough : goal.range_of-requires-clause-enough
range_of-requires-clause-enough c =
    (range-there (length c.args.disk.now) c.args.number c.args.command.now c.requires.opcode c.requires.ready.left c.requires.ready.held).0
