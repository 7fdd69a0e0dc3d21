use Rattle.std.proofs.Common.{refl, ap, sym, ◌∙◌}
use Rattle.nv_entry.specs.declared.opcode.IoOpcode.TheVariants.{Read}
use Rattle.nv_disk.specs.Flat.{flat, moved_of}
use Rattle.nv_device.proofs.UnitLemmas.{same-move, transfer-unit}
use Rattle.nv_device.proofs.moving.read_unit.Goals as goal

pub returns-clause-moved : goal.returns-clause-moved
returns-clause-moved c =
    ap (moved_of (flat c.read_block.new.memory c.args.disk.now c.read_block.new.kept)) c.has_differed.ensures
    ∙ c.read_block.ensures.moved c.args.number c.args.command.now.pieces c.args.command.now.differed c.block_of-lba.ensures.places
    ∙ same-move Read c.args.number c.block_of-lba.result.0 _ c.args.command.now.pieces c.fua.result _ (moved_of (flat c.args.host.now c.args.disk.now c.args.kept.now) c.args.command.now.differed)
    c.block_of-lba.ensures.lba c.fua.ensures
    ∙ sym (transfer-unit c.args.number c.args.command.now c.args.host.now c.args.disk.now c.args.kept.now Read c.requires.opcode refl)
