use Rattle.std.proofs.Common.{refl, ap, sym, ◌∙◌}
use Rattle.nv_entry.specs.declared.opcode.IoOpcode.TheVariants.{Write}
use Rattle.nv_disk.specs.Flat.{flat, moved_of}
use Rattle.nv_device.proofs.UnitLemmas.{same-move, transfer-unit}
use Rattle.nv_device.proofs.moving.write_unit.Goals as goal

pub returns-clause-moved : goal.returns-clause-moved
returns-clause-moved c =
    ap (moved_of (flat c.args.host.now c.write_block.new.disk c.write_block.new.kept)) c.has_differed.ensures
    ∙ c.write_block.ensures.moved c.args.number c.args.command.now.pieces c.args.command.now.differed c.block_of-lba.ensures.places
    ∙ same-move Write c.args.number c.block_of-lba.result.0 _ c.args.command.now.pieces c.fua.result _ (moved_of (flat c.args.host.now c.args.disk.now c.args.kept.now) c.args.command.now.differed)
    c.block_of-lba.ensures.lba c.fua.ensures
    ∙ sym (transfer-unit c.args.number c.args.command.now c.args.host.now c.args.disk.now c.args.kept.now Write c.requires.opcode refl)
