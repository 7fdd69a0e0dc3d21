use Rattle.std.proofs.Common.{◌||◌, Bool, refl, ap, sym, ◌∙◌}
use Rattle.nv_entry.specs.declared.opcode.IoOpcode.TheVariants.{Compare}
use Rattle.nv_disk.specs.Flat.{flat, moved_of}
use Rattle.nv_device.proofs.UnitLemmas.{same-move, transfer-unit}
use Rattle.nv_device.proofs.moving.compare_unit.Goals as goal

pub returns-then-has_differed-clause-moved : goal.returns-then-has_differed-clause-moved
returns-then-has_differed-clause-moved c =
    ap (moved_of (flat c.args.host.now c.args.disk.now c.compare_block-differs.new.kept))
    (c.if-has_differed.true ∙ ap (λ (b : Bool). b || c.compare_block-differs.result) (sym c.if-has_differed.true ∙ c.has_differed.ensures))
    ∙ c.compare_block-differs.ensures.moved c.args.number c.args.command.now.pieces c.args.command.now.differed c.block_of-lba.ensures.places
    ∙ same-move Compare c.args.number c.block_of-lba.result.0 _ c.args.command.now.pieces c.fua.result _ (moved_of (flat c.args.host.now c.args.disk.now c.args.kept.now) c.args.command.now.differed)
    c.block_of-lba.ensures.lba c.fua.ensures
    ∙ sym (transfer-unit c.args.number c.args.command.now c.args.host.now c.args.disk.now c.args.kept.now Compare c.requires.opcode refl)

pub returns-else-has_differed-clause-moved : goal.returns-else-has_differed-clause-moved
returns-else-has_differed-clause-moved c =
    ap (moved_of (flat c.args.host.now c.args.disk.now c.compare_block-differs.new.kept))
    (ap (λ (b : Bool). b || c.compare_block-differs.result) (sym c.if-has_differed.false ∙ c.has_differed.ensures))
    ∙ c.compare_block-differs.ensures.moved c.args.number c.args.command.now.pieces c.args.command.now.differed c.block_of-lba.ensures.places
    ∙ same-move Compare c.args.number c.block_of-lba.result.0 _ c.args.command.now.pieces c.fua.result _ (moved_of (flat c.args.host.now c.args.disk.now c.args.kept.now) c.args.command.now.differed)
    c.block_of-lba.ensures.lba c.fua.ensures
    ∙ sym (transfer-unit c.args.number c.args.command.now c.args.host.now c.args.disk.now c.args.kept.now Compare c.requires.opcode refl)
