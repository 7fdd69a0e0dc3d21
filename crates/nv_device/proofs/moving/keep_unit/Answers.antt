use Rattle.std.proofs.Common.{false, ap, ◌∙◌}
use Rattle.nv_entry.specs.declared.opcode.IoOpcode.TheVariants.{Flush}
use Rattle.nv_model.specs.Carried.{block_work}
use Rattle.nv_disk.specs.Flat.{flat, moved_of}
use Rattle.nv_device.proofs.UnitLemmas.{keep-unit}
use Rattle.nv_device.proofs.moving.keep_unit.Goals as goal

pub returns-clause-moved : goal.returns-clause-moved
returns-clause-moved c = λ number host disk sized.
    ap (moved_of (flat host disk c.keep_all.new.kept)) c.has_differed.ensures
    ∙ c.keep_all.ensures.moved (block_work Flush c.args.command.now.pieces false) host disk c.args.command.now.differed sized
    ∙ keep-unit number c.args.command.now host disk c.args.kept.now c.requires.opcode
