use Rattle.std.proofs.Common.{◌+◌, ℕ, length, arith, ap, ◌∙◌}
use Rattle.nv_entry.specs.Submission.{slba_of}
use Rattle.nv_disk.specs.Flat.{flat, moved_of}
use Rattle.nv_device.proofs.UnitLemmas.{clear-there, clear-unit, same-clear}
use Rattle.nv_device.proofs.moving.clear_unit.Goals as goal

pub overflow_add-slba : goal.overflow_add-slba
overflow_add-slba c =
    let there = clear-there (length c.args.disk.now) c.requires.ready.0 c.args.number c.args.command.now c.requires.opcode c.requires.ready.1 in
    let slba = c.slba.ensures in
    omega arith

pub clear_block-requires-clause-block : goal.clear_block-requires-clause-block
clear_block-requires-clause-block c =
    let there = clear-there (length c.args.disk.now) c.requires.ready.0 c.args.number c.args.command.now c.requires.opcode c.requires.ready.1 in
    let slba = c.slba.ensures in
    omega arith

pub returns-clause-moved : goal.returns-clause-moved
returns-clause-moved c = λ host.
    ap (moved_of (flat host c.clear_block.new.disk c.clear_block.new.kept)) c.has_differed.ensures
    ∙ c.clear_block.ensures.moved host c.args.command.now.differed
    ∙ same-clear _ (slba_of c.args.command.now.entry + c.args.number) c.fua.result _ (moved_of (flat host c.args.disk.now c.args.kept.now) c.args.command.now.differed)
    (ap (λ (n : ℕ). n + c.args.number) c.slba.ensures) c.fua.ensures
    ∙ clear-unit c.args.number c.args.command.now host c.args.disk.now c.args.kept.now c.requires.opcode
