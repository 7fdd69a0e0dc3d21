use Rattle.std.proofs.Common.{◌*◌, length, refl, arith, ap}
use Rattle.std.proofs.lemmas.List.{length-drop}
use Rattle.nv_entry.specs.Opcode.{io_opcode}
use Rattle.nv_entry.specs.Submission.{opcode_of}
use Rattle.nv_mem.specs.Places.{places_of}
use Rattle.nv_device.proofs.UnitLemmas.{transfer-there}
use Rattle.nv_device.proofs.moving.block_of.Goals as goal

pub overflow_mul-number : goal.overflow_mul-number
overflow_mul-number c =
    let there = transfer-there (length c.args.disk.now) c.args.host.now c.args.number c.args.command.now (io_opcode (opcode_of c.args.command.now.entry)) refl c.requires.transfer c.requires.ready in
    omega arith

pub overflow_add-result : goal.overflow_add-result
overflow_add-result c =
    let there = transfer-there (length c.args.disk.now) c.args.host.now c.args.number c.args.command.now (io_opcode (opcode_of c.args.command.now.entry)) refl c.requires.transfer c.requires.ready in
    let slba = c.slba.ensures in
    omega arith

pub returns-clause-there : goal.returns-clause-there
returns-clause-there c =
    let there = transfer-there (length c.args.disk.now) c.args.host.now c.args.number c.args.command.now (io_opcode (opcode_of c.args.command.now.entry)) refl c.requires.transfer c.requires.ready in
    let slba = c.slba.ensures in
    omega arith

pub returns-clause-enough : goal.returns-clause-enough
returns-clause-enough c =
    let there = transfer-there (length c.args.disk.now) c.args.host.now c.args.number c.args.command.now (io_opcode (opcode_of c.args.command.now.entry)) refl c.requires.transfer c.requires.ready in
    let len = ap length c.buffer_behind-buffer.ensures in
    let left = length-drop (512 * c.args.number) (places_of c.args.command.now.pieces) in
    omega arith
