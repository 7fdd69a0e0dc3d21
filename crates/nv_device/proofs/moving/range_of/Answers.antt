use Rattle.std.proofs.Common.{◌*◌, length, arith, ap}
use Rattle.std.proofs.lemmas.List.{length-drop}
use Rattle.nv_mem.specs.Places.{places_of}
use Rattle.nv_device.proofs.moving.range_of.Goals as goal

pub fetch-requires-clause-enough : goal.fetch-requires-clause-enough
fetch-requires-clause-enough c =
    let there = c.requires.enough in
    let len = ap length c.buffer_behind-buffer.ensures in
    let left = length-drop (16 * c.args.number) (places_of c.args.command.now.pieces) in
    omega arith
