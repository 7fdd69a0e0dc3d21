use Rattle.std.proofs.Common.{[], length, ap, sym, ◌∙◌}
use Rattle.nv_model.specs.Memory.{byte_in, scattered}
use Rattle.nv_disk.proofs.MoveLemmas.{read-moved}
use Rattle.nv_disk.proofs.moves.read_block.Goals as goal

pub returns-clause-moved : goal.returns-clause-moved
returns-clause-moved c = λ index pieces differed at.
    let sized = ap length (sym (c.block.ensures.value [])) ∙ c.block.ensures.sized in
    read-moved c.args.memory.now c.put.new.memory c.args.disk.now c.args.kept.now c.raise_mark.new.kept c.args.buffer.now index c.args.lba c.args.fua
    sized (c.put.ensures.memory ∙ ap (scattered (byte_in c.args.memory.now) c.args.buffer.now) (c.block.ensures.value []))
    c.raise_mark.ensures.marks pieces differed at
