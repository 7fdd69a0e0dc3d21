use Rattle.std.proofs.Common.{ℕ, List, [], take, length, refl, sym, ap, ◌∙◌}
use Rattle.nv_model.specs.Memory.{byte_in, gathered}
use Rattle.nv_model.specs.Private.{differs}
use Rattle.nv_disk.proofs.MoveLemmas.{compare-moved}
use Rattle.nv_disk.proofs.moves.compare_block.Goals as goal

pub returns-clause-moved : goal.returns-clause-moved
returns-clause-moved c = λ index pieces differed at.
    let sized = ap length (sym (c.block.ensures.value [])) ∙ c.block.ensures.sized in
    compare-moved c.args.memory.now c.args.disk.now c.args.kept.now c.raise_mark.new.kept c.args.buffer.now index c.args.lba
    (gathered (byte_in c.args.memory.now) (take 512 c.args.buffer.now)) c.args.fua c.differs-differs.result
    sized refl
    (sym (c.differs-differs.ensures.value
    ∙ ap (λ (n : ℕ). differs (gathered (byte_in c.args.memory.now) (take n c.args.buffer.now)) c.block.result.now) c.block.ensures.sized
    ∙ ap (λ (b : List ℕ). differs (gathered (byte_in c.args.memory.now) (take 512 c.args.buffer.now)) b) (c.block.ensures.value [])))
    c.raise_mark.ensures.marks pieces differed at
