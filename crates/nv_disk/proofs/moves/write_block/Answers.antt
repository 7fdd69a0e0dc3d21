use Rattle.std.proofs.Common.{ℕ, Bool, List, set, ap, ◌∙◌, refl, arith}
use Rattle.nv_model.specs.Memory.{byte_in, gathered}
use Rattle.nv_disk.specs.Flat.{flat, moved_of}
use Rattle.std.proofs.Common.{take}
use Rattle.nv_disk.proofs.MoveLemmas.{write-moved}
use Rattle.nv_disk.proofs.moves.write_block.Goals as goal

pub returns-clause-moved : goal.returns-clause-moved
returns-clause-moved c = λ index pieces differed at.
    ap (λ (disk : List (List ℕ)). moved_of (flat c.args.memory.now disk c.set.new.self) differed) c.fetch.ensures.bytes
    ∙ ap (λ (marks : List Bool). moved_of (flat c.args.memory.now (set c.args.disk.now c.args.lba (gathered (byte_in c.args.memory.now) (take 512 c.args.buffer.now))) marks) differed) c.set.ensures
    ∙ write-moved c.args.memory.now c.args.disk.now c.args.kept.now c.args.buffer.now index c.args.lba (gathered (byte_in c.args.memory.now) (take 512 c.args.buffer.now)) c.args.fua
    c.requires.block (omega arith) refl pieces differed at
