use Rattle.std.proofs.Common.{ℕ, Bool, List, set, replicate, ap, ◌∙◌, arith}
use Rattle.nv_disk.specs.Flat.{flat, moved_of}
use Rattle.nv_disk.proofs.MoveLemmas.{cleared-set}
use Rattle.nv_disk.proofs.moves.clear_block.Goals as goal

pub returns-clause-moved : goal.returns-clause-moved
returns-clause-moved c = λ memory differed.
    ap (λ (disk : List (List ℕ)). moved_of (flat memory disk c.set.new.self) differed) c.clear.ensures
    ∙ ap (λ (marks : List Bool). moved_of (flat memory (set c.args.disk.now c.args.lba (replicate 512 0)) marks) differed) c.set.ensures
    ∙ cleared-set memory c.args.disk.now c.args.kept.now c.args.lba c.args.mark differed c.requires.block (omega arith)
