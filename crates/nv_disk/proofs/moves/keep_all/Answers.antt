use Rattle.std.proofs.Common.{ℕ, Bool, true, List, length, replicate, ap, ◌∙◌}
use Rattle.nv_disk.specs.Flat.{flat, moved_of}
use Rattle.nv_disk.proofs.UnitLemmas.{keep-all}
use Rattle.nv_disk.proofs.moves.keep_all.Goals as goal

pub returns-clause-moved : goal.returns-clause-moved
returns-clause-moved c = λ work memory disk differed sized.
    ap (λ (marks : List Bool). moved_of (flat memory disk marks) differed) (c.set_all.ensures ∙ ap (λ (n : ℕ). replicate n true) sized)
    ∙ keep-all work memory disk c.args.kept.now (length disk) differed sized
