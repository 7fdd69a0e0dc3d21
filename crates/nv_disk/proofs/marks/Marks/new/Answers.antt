use Rattle.std.proofs.Common.{ℕ, List, false, refl, ap, ◌∙◌}
use Rattle.nv_disk.specs.Since.{marks_of}
use Rattle.nv_disk.proofs.MarkLemmas.{marks-alike}
use Rattle.nv_disk.proofs.marks.Marks.new.Goals as goal

pub returns : goal.returns
returns c =
    ap (λ (since : List ℕ). marks_of 0 since) c.in_ok-next_flush.ensures
    ∙ marks-alike 0 1 c.args.count false refl
