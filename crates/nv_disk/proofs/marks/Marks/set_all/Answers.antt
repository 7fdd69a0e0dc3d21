use Rattle.std.proofs.Common.{ℕ, List, Bool, true, length, replicate, refl, sym, ap, ◌∙◌}
use Rattle.nv_disk.specs.Since.{marks_of}
use Rattle.nv_disk.proofs.MarkLemmas.{length-marks, marks-flushed, marks-alike}
use Rattle.nv_disk.proofs.marks.Marks.set_all.Goals as goal

pub returns-then-self-lt4294967295 : goal.returns-then-self-lt4294967295
returns-then-self-lt4294967295 c =
    marks-flushed c.self.inside.flushes c.self.inside.since.items c.self.invariant.soon
    ∙ ap (λ (n : ℕ). replicate n true) (sym (length-marks c.self.inside.flushes c.self.inside.since.items) ∙ ap (λ (ms : List Bool). length ms) c.self.view_is)

pub returns-else-self-lt4294967295 : goal.returns-else-self-lt4294967295
returns-else-self-lt4294967295 c =
    ap (λ (since : List ℕ). marks_of 0 since) c.anew.ensures
    ∙ marks-alike 0 0 (length c.self.inside.since.items) true refl
    ∙ ap (λ (n : ℕ). replicate n true) (sym (length-marks c.self.inside.flushes c.self.inside.since.items) ∙ ap (λ (ms : List Bool). length ms) c.self.view_is)
