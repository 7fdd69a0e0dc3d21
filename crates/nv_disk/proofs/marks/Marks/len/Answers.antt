use Rattle.std.specs.Vec.{vec_len}
use Rattle.std.proofs.Common.{rules, ◌≡◌, length, ap, sym, ◌∙◌, List, Bool}
use Rattle.nv_disk.proofs.MarkLemmas.{length-marks}
use Rattle.nv_disk.proofs.marks.Marks.len.Goals as goal

pub returns : goal.returns
returns c =
    let size : vec_len c.self.inside.since ≡ length c.self.inside.since.items = search rules in
    c.len.ensures ∙ size ∙ sym (length-marks c.self.inside.flushes c.self.inside.since.items) ∙ ap (λ (ms : List Bool). length ms) c.self.view_is
