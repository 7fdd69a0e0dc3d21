use Rattle.std.proofs.Common.{ℕ, List, Bool, false, nat_le, length, ap, ◌∙◌, arith, ◌<◌}
use Rattle.std.specs.List.{slice_index_or}
use Rattle.std.proofs.lemmas.Grind.{get_or_default_zero}
use Rattle.nv_disk.proofs.MarkLemmas.{length-marks, mark-told}
use Rattle.nv_disk.proofs.marks.Marks.get.Goals as goal

pub index-requires : goal.index-requires
index-requires c =
    let same = length-marks c.self.inside.flushes c.self.inside.since.items in
    let seen = ap (λ (ms : List Bool). length ms) c.self.view_is in
    omega arith

pub returns : goal.returns
returns c =
    let same = length-marks c.self.inside.flushes c.self.inside.since.items in
    let seen = ap (λ (ms : List Bool). length ms) c.self.view_is in
    let below : c.args.block < length c.self.inside.since.items = omega arith in
    ap (λ (n : ℕ). nat_le n c.self.inside.flushes) (c.index.ensures ∙ get_or_default_zero c.self.inside.since.items c.args.block c.index.result.now below)
    ∙ mark-told c.self.inside.flushes c.self.inside.since.items c.args.block below
    ∙ ap (λ (ms : List Bool). slice_index_or ms c.args.block false) c.self.view_is
