use Rattle.std.proofs.Common.{◌≡◌, ℕ, ◌+◌, ◌*◌, ◌^◌, ◌≤◌, All, List, [], ◌∷◌, ◌++◌, length, slice_get, Some, refl, ap, ◌∙◌, arith}
use Rattle.std.proofs.lemmas.Option.{slice_get_read}
use Rattle.nv_mem.specs.declared.piece.Piece.{Piece}
use Rattle.nv_ns.specs.Extents.{Cut}
use Rattle.nv_plan.specs.Told.{cut_places}
use Rattle.nv_plan.proofs.CutPlaces.{AreCut-more, AreCut-short}
use Rattle.nv_plan.proofs.MadeShares.{All-at}
use Rattle.nv_plan.proofs.cutting.cut_up.Goals as goal

part-small : (parts : List Cut) (k : ℕ) (part : Cut) → All (λ (cut : Cut). cut.first + cut.count ≤ 2 ^ 16) parts → slice_get parts k ≡ Some part
    → part.count ≤ 65536
part-small parts k part small there =
    let both = All-at (λ (cut : Cut). cut.first + cut.count ≤ 2 ^ 16) parts k part small there in omega arith

grown-by : (places pieces next : List Piece) (part : Cut) (first count : ℕ) → next ≡ places ++ cut_places (512 * first) (512 * count) pieces
    → first ≡ part.first → count ≡ part.count → next ≡ places ++ cut_places (512 * part.first) (512 * part.count) pieces
grown-by places pieces next part first count is begins many =
    is ∙ ap (λ (n : ℕ). places ++ cut_places (512 * n) (512 * count) pieces) begins
    ∙ ap (λ (n : ℕ). places ++ cut_places (512 * part.first) (512 * n) pieces) many

pub overflow_cast-pieces : goal.overflow_cast-pieces
overflow_cast-pieces c =
    let there = slice_get_read c.args.parts.now (length c.args.parts.now) c.loop-part.part-index c.part-item.result refl c.loop-part-test.true c.part-item.is in
    let short = AreCut-short c.args.pieces.now c.args.parts.now c.loop-part.part-index c.loop-part.places c.loop-part.ends c.part-item.result
    c.cut_out.new.places c.loop-part.invariant (part-small c.args.parts.now c.loop-part.part-index c.part-item.result c.requires.small there)
    (grown-by c.loop-part.places c.args.pieces.now c.cut_out.new.places c.part-item.result c.first.result c.count.result c.in_ok-cut_out.ensures
    c.first.ensures c.count.ensures.value) in
    let same = ap (λ (ps : List Piece). length ps) c.pieces.ensures in
    let few = c.requires.few in
    let below = c.loop-part-test.true in omega arith

pub loop-part-preserved : goal.loop-part-preserved
loop-part-preserved c =
    let there = slice_get_read c.args.parts.now (length c.args.parts.now) c.loop-part.part-index c.part-item.result refl c.loop-part-test.true c.part-item.is in
    AreCut-more c.args.pieces.now c.args.parts.now c.loop-part.part-index c.loop-part.places c.loop-part.ends c.part-item.result
    c.cut_out.new.places c.push.new.self c.loop-part.invariant
    (part-small c.args.parts.now c.loop-part.part-index c.part-item.result c.requires.small there) there
    (grown-by c.loop-part.places c.args.pieces.now c.cut_out.new.places c.part-item.result c.first.result c.count.result c.in_ok-cut_out.ensures
    c.first.ensures c.count.ensures.value)
    (c.push.ensures ∙ ap (λ (ps : List Piece). c.loop-part.ends ++ length ps ∷ []) c.pieces.ensures)
