use Rattle.std.proofs.Common.{◌≡◌, ◌-◌, min, List, ◌++◌, ◌∷◌, [], ◌∙◌, ap, refl, subst, sym, arith}
use Rattle.nv_mem.specs.Places.{piece_len}
use Rattle.nv_mem.specs.declared.piece.Piece.{Piece}
use Rattle.nv_plan.specs.Told.{cut_places}
use Rattle.nv_plan.proofs.CutPlaces.{IsCutting, IsCutting-end, IsCutting-more, IsCutting-past}
use Rattle.nv_plan.proofs.cutting.cut_out.Goals as goal
use Rattle.nv_plan.proofs.cutting.cut_out.Goals.{then-here-gt0+in_ok-push, else-here-gt0}

pub returns-then-left-eq0 : goal.returns-then-left-eq0
returns-then-left-eq0 c =
    IsCutting-end (c.args.places.now ++ cut_places c.args.skip c.args.len c.args.pieces.now) c.loop-piece.places c.loop-piece.ahead c.loop-piece.left c.loop-piece.rest.now
    c.loop-piece.invariant c.if-left-eq0.true

pub loop-piece-preserved : goal.loop-piece-preserved
loop-piece-preserved c =
    let len = c.len_of-size.ensures in
    let over = c.saturating_sub.ensures in
    let few = c.min-here.ensures in
    let here : c.min-here.result ≡ min (piece_len c.in-Some.piece.now - c.loop-piece.ahead) c.loop-piece.left = omega arith in
    let behind = c.saturating_sub-ahead.ensures in
    let past : c.saturating_sub-ahead.result ≡ c.loop-piece.ahead - piece_len c.in-Some.piece.now = omega arith in
    elim c.if-here-gt0.branch [
      | then-here-gt0+in_ok-push w ↦
          IsCutting-more (c.args.places.now ++ cut_places c.args.skip c.args.len c.args.pieces.now) c.loop-piece.places c.loop-piece.ahead c.loop-piece.left c.loop-piece.rest.now
          c.in-Some.piece.now c.in-Some.behind.now c.min-here.result c.if-here-gt0.places c.saturating_sub-ahead.result (c.loop-piece.left - c.min-here.result)
          c.loop-piece.invariant c.in-Some.ensures.cases.0 here w.if-here-gt0.true
          (w.places-is ∙ w.in_ok-push.ensures.ok ∙ ap (λ (p : Piece). c.loop-piece.places ++ p ∷ []) w.cut.ensures) past refl
      | else-here-gt0 w ↦
          (let none = w.if-here-gt0.false in
          subst (λ (ps : List Piece). IsCutting (c.args.places.now ++ cut_places c.args.skip c.args.len c.args.pieces.now) ps c.saturating_sub-ahead.result
          (c.loop-piece.left - c.min-here.result) c.in-Some.behind.now)
          (sym w.places-is)
          (IsCutting-past (c.args.places.now ++ cut_places c.args.skip c.args.len c.args.pieces.now) c.loop-piece.places c.loop-piece.ahead c.loop-piece.left c.loop-piece.rest.now
          c.in-Some.piece.now c.in-Some.behind.now c.min-here.result c.saturating_sub-ahead.result (c.loop-piece.left - c.min-here.result)
          c.loop-piece.invariant c.in-Some.ensures.cases.0 here (omega arith) past refl))
    ]
