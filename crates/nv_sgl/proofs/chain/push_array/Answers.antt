use Rattle.std.proofs.Common.{◌++◌, List, sym, ◌∙◌, ap, append-nil}
use Rattle.nv_mem.specs.declared.piece.Piece.{Piece}
use Rattle.nv_sgl.specs.Chain.{pieces_of}
use Rattle.nv_sgl.proofs.Chains.{pieces_of-next}
use Rattle.nv_sgl.proofs.chain.push_array.Goals as goal
use Rattle.nv_sgl.proofs.chain.push_array.Goals.{in-Some+in_ok-push, in_default}

pub loop-d-init : goal.loop-d-init
unfolding pieces_of
loop-d-init c = sym (append-nil c.args.places.now)

pub loop-d-preserved : goal.loop-d-preserved
loop-d-preserved c =
    pieces_of-next
    c.args.dest c.args.blocks.now c.loop-d.d-index c.d-item.result c.args.places.now c.loop-d.places c.match-piece_of.places c.loop-d-test.true
    c.d-item.is c.loop-d.invariant
    (elim c.match-piece_of.branch [
      | in-Some+in_ok-push w ↦
          w.places-is ∙ w.in_ok-push.ensures.ok ∙ ap (λ (ps : List Piece). c.loop-d.places ++ ps) w.in-Some.ensures
      | in_default w ↦
          w.places-is
          ∙ sym (append-nil c.loop-d.places)
          ∙ ap (λ (ps : List Piece). c.loop-d.places ++ ps) w.in_default.ensures
    ])
