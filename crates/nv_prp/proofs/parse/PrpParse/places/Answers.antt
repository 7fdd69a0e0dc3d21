use Rattle.std.proofs.Common.{◌++◌, List, sym, ◌∙◌, ap}
use Rattle.nv_mem.specs.declared.piece.Piece.{Piece}
use Rattle.nv_model.specs.Dialogue.{End}
use Rattle.nv_model.specs.Reading.{Spells}
use Rattle.nv_prp.specs.Parse.{Parse}
use Rattle.nv_prp.proofs.Parses.{want_of-done}
use Rattle.nv_prp.proofs.parse.PrpParse.places.Goals as goal

pub returns : goal.returns
returns c =
    want_of-done c.args.self.now c.requires
    ∙ ap (λ (ps : List Piece). End (Spells ps))
    (ap (λ (p : Parse). p.runs) (sym c.self.view_is)
    ∙ sym c.as_slice.ensures
    ∙ ap (λ (ps : List Piece). ps ++ c.as_slice.result.now) (sym c.new-places.ensures)
    ∙ sym c.in_ok-push_all.ensures)
