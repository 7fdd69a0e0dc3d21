use Rattle.std.proofs.Common.{◌++◌, List, sym, ◌∙◌, ap}
use Rattle.nv_mem.specs.declared.piece.Piece.{Piece}
use Rattle.nv_model.specs.Dialogue.{End}
use Rattle.nv_model.specs.Reading.{Spells}
use Rattle.nv_sgl.specs.Chain.{pieces_in}
use Rattle.nv_sgl.specs.Parse.{Parse}
use Rattle.nv_sgl.proofs.Parses.{want_of-spells}
use Rattle.nv_sgl.proofs.parse.SglParse.places.Goals as goal

pub returns : goal.returns
returns g c =
    want_of-spells c.args.self.now c.requires
    ∙ ap (λ (ps : List Piece). End (Spells ps))
    (ap (λ (p : Parse). pieces_in p.dest p.chain) (sym c.self.view_is)
    ∙ ap (λ (ps : List Piece). ps ++ pieces_in c.self.inside.kept.dest c.self.inside.kept.chain) (sym (c.reserve.ensures ∙ c.new-places.ensures))
    ∙ sym c.in_ok-push_pieces.ensures)
