use Rattle.std.proofs.Common.{sym, ◌∙◌, ap}
use Rattle.nv_model.specs.Dialogue.{End}
use Rattle.nv_model.specs.Reading.{Spells}
use Rattle.nv_sgl.specs.Parse.{Naming}
use Rattle.nv_sgl.proofs.Parses.{want_of-done}
use Rattle.nv_sgl.proofs.place_parse.PlacesParse.into_places.Goals as goal

pub returns : goal.returns
returns c =
    want_of-done c.args.self c.requires ∙ ap (λ (n : Naming). End (Spells n.pieces)) (sym c.self.view_is)
