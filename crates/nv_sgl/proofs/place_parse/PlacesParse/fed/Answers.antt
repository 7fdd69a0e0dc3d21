use Rattle.std.proofs.Common.{length, ◌∙◌, ap}
use Rattle.nv_model.specs.Transcript.{fed}
use Rattle.nv_sgl.specs.Parse.{Naming, reading_of}
use Rattle.nv_sgl.proofs.Parses.{reading_of-fed, want_of-whole}
use Rattle.nv_sgl.proofs.place_parse.PlacesParse.fed.Goals as goal

pub read_places-requires-clause-whole : goal.read_places-requires-clause-whole
read_places-requires-clause-whole c = want_of-whole c.args.self c.requires.0 (length c.args.bytes.now) c.requires.1

pub returns : goal.returns
returns c =
    reading_of-fed _ _ _ c.self.inside.cursor _ c.args.bytes.now c.self.inside.places _ c.in_ok-cursor.ensures
    ∙ ap (λ (n : Naming). fed (reading_of n) c.args.bytes.now) c.self.view_is
