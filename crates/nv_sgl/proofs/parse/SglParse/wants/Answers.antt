use Rattle.std.proofs.Common.{◌≡◌, subst, sym, ◌∙◌, ap}
use Rattle.nv_sgl.specs.Parse.{Parse, dialogue_of}
use Rattle.nv_model.specs.Want.{want_of}
use Rattle.nv_sgl.proofs.Parses.{dialogue_of-naming}
use Rattle.nv_sgl.proofs.parse.SglParse.wants.Goals as goal

pub returns : goal.returns
returns g c =
    let P : Parse → Type 0 = λ p. c.wants.result ≡ want_of (dialogue_of p) in
    subst P c.self.view_is (c.wants.ensures _ _ _ c.self.invariant.total ∙ ap want_of (sym (dialogue_of-naming _)))
