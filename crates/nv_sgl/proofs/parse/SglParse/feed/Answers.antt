use Rattle.std.proofs.Common.{length, ◌∙◌, ap, sym}
use Rattle.nv_sgl.specs.Chain.{grown}
use Rattle.nv_model.specs.Transcript.{fed, units_fed}
use Rattle.nv_sgl.specs.Parse.{Parse, dialogue_of}
use Rattle.nv_sgl.proofs.Parses.{dialogue_of-fed, dialogue_of-naming, grown-fed, naming_of, want_of-whole}
use Rattle.nv_model.specs.Want.{want_of}
use Rattle.nv_sgl.proofs.parse.SglParse.feed.Goals as goal

pub read-requires-clause-whole : goal.read-requires-clause-whole
read-requires-clause-whole g c =
    want_of-whole (naming_of c.args.self.now) c.requires.0 (length c.args.bytes.now) (ap want_of (sym (dialogue_of-naming c.args.self.now)) ∙ c.requires.1)

pub returns-clause-dialogue : goal.returns-clause-dialogue
returns-clause-dialogue g c =
    dialogue_of-fed _ _ _ c.self.inside.kept.cursor _ c.args.bytes.now c.self.inside.kept.chain _ c.in_ok-cursor.ensures.ok
    ∙ ap (λ (p : Parse). fed (dialogue_of p) c.args.bytes.now) c.self.view_is

pub returns-clause-chain : goal.returns-clause-chain
returns-clause-chain g c =
    grown-fed _ _ c.self.inside.kept.need c.self.inside.kept.cursor _ c.args.bytes.now c.self.inside.kept.chain _ c.in_ok-cursor.ensures.ok
    ∙ ap (λ (p : Parse). grown p.chain (units_fed (dialogue_of p) c.args.bytes.now)) c.self.view_is
