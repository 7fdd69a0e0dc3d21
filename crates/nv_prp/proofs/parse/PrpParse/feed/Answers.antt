use Rattle.std.proofs.Common.{◌≡◌, ◌<◌, ◌≤◌, true, length, sym, ap, subst, ◌∙◌}
use Rattle.nv_model.specs.Transcript.{fed}
use Rattle.nv_prp.specs.Cursor.{ahead, is_asking, reading_from}
use Rattle.nv_prp.specs.Parse.{Parse, dialogue_of, slots_ahead}
use Rattle.nv_prp.proofs.Parses.{is_asking-by, want_of-asking, want_of-some, want_of-whole}
use Rattle.nv_prp.proofs.parse.PrpParse.feed.Goals as goal

pub read_part-self-inside-requires-clause-whole : goal.read_part-self-inside-requires-clause-whole
read_part-self-inside-requires-clause-whole c =
    want_of-whole c.args.self.now c.requires.0 (length c.args.bytes.now) c.requires.1

pub returns-clause-dialogue : goal.returns-clause-dialogue
unfolding dialogue_of reading_from
returns-clause-dialogue c =
    c.read_part-self-inside.ensures.dialogue ∙ ap (λ (p : Parse). fed (dialogue_of p) c.args.bytes.now) c.self.view_is

pub returns-clause-progress : goal.returns-clause-progress
returns-clause-progress c =
    let wanted = want_of-asking c.args.self.now c.requires.0 (length c.args.bytes.now) c.requires.1 in
    let sound = ap (λ (p : Parse). p.fault) c.self.view_is ∙ wanted.sound in
    let some : 0 < c.self.inside.cursor.pages = subst (λ (p : Parse). 0 < p.pages) (sym c.self.view_is) wanted.some in
    let asking : is_asking c.self.inside.cursor ≡ true = is_asking-by c.self.inside.cursor sound some in
    let slots : 0 < c.self.inside.cursor.slots = c.self.invariant.slot some in
    let bytes : 0 < length c.args.bytes.now =
    want_of-some c.args.self.now c.requires.0 (length c.args.bytes.now) c.requires.1
    (subst (λ (p : Parse). 0 < p.slots) c.self.view_is slots) (subst (λ (p : Parse). p.slots ≤ 512) c.self.view_is c.self.invariant.slots) in
    subst (λ (p : Parse). ahead c.read_part-self-inside.result < slots_ahead p) c.self.view_is (c.read_part-self-inside.ensures.progress asking bytes)
