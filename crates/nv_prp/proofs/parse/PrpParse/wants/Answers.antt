use Rattle.std.proofs.Common.{◌≡◌, ◌*◌, ◌<◌, subst, sym, ap, ◌∙◌, arith}
use Rattle.nv_model.specs.Want.{want_of}
use Rattle.nv_model.specs.declared.want.Want.TheVariants as want
use Rattle.nv_prp.specs.Parse.{Parse, dialogue_of}
use Rattle.nv_prp.proofs.Parses.{dialogue_of-end, want_of-fault, want_of-part}
use Rattle.nv_prp.proofs.parse.PrpParse.wants.Goals as goal

pub returns-in-Some-clause-value : goal.returns-in-Some-clause-value
returns-in-Some-clause-value c =
    let P : Parse → Type 0 = λ p. want.Fault c.refused.result ≡ want_of (dialogue_of p) in
    subst P c.self.view_is (ap want.Fault c.refused.ensures ∙ sym (want_of-fault _ c.in-Some.code c.in-Some.is))

pub returns-in-None-clause-value : goal.returns-in-None-clause-value
returns-in-None-clause-value c =
    let P : Parse → Type 0 = λ p. want.Done ≡ want_of (dialogue_of p) in
    subst P c.self.view_is (sym (ap want_of (dialogue_of-end _ c.in-None.is c.if-pages-eq0.true)))

pub returns-in-None-2-clause-value : goal.returns-in-None-2-clause-value
returns-in-None-2-clause-value c =
    let P : Parse → Type 0 = λ p. want.Read c.self.inside.cursor.from (8 * c.min.result) ≡ want_of (dialogue_of p) in
    let some : 0 < c.self.inside.cursor.slots = c.self.invariant.slot (omega arith) in
    subst
    P c.self.view_is
    (ap (λ n. want.Read c.self.inside.cursor.from (8 * n)) c.min.ensures
    ∙ sym (want_of-part _ c.in-None-2.is c.if-pages-eq0.false some c.self.invariant.slots))
