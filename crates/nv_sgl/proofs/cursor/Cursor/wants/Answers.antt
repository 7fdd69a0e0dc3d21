use Rattle.std.proofs.Common.{◌≡◌, ◌*◌, sym, ◌∙◌, ap, arith}
use Rattle.nv_model.specs.Transcript.{part}
use Rattle.nv_model.specs.Want.{want_of}
use Rattle.nv_model.specs.declared.want.Want.TheVariants as want
use Rattle.nv_sgl.proofs.Parses.{reading_of-done, reading_of-sized, want_of-fault, want_of-part, want_of-too_long}
use Rattle.nv_sgl.proofs.cursor.Cursor.wants.Goals as goal

pub returns-in-Some : goal.returns-in-Some
returns-in-Some c = λ regions dest pieces same. ap want.Fault c.refused.ensures ∙ sym (want_of-fault _ c.in-Some.code c.in-Some.is)

pub returns-then-total-need : goal.returns-then-total-need
returns-then-total-need c = λ regions dest pieces same.
    sym (ap want_of (reading_of-done _ c.in-None.is c.if-left-eq0.true (sym same ∙ c.if-total-need.true)))

pub returns-else-total-need : goal.returns-else-total-need
returns-else-total-need c = λ regions dest pieces same.
    ap want.Fault c.refused-else-total-need.ensures
    ∙ sym (ap want_of (reading_of-sized _ c.in-None.is c.if-left-eq0.true (λ total. c.if-total-need.false (same ∙ total))))

pub returns-in-None-2 : goal.returns-in-None-2
returns-in-None-2 c = λ regions dest pieces same.
    sym (want_of-too_long _ c.in-None-2.is c.if-left-eq0.false c.if-budget-eq0.true)

pub returns-in-None-3 : goal.returns-in-None-3
returns-in-None-3 c = λ regions dest pieces same.
    let len : 16 * c.min.result ≡ part (16 * c.args.self.now.left) = let least = c.min.ensures in omega arith in
    ap (want.Read c.args.self.now.from) len ∙ sym (want_of-part _ c.in-None-3.is c.if-left-eq0.false c.if-budget-eq0.false)
