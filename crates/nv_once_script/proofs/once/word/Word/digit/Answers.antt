use Rattle.std.proofs.Common.{Ok, arith, ap, get_or, refl, sym, ◌∙◌}
use Rattle.nv_once_script.proofs.OneDigitLemmas.{digit-number, digit-word, first-taken}
use Rattle.nv_once_script.proofs.once.word.Word.digit.Goals as goal

pub invariant_of-result : goal.invariant_of-result
invariant_of-result c =
    digit-number c.args.line.now c.split_at.result.1.now c.split_at-2.result.0.now c.split_at-2.result.1.now _
    (omega (arith, c.split_at.ensures.back_len)) c.split_at-2.ensures.front refl c.if-digit-lt48.false c.if-digit-gt57.false
    ∙ ap Ok (sym c.from.ensures)

pub returns : goal.returns
returns c =
    let space = sym (first-taken c.args.line.now (omega arith)) ∙ ap (λ t. get_or t 0 0) (sym c.split_at.ensures.front) ∙ c.if-space-ne32.false in
    digit-word c.args.line.now c.split_at.result.1.now c.split_at-2.result.0.now c.split_at-2.result.1.now _
    (omega (arith, c.split_at.ensures.back_len)) c.split_at-2.ensures.front refl c.if-digit-lt48.false c.if-digit-gt57.false
    c.if-line-lt2.false space c.split_at.ensures.back c.split_at-2.ensures.back c.if-not-is_at_end.ensures
