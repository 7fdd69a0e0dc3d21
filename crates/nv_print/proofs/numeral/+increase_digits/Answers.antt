use Rattle.std.proofs.Common.{◌∙◌, length, sym, ap, arith}
use Rattle.std.proofs.lemmas.Fmt.{decimal_nonempty}
use Rattle.nv_print.proofs.Decimals.{next-front, next-last}
use Rattle.nv_print.proofs.numeral.+increase_digits.Goals as goal

pub returns-in_default-clause-next : goal.returns-in_default-clause-next
returns-in_default-clause-next t c =
    λ n small is.
    absurd (omega (arith, decimal_nonempty n (omega arith), ap length is, c.in_default.ensures.cases))

pub returns-then-last-lt57-clause-next : goal.returns-then-last-lt57-clause-next
returns-then-last-lt57-clause-next t c =
    λ n small is. next-last n c.in-Some.front.now c.in-Some.last.now small (sym c.in-Some.ensures.cases.0 ∙ is) (omega arith)

pub returns-clause-next : goal.returns-clause-next
returns-clause-next t c =
    λ n small is.
    next-front n c.in-Some.front.now c.increase_digits.new.digits c.in-Some.last.now c.increase_digits.result small
    (sym c.in-Some.ensures.cases.0 ∙ is) (omega arith) c.increase_digits.ensures.next c.increase_digits.ensures.first
