use Rattle.std.proofs.Common.{◌≡◌, ◌∙◌, ◌+◌, ◌-◌, length, ap, arith}
use Rattle.std.proofs.lemmas.Fmt.{length-decimal-le}
use Rattle.nv_print.proofs.Decimals.{drop-one, drop-part, part-drop}
use Rattle.nv_print.proofs.numeral.Numeral.increase.Goals as goal
use Rattle.nv_print.proofs.numeral.Numeral.increase.Goals.{then-increase_digits, else-increase_digits}

pub overflow_sub-self : goal.overflow_sub-self
overflow_sub-self c =
    let before = part-drop c.self.inside.start (20 - c.self.inside.start) c.self.inside.digits (omega arith) ∙ c.self.invariant.1 in
    let next = c.if-increase_digits.ensures.next c.self.inside.number (omega arith) before in
    omega (arith, ap length next, length-decimal-le 20 (c.self.inside.number + 1))

pub invariant_of-self : goal.invariant_of-self
invariant_of-self c =
    let start = c.self.inside.start in
    let left = 20 - c.self.inside.start in
    let place = c.self.inside.digits in
    let digits = c.increase_digits.new.digits in
    let before = part-drop start left place (omega arith) ∙ c.self.invariant.1 in
    let whole : start + left ≡ length place = omega arith in
    elim c.if-increase_digits.branch [
      | then-increase_digits w ↦
          let next = w.if-increase_digits.ensures.next c.self.inside.number (omega arith) before in
          rw w.self-inside-is (omega arith, drop-one start left place digits (omega (arith, ap length next, length-decimal-le 20 (c.self.inside.number + 1))) whole (omega arith) ∙ next)
      | else-increase_digits w ↦
          let next = w.if-increase_digits.ensures.next c.self.inside.number (omega arith) before in
          rw w.self-inside-is (omega arith, drop-part start left place digits whole (omega arith) ∙ next)
    ]
