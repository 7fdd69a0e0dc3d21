use Rattle.std.proofs.Common.{◌≡◌, ◌<◌, ◌+◌, length, get_or, drop, sym, ap, ◌∙◌, arith}
use Rattle.std.proofs.lemmas.Bool.Decides.{nat_tests}
use Rattle.std.proofs.lemmas.List.{drop_more, drop_all}
use Rattle.nv_once_script.proofs.OnceNumberLemmas.{spelled_after, spelled-none, spelled_after-all, spelled_after-read_other, spelled_after-read}
use Rattle.nv_once_script.proofs.OnceNumberLemmas.{spelled_after-read_large, large-product, large-sum, sum-is, spelled_after-end}
use Rattle.nv_once_script.proofs.once.number.spelled_number.Goals as goal

pub returns-then-is_empty : goal.returns-then-is_empty
returns-then-is_empty c =
    let none : length c.args.digits.now ≡ 0 = grind (arith, nat_tests) in
    sym (spelled-none c.args.base c.args.digits.now none)

pub loop-digit-init : goal.loop-digit-init
loop-digit-init c =
    let some : 0 < length c.args.digits.now = grind (arith, nat_tests) in
    (omega arith, spelled_after-all c.args.base c.args.digits.now some)

pub returns-in_err-digit : goal.returns-in_err-digit
returns-in_err-digit c =
    let digits = c.args.digits.now in
    let i = c.loop-digit.digit-index in
    c.from_residual.ensures
    ∙ sym (spelled_after-read_other c.args.base c.loop-digit.value c.from.result (get_or digits i 0) (drop (i + 1) digits) c.from.ensures c.in_err-digit.ensures.value)
    ∙ ap (spelled_after c.args.base c.loop-digit.value) (sym (drop_more digits i 0 c.loop-digit-test.true))
    ∙ c.loop-digit.invariant.1

pub returns-in_err-checked_mul : goal.returns-in_err-checked_mul
returns-in_err-checked_mul c =
    let digits = c.args.digits.now in
    let i = c.loop-digit.digit-index in
    let large = large-product c.loop-digit.value c.args.base c.from-in-loop-digit.result c.in_ok-digit.digit c.from-in-loop-digit.ensures c.in_err-checked_mul.ensures in
    c.from_residual-in_err-checked_mul.ensures
    ∙ sym (spelled_after-read_large c.args.base c.loop-digit.value c.from.result (get_or digits i 0) c.in_ok-digit.digit
    (drop (i + 1) digits) (omega arith) c.from.ensures c.in_ok-digit.ensures.value large)
    ∙ ap (spelled_after c.args.base c.loop-digit.value) (sym (drop_more digits i 0 c.loop-digit-test.true))
    ∙ c.loop-digit.invariant.1

pub returns-in_err-value : goal.returns-in_err-value
returns-in_err-value c =
    let digits = c.args.digits.now in
    let i = c.loop-digit.digit-index in
    let large = large-sum c.loop-digit.value c.args.base c.from-in-loop-digit.result c.in_ok-checked_mul.field-0 c.in_ok-digit.digit c.from-in-loop-digit-2.result
    c.from-in-loop-digit.ensures c.in_ok-checked_mul.ensures.1 c.from-in-loop-digit-2.ensures c.in_err-value.ensures in
    c.from_residual-in_err-value.ensures
    ∙ sym (spelled_after-read_large c.args.base c.loop-digit.value c.from.result (get_or digits i 0) c.in_ok-digit.digit
    (drop (i + 1) digits) (omega arith) c.from.ensures c.in_ok-digit.ensures.value large)
    ∙ ap (spelled_after c.args.base c.loop-digit.value) (sym (drop_more digits i 0 c.loop-digit-test.true))
    ∙ c.loop-digit.invariant.1

pub loop-digit-preserved : goal.loop-digit-preserved
loop-digit-preserved c =
    let digits = c.args.digits.now in
    let i = c.loop-digit.digit-index in
    let made = sum-is c.loop-digit.value c.args.base c.from-in-loop-digit.result c.in_ok-checked_mul.field-0 c.in_ok-digit.digit c.from-in-loop-digit-2.result c.in_ok-value.value
    c.from-in-loop-digit.ensures c.in_ok-checked_mul.ensures.1 c.from-in-loop-digit-2.ensures c.in_ok-value.ensures.1 in (
      omega (arith, c.in_ok-value.ensures),
      sym (spelled_after-read c.args.base c.loop-digit.value c.from.result (get_or digits i 0) c.in_ok-digit.digit c.in_ok-value.value
          (drop (i + 1) digits) c.from.ensures c.in_ok-digit.ensures.value made)
          ∙ ap (spelled_after c.args.base c.loop-digit.value) (sym (drop_more digits i 0 c.loop-digit-test.true))
          ∙ c.loop-digit.invariant.1,
    )

pub returns : goal.returns
returns c =
    let digits = c.args.digits.now in
    let i = c.loop-digit.digit-index in
    sym (spelled_after-end c.args.base c.loop-digit.value c.loop-digit.invariant.0)
    ∙ ap (spelled_after c.args.base c.loop-digit.value) (sym (drop_all i digits c.loop-digit-test.false))
    ∙ c.loop-digit.invariant.1
