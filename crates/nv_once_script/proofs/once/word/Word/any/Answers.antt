use Rattle.std.proofs.Common.{arith}
use Rattle.nv_once_script.proofs.OnceDigitsLemmas.{digits-end, plain-number, whole-end}
use Rattle.nv_once_script.proofs.OnceWordsLemmas.{ends_word, first_word-none, first_word-some, is_no_space, position_or_len-le}
use Rattle.nv_once_script.proofs.once.word.Word.any.Goals as goal

pub split_at-requires : goal.split_at-requires
split_at-requires c = omega (arith, c.leading_spaces.ensures, position_or_len-le is_no_space c.args.line.now)

pub invariant_of-result : goal.invariant_of-result
invariant_of-result c =
    let digits = c.leading_digits-digits.ensures in
    plain-number c.split_at.result.1.now c.split_at-2.result.0.now _ _ c.if-digits-gt0.true digits.within digits.digits digits.value digits.fits c.split_at-2.ensures.front

pub returns-then-is_at_end : goal.returns-then-is_at_end
returns-then-is_at_end c =
    let line = c.split_at.result.1.now in
    let digits = c.leading_digits-digits.ensures in
    let end = digits-end line c.split_at-2.result.1.now _ digits.within digits.digits c.split_at-2.ensures.back c.if-is_at_end.ensures in
    first_word-some c.args.line.now line _ _ _ _ c.leading_spaces.ensures c.split_at.ensures.back end c.if-digits-gt0.true
    c.split_at-2.ensures.front c.split_at-2.ensures.back

pub overflow_add-end : goal.overflow_add-end
overflow_add-end c =
    let line = c.split_at.result.1.now in
    let digits = c.leading_digits-digits.ensures in
    let end = whole-end line c.split_at-2.result.1.now _ _ digits.within digits.digits c.split_at-2.ensures.back c.word_end.ensures in
    omega (arith, end, position_or_len-le ends_word line, c.split_at.ensures.back_len)

pub returns-then-end-eq0 : goal.returns-then-end-eq0
returns-then-end-eq0 c =
    let line = c.split_at.result.1.now in
    let digits = c.leading_digits-digits.ensures in
    let end = whole-end line c.split_at-2.result.1.now _ _ digits.within digits.digits c.split_at-2.ensures.back c.word_end.ensures in
    first_word-none c.args.line.now line _ _ c.leading_spaces.ensures c.split_at.ensures.back end c.if-end-eq0.true

pub split_at-requires-3 : goal.split_at-requires-3
split_at-requires-3 c =
    let line = c.split_at.result.1.now in
    let digits = c.leading_digits-digits.ensures in
    let end = whole-end line c.split_at-2.result.1.now _ _ digits.within digits.digits c.split_at-2.ensures.back c.word_end.ensures in
    omega (arith, end, position_or_len-le ends_word line)

pub returns : goal.returns
returns c =
    let line = c.split_at.result.1.now in
    let digits = c.leading_digits-digits.ensures in
    let end = whole-end line c.split_at-2.result.1.now _ _ digits.within digits.digits c.split_at-2.ensures.back c.word_end.ensures in
    first_word-some c.args.line.now line _ _ _ _ c.leading_spaces.ensures c.split_at.ensures.back end (omega (arith, c.if-end-eq0.false))
    c.split_at-3.ensures.front c.split_at-3.ensures.back
