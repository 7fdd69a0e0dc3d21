use Rattle.std.proofs.Common.{arith}
use Rattle.nv_once_script.proofs.OnceDigitsLemmas.{digits-more, value-more}
use Rattle.nv_once_script.proofs.once.word.leading_digits.Goals as goal

pub loop-byte-preserved : goal.loop-byte-preserved
loop-byte-preserved c =
    let at = c.loop-byte.invariant in
    let seen = c.if-not-is_ascii_digit.ensures in (
      omega (arith, at.0),
      omega (arith, c.loop-byte-test.true),
      digits-more c.args.text.now c.loop-byte.byte-index c.loop-byte-test.true at.2 (omega (arith, seen.cases)) (omega (arith, seen.cases)),
      value-more c.args.text.now c.loop-byte.byte-index c.loop-byte.value c.from.result c.loop-byte-test.true at.3 (omega (arith, seen.cases)) (omega (arith, seen.cases)) c.from.ensures,
    )
