use Rattle.std.proofs.Common.{length}
use Rattle.nv_print.proofs.numeral.+increase_digits.Given as goal

abbrev pub decreases-increase_digits : goal.decreases-increase_digits
decreases-increase_digits l = length l.digits.now
