use Rattle.std.proofs.Common.{◌≡◌, ◌<◌, ◌^◌, drop}
use Rattle.nv_once_script.specs.OnceNumber.{spelled}
use Rattle.nv_once_script.proofs.OnceNumberLemmas.{spelled_after}
use Rattle.nv_once_script.proofs.once.number.spelled_number.Given as goal

-- what was read and what is left spell the number
abbrev pub invariant-loop-digit : goal.invariant-loop-digit
invariant-loop-digit l =
    (l.value < 2 ^ 64) × (spelled_after l.base l.value (drop l.digit-index l.digits) ≡ spelled l.base l.digits)
