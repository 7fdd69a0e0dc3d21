use Rattle.std.proofs.Common.{◌≡◌, length}
use Rattle.nv_run.specs.Shown.{behind_shown}
use Rattle.nv_run.proofs.walk.behind_shown.Given as goal

-- no call before those that are left shows the value
abbrev pub invariant-loop-call : goal.invariant-loop-call
invariant-loop-call l = behind_shown l.value l.calls ≡ behind_shown l.value l.left

abbrev pub decreases-loop-call : goal.decreases-loop-call
decreases-loop-call l = length l.left
