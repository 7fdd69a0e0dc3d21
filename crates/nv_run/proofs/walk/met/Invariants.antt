use Rattle.std.proofs.Common.{◌≡◌, length}
use Rattle.nv_run.specs.Driving.{look_of}
use Rattle.nv_run.proofs.Drives.{IsUnmetBefore}
use Rattle.nv_run.proofs.walk.met.Given as goal

-- no call before those that are left found the value
abbrev pub invariant-loop-call : goal.invariant-loop-call
invariant-loop-call l = (l.look ≡ look_of l.fn.probe) × IsUnmetBefore l.guest (look_of l.fn.probe) l.value l.calls l.left

abbrev pub decreases-loop-call : goal.decreases-loop-call
decreases-loop-call l = length l.left
