use Rattle.std.proofs.Common.{◌≡◌}
use Rattle.nv_run.specs.Driving.{look_of}
use Rattle.nv_run.proofs.Drives.{LooksSoFar}
use Rattle.nv_run.proofs.driven.wait_for.Given as goal

-- no poll so far found the value
abbrev pub invariant-loop-poll : goal.invariant-loop-poll
invariant-loop-poll g l =
    (l.port.guest ≡ l.initial.port.guest)
    × LooksSoFar l.initial.port.guest (look_of l.probe) l.value l.initial.port.calls l.port.calls l._poll
