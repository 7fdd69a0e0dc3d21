use Rattle.std.proofs.Common.{◌≡◌, [], take}
use Rattle.nv_run.specs.Driving.{AreGone}
use Rattle.nv_run.proofs.driven.drive.Given as goal

-- the port was told just what the lines so far say
abbrev pub invariant-loop-line : goal.invariant-loop-line
invariant-loop-line g l =
    (l.initial.port.calls ≡ [] → AreGone l.initial.port.guest (take l.line-index l.lines) l.port.calls)
    × (l.port.guest ≡ l.initial.port.guest)
