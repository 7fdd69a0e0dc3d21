use Rattle.std.proofs.Common.{drop}
use Rattle.nv_run.specs.Driving.{AreGone}
use Rattle.nv_run.proofs.walk.astray.Given as goal

-- if the calls that are left are what the lines that are left say, all are
abbrev pub invariant-loop-line : goal.invariant-loop-line
invariant-loop-line l = AreGone l.guest (drop l.line-index l.lines) l.left → AreGone l.guest l.lines l.calls
