use Rattle.std.proofs.Common.{ℕ, ◌<◌}
use Rattle.nv_run.specs.Driving.{AreGone}
use Rattle.nv_run.specs.Parts.{part_of}
use Rattle.nv_threads.specs.Finished.{told_to}
use Rattle.nv_run.proofs.walk.check_parts.Given as goal

-- each guest so far was told just what its lines say
abbrev pub invariant-loop-guest : goal.invariant-loop-guest
invariant-loop-guest l = (guest : ℕ) → guest < l.guest → AreGone guest (part_of guest l.parts) (told_to guest l.ports)
