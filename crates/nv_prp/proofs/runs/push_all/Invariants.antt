use Rattle.std.proofs.Common.{◌≡◌, ◌++◌, take}
use Rattle.nv_prp.proofs.runs.push_all.Given as goal

abbrev pub invariant-loop-run : goal.invariant-loop-run
invariant-loop-run l = l.places ≡ l.initial.places ++ take l.run-index l.runs
