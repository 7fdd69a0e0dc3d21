use Rattle.std.proofs.Common.{◌≡◌, drop}
use Rattle.nv_threads.specs.Finished.{told_to}
use Rattle.nv_threads.proofs.calls.told_to.Given as goal

abbrev pub invariant-loop-port : goal.invariant-loop-port
invariant-loop-port l = told_to l.guest l.ports ≡ told_to l.guest (drop l.port-index l.ports)
