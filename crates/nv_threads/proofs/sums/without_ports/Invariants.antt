use Rattle.std.proofs.Common.{◌≡◌, ◌+◌, length, sum_by, take}
use Rattle.nv_threads.proofs.sums.without_ports.Given as goal

abbrev pub invariant-loop-port : goal.invariant-loop-port
invariant-loop-port l = l.left + sum_by (λ p. length p.calls) (take l.port-index l.ports) ≡ l.events
