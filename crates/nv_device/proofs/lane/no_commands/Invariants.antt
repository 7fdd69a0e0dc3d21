use Rattle.std.proofs.Common.{◌≡◌, replicate, None}
use Rattle.nv_device.proofs.lane.no_commands.Given as goal

abbrev pub invariant-loop-identifier : goal.invariant-loop-identifier
invariant-loop-identifier l = l.held.items ≡ replicate l._identifier None
