use Rattle.std.proofs.Common.{◌-◌, ◌≤◌}
use Rattle.nv_mem.specs.MapRuns.{IsContiguous}
use Rattle.nv_mem.proofs.guest_map.GuestMap.run_len.Given as goal

-- what is found so far is a run, and no longer than is wanted
abbrev pub invariant-loop-n : goal.invariant-loop-n
invariant-loop-n l = record { run : IsContiguous l.self.regions l.addr l.host l.n; within : l.n ≤ l.len }

abbrev pub decreases-loop-n : goal.decreases-loop-n
decreases-loop-n l = l.len - l.n
