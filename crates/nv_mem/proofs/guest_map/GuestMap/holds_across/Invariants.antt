use Rattle.std.proofs.Common.{◌-◌, ◌≤◌}
use Rattle.nv_mem.specs.MapRuns.{AllMapped}
use Rattle.nv_mem.proofs.guest_map.GuestMap.holds_across.Given as goal

-- what is found so far is mapped, and no more than is asked for
abbrev pub invariant-loop-done : goal.invariant-loop-done
invariant-loop-done l = record { mapped : AllMapped l.self.regions l.addr l.done; within : l.done ≤ l.len }

abbrev pub decreases-loop-done : goal.decreases-loop-done
decreases-loop-done l = l.len - l.done
