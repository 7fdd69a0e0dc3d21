use Rattle.std.proofs.Common.{◌≡◌, ℕ, ◌+◌, ◌-◌, ◌≤◌, List, ◌++◌}
use Rattle.nv_mem.specs.Places.{addresses}
use Rattle.nv_prp.specs.Fits.{fit_behind, hosts_of}
use Rattle.nv_prp.proofs.fitting.run_fits.Given as goal

abbrev pub invariant-loop-done : goal.invariant-loop-done
invariant-loop-done l = record {
  within : l.done ≤ l.len;
  fits : (rest : List ℕ) → fit_behind l.fn.end (hosts_of l.map.regions (addresses l.addr l.len) ++ rest)
      ≡ fit_behind l.end (hosts_of l.map.regions (addresses (l.addr + l.done) (l.len - l.done)) ++ rest);
}

abbrev pub decreases-loop-done : goal.decreases-loop-done
decreases-loop-done l = l.len - l.done
