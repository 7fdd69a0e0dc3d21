use Rattle.std.proofs.Common.{◌≡◌, ◌-◌, ◌≤◌, length, take}
use Rattle.nv_zeroed.specs.Chunks.{bytes_at}
use Rattle.nv_zeroed.proofs.zeroed.Zeroed.equals_loaded.Given as goal

abbrev pub invariant-loop-done : goal.invariant-loop-done
invariant-loop-done l = (bytes_at l.self l.at l.done ≡ take l.done l.bytes) × (l.done ≤ length l.bytes)

abbrev pub decreases-loop-done : goal.decreases-loop-done
decreases-loop-done l = length l.bytes - l.done
