use Rattle.std.proofs.Common.{◌≡◌, ◌≤◌, ◌<◌, ℕ, false, slice_get}
use Rattle.nv_core.specs.News.{is_busy, tags_at}
use Rattle.nv_core.proofs.front.Front.next_busy.Given as goal

-- the lanes up to here are passed by
abbrev pub invariant-loop-lane : goal.invariant-loop-lane
invariant-loop-lane g l =
    record {
      from : l.from ≤ l.lane;
      passed : (lane : ℕ) → l.from ≤ lane → lane < l.lane → is_busy l.layout lane (slice_get l.self.lanes lane) (tags_at l.held lane) (g.C.MemoryCell.bytes l.host) ≡ false;
    }
