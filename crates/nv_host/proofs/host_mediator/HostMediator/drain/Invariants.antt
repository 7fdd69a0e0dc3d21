use Rattle.std.proofs.Common.{◌≡◌, ℕ, slice_get}
use Rattle.nv_host.proofs.Failed.{in_flight}
use Rattle.nv_host.specs.Closing.{AreReaped, IsLaneAlone}
use Rattle.nv_host.specs.Ending.{IsRun}
use Rattle.nv_host.proofs.host_mediator.HostMediator.drain.Given as goal

abbrev pub invariant-loop : goal.invariant-loop
invariant-loop g l =
    record {
      reads : (count : ℕ) × AreReaped l.fn.self.setup.geometry l.fn.lane (g.C.MemoryCell.bytes l.fn.memory) count l.fn.self.side l.self.side;
      run : IsRun l.fn.self.setup.geometry l.fn.lane l.fn.self.side (g.C.MemoryCell.bytes l.fn.memory) l.self.side (g.C.MemoryCell.bytes l.fn.memory);
      alone : IsLaneAlone l.fn.lane l.fn.self.side l.self.side;
      setup : l.self.setup ≡ l.fn.self.setup;
      closed : l.self.closed ≡ l.fn.self.closed;
      spare : l.self.spare ≡ l.fn.self.spare;
    }

abbrev pub decreases-loop : goal.decreases-loop
decreases-loop g l = in_flight (slice_get l.self.side.lanes l.lane)
