use Rattle.std.proofs.Common.{◌≡◌}
use Rattle.nv_host.proofs.Failed.{failed_below}
use Rattle.nv_host.specs.Closing.{AreEach, IsLaneAlone, IsRingAlone}
use Rattle.nv_host.specs.Ending.{IsIdleRun}
use Rattle.nv_host.proofs.host_mediator.HostMediator.fail_each.Given as goal

abbrev pub invariant-loop-tag : goal.invariant-loop-tag
invariant-loop-tag g l =
    record {
      each : AreEach (failed_below l.tag) l.fn.lane l.fn.self.side l.self.side;
      run : IsIdleRun l.fn.self.setup.geometry l.fn.lane l.fn.self.side (g.C.MemoryCell.bytes l.fn.memory) l.self.side (g.C.MemoryCell.bytes l.memory);
      alone : IsLaneAlone l.fn.lane l.fn.self.side l.self.side;
      ring : IsRingAlone l.fn.self.setup.geometry l.fn.lane (g.C.MemoryCell.bytes l.fn.memory) (g.C.MemoryCell.bytes l.memory);
      setup : l.self.setup ≡ l.fn.self.setup;
      closed : l.self.closed ≡ l.fn.self.closed;
      spare : l.self.spare ≡ l.fn.self.spare;
    }
