use Rattle.std.proofs.Common.{◌≡◌, ◌≤◌, length}
use Rattle.nv_host.proofs.Cleared.{first_lanes}
use Rattle.nv_host.specs.Served.{AreRingsAlone}
use Rattle.nv_laws_sound.specs.Phased.{AreRingsClear}
use Rattle.nv_model.specs.Memory.{byte_in}
use Rattle.nv_host.proofs.host_mediator.HostMediator.clear_rings.Given as goal

abbrev pub invariant-loop-lane : goal.invariant-loop-lane
invariant-loop-lane g l =
    record {
      low : l.lane ≤ l.fn.self.setup.lanes;
      clear : AreRingsClear (first_lanes l.fn.self.setup l.lane) (byte_in (g.C.MemoryCell.bytes l.memory));
      alone : AreRingsAlone (first_lanes l.fn.self.setup l.lane) (g.C.MemoryCell.bytes l.fn.memory) (g.C.MemoryCell.bytes l.memory);
      size : length (g.C.MemoryCell.bytes l.memory) ≡ length (g.C.MemoryCell.bytes l.fn.memory);
    }
