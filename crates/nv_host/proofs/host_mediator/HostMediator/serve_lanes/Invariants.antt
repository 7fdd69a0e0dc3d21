use Rattle.std.proofs.Common.{◌≡◌, ◌-◌, ◌<◌, ◌≤◌, ℕ, length}
use Rattle.nv_host.proofs.Rounds.{IsRound}
use Rattle.nv_host.specs.Passes.{LaneRests}
use Rattle.nv_host.specs.Work.{Scene, scene}
use Rattle.nv_host.specs.declared.worked.Scope.TheVariants as scope
use Rattle.nv_host.proofs.host_mediator.HostMediator.serve_lanes.Given as goal

abbrev pub invariant-loop-lane : goal.invariant-loop-lane
invariant-loop-lane g l =
    record {
      round : IsRound scope.All l.most l.done l.lane (λ (s : Scene) (k : ℕ). LaneRests s k) (scene l.fn.self (g.C.MemoryCell.bytes l.fn.memory))
          (scene l.self (g.C.MemoryCell.bytes l.memory));
      late : (k : ℕ) → l.upto ≤ k → k < l.lane → LaneRests (scene l.self (g.C.MemoryCell.bytes l.memory)) k;
      setup : l.self.setup ≡ l.fn.self.setup;
      len : length (g.C.MemoryCell.bytes l.memory) ≡ length (g.C.MemoryCell.bytes l.fn.memory);
    }

abbrev pub decreases-loop-lane : goal.decreases-loop-lane
decreases-loop-lane g l = l.count - l.lane
