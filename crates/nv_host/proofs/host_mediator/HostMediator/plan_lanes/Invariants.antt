use Rattle.std.proofs.Common.{◌≡◌, ℕ, length}
use Rattle.nv_host.proofs.Rounds.{IsRound}
use Rattle.nv_host.specs.Passes.{NoneWaits}
use Rattle.nv_host.specs.Work.{Scene, scene}
use Rattle.nv_host.specs.declared.worked.Scope.TheVariants as scope
use Rattle.nv_host.proofs.host_mediator.HostMediator.plan_lanes.Given as goal

abbrev pub invariant-loop-lane : goal.invariant-loop-lane
invariant-loop-lane g l =
    record {
      round : IsRound (scope.Guest l.guest) l.most l.done l.lane (λ (s : Scene) (k : ℕ). NoneWaits s l.guest k) (scene l.fn.self (g.C.MemoryCell.bytes l.fn.memory))
          (scene l.self (g.C.MemoryCell.bytes l.memory));
      setup : l.self.setup ≡ l.fn.self.setup;
      len : length (g.C.MemoryCell.bytes l.memory) ≡ length (g.C.MemoryCell.bytes l.fn.memory);
    }
