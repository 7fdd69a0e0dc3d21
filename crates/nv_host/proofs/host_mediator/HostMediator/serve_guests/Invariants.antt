use Rattle.std.proofs.Common.{◌≡◌, ◌<◌, ℕ, length}
use Rattle.nv_host.proofs.Searches.{IsSearch}
use Rattle.nv_host.specs.Passes.{QueuesRest}
use Rattle.nv_host.specs.Work.{Scene, scene}
use Rattle.nv_host.specs.declared.worked.Scope.TheVariants as scope
use Rattle.nv_host.proofs.host_mediator.HostMediator.serve_guests.Given as goal

abbrev pub invariant-loop-guest : goal.invariant-loop-guest
invariant-loop-guest g l =
    record {
      search : IsSearch scope.All l.most l.done l.noted (λ (s : Scene) (k : ℕ). k < 16 → QueuesRest s k) (scene l.fn.self (g.C.MemoryCell.bytes l.fn.memory))
          (scene l.self (g.C.MemoryCell.bytes l.memory));
      setup : l.self.setup ≡ l.fn.self.setup;
      len : length (g.C.MemoryCell.bytes l.memory) ≡ length (g.C.MemoryCell.bytes l.fn.memory);
    }

abbrev pub decreases-loop-guest : goal.decreases-loop-guest
decreases-loop-guest g l = length l.noted
