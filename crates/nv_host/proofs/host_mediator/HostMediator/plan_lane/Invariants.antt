use Rattle.std.proofs.Common.{◌≡◌, ℕ, length}
use Rattle.nv_host.proofs.Searches.{IsSearch}
use Rattle.nv_host.specs.Passes.{NothingWaitsAt}
use Rattle.nv_host.specs.Work.{Scene, scene}
use Rattle.nv_host.specs.declared.worked.Scope.TheVariants as scope
use Rattle.nv_host.proofs.host_mediator.HostMediator.plan_lane.Given as goal

abbrev pub invariant-loop-tag : goal.invariant-loop-tag
invariant-loop-tag g l =
    record {
      search : IsSearch scope.All l.most l.done l.taken (λ (s : Scene) (k : ℕ). NothingWaitsAt s l.lane k) (scene l.fn.self (g.C.MemoryCell.bytes l.fn.memory))
          (scene l.self (g.C.MemoryCell.bytes l.memory));
      setup : l.self.setup ≡ l.fn.self.setup;
      len : length (g.C.MemoryCell.bytes l.memory) ≡ length (g.C.MemoryCell.bytes l.fn.memory);
    }

abbrev pub decreases-loop-tag : goal.decreases-loop-tag
decreases-loop-tag g l = length l.taken
