use Rattle.std.proofs.Common.{◌≡◌, ◌-◌, ◌≤◌, ℕ, length}
use Rattle.nv_host.proofs.Rounds.{IsRound}
use Rattle.nv_world_model.specs.declared.event.Event.TheVariants as event
use Rattle.nv_host.specs.Work.{NotDue, Scene, scene}
use Rattle.nv_host.specs.declared.worked.Scope.TheVariants as scope
use Rattle.nv_host.proofs.host_mediator.HostMediator.take_queues.Given as goal

abbrev pub invariant-loop-queue : goal.invariant-loop-queue
invariant-loop-queue g l =
    record {
      round : IsRound (scope.Guest l.guest) l.most l.done l.queue (λ (s : Scene) (k : ℕ). (lane : ℕ) → NotDue s (event.Take l.guest k lane))
          (scene l.fn.self (g.C.MemoryCell.bytes l.fn.memory)) (scene l.self (g.C.MemoryCell.bytes l.memory));
      setup : l.self.setup ≡ l.fn.self.setup;
      len : length (g.C.MemoryCell.bytes l.memory) ≡ length (g.C.MemoryCell.bytes l.fn.memory);
      within : l.queue ≤ 9;
    }

abbrev pub decreases-loop-queue : goal.decreases-loop-queue
decreases-loop-queue g l = 9 - l.queue
