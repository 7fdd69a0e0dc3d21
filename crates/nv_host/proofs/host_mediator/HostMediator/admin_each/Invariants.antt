use Rattle.std.proofs.Common.{◌≡◌, ◌≤◌, ◌-◌, length}
use Rattle.nv_host.specs.Work.{Leads, scene}
use Rattle.nv_host.specs.declared.worked.Scope.TheVariants as scope
use Rattle.nv_host.proofs.host_mediator.HostMediator.admin_each.Given as goal

abbrev pub invariant-loop-done : goal.invariant-loop-done
invariant-loop-done g l =
    record {
      leads : Leads (scope.Guest l.guest) l.done (scene l.fn.self (g.C.MemoryCell.bytes l.fn.memory)) (scene l.self (g.C.MemoryCell.bytes l.memory));
      few : l.done ≤ l.most;
      setup : l.self.setup ≡ l.fn.self.setup;
      len : length (g.C.MemoryCell.bytes l.memory) ≡ length (g.C.MemoryCell.bytes l.fn.memory);
    }

abbrev pub decreases-loop-done : goal.decreases-loop-done
decreases-loop-done g l = l.most - l.done
