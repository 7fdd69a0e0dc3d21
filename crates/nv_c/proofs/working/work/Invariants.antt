use Rattle.std.proofs.Common.{◌≤◌, ◌-◌}
use Rattle.nv_c.specs.Work.{Leads}
use Rattle.nv_c.proofs.working.work.Given as goal

abbrev pub invariant-loop-done : goal.invariant-loop-done
invariant-loop-done l = record {
  leads : Leads l.scope l.done l.initial.mediator l.mediator;
  few : l.done ≤ l.most;
}

abbrev pub decreases-loop-done : goal.decreases-loop-done
decreases-loop-done l = l.most - l.done
