use Rattle.std.proofs.Common.{◌≤◌, ◌-◌}
use Rattle.nv_c.specs.Work.{IsReading, Leads}
use Rattle.nv_c.proofs.reading.read_on.Given as goal

abbrev pub invariant-loop-done : goal.invariant-loop-done
invariant-loop-done l = record {
  leads : Leads l.scope l.done l.initial.mediator l.mediator;
  few : l.done ≤ l.most;
  reading : IsReading l.scope l.mediator l.planning;
}

abbrev pub decreases-loop-done : goal.decreases-loop-done
decreases-loop-done l = l.most - l.done
