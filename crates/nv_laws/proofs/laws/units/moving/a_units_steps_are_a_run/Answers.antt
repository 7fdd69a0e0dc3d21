use Rattle.nv_laws.proofs.units.Events.{own-steps, run-from}
use Rattle.nv_laws.proofs.laws.units.moving.a_units_steps_are_a_run.Goals as goal

pub returns-clause-steps : goal.returns-clause-steps
returns-clause-steps c = own-steps

pub returns-clause-run : goal.returns-clause-run
returns-clause-run c = run-from
