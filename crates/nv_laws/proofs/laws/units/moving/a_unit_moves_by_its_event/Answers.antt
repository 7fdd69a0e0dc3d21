use Rattle.nv_laws.proofs.units.Events.{event-behind, event-done, event-held}
use Rattle.nv_laws.proofs.laws.units.moving.a_unit_moves_by_its_event.Goals as goal

pub returns-clause-done : goal.returns-clause-done
returns-clause-done c = event-done

pub returns-clause-behind : goal.returns-clause-behind
returns-clause-behind c = event-behind

pub returns-clause-held : goal.returns-clause-held
returns-clause-held c = event-held
