use Rattle.nv_laws_sound.proofs.ManyLanes.{lanes-kept}
use Rattle.nv_laws_sound.proofs.Steps.{step-consistent}
use Rattle.nv_laws_sound.proofs.laws.keeping.each_event_keeps_a_world_consistent.Goals as goal

pub returns-clause-consistent : goal.returns-clause-consistent
returns-clause-consistent c = step-consistent

pub returns-clause-lanes : goal.returns-clause-lanes
returns-clause-lanes c = λ geometry e w. lanes-kept geometry w e
