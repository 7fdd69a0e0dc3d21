use Rattle.nv_world_model.proofs.LaneReach.{unit-agree, unit-elsewhere, unit-same_byte}
use Rattle.nv_world_model.proofs.laws.device.a_unit_reaches_its_places_alone.Goals as goal

pub returns-clause-writes : goal.returns-clause-writes
returns-clause-writes c = unit-elsewhere

pub returns-clause-reads : goal.returns-clause-reads
returns-clause-reads c = unit-agree

pub returns-clause-memory : goal.returns-clause-memory
returns-clause-memory c = unit-same_byte
