use Rattle.nv_world_model.proofs.LaneReach.{front-agree, taken-agree}
use Rattle.nv_world_model.proofs.laws.device.a_take_reads_its_entry_and_its_list.Goals as goal

pub returns-clause-entry : goal.returns-clause-entry
returns-clause-entry c = front-agree

pub returns-clause-taken : goal.returns-clause-taken
returns-clause-taken c = taken-agree
