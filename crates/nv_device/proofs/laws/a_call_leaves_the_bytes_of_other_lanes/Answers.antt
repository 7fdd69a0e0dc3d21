use Rattle.nv_device.proofs.LeftLemmas.{moved-elsewhere, posted-others}
use Rattle.nv_device.proofs.laws.a_call_leaves_the_bytes_of_other_lanes.Goals as goal

pub returns-clause-posted : goal.returns-clause-posted
returns-clause-posted c = posted-others

pub returns-clause-moved : goal.returns-clause-moved
returns-clause-moved c = moved-elsewhere
