use Rattle.std.proofs.Common.{List, ap, slice_get, ◌∙◌}
use Rattle.nv_world_model.specs.Device.{DeviceLane, completion_posted}
use Rattle.nv_device.specs.Physical.{lane_of}
use Rattle.nv_device.specs.State.{Physical}
use Rattle.nv_device.proofs.LeftLemmas.{lane-others, taken-others}
use Rattle.nv_device.proofs.laws.a_call_leaves_the_other_lanes.Goals as goal

pub returns-clause-ring : goal.returns-clause-ring
returns-clause-ring c = λ lane other tail p apart. lane-others lane other _ p apart

pub returns-clause-taken : goal.returns-clause-taken
returns-clause-taken c = taken-others

pub returns-clause-moved : goal.returns-clause-moved
returns-clause-moved c = λ lane slot number other h old_host new_host old new moved apart.
    ap (λ (ds : List DeviceLane). slice_get ds other) moved.lanes ∙ lane-others lane other _ old apart

pub returns-clause-posted : goal.returns-clause-posted
returns-clause-posted c = λ lane slot other st old_host new_host old new posted apart.
    ap (λ (p : Physical). slice_get p.lanes other) posted.device
    ∙ lane-others lane other (completion_posted slot (lane_of old lane)) old apart
