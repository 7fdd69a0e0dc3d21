use Rattle.std.proofs.Common.{◌≡◌, replicate}
use Rattle.nv_world_model.specs.Device.{opening_device_lane}
use Rattle.nv_device.proofs.device.new_lanes.Given as goal

abbrev pub invariant-loop-lane : goal.invariant-loop-lane
invariant-loop-lane l = l.lanes.items ≡ replicate l._lane opening_device_lane
