use Rattle.std.proofs.Common.{◌≡◌, replicate}
use Rattle.nv_world_model.specs.World.{opening_lane}
use Rattle.nv_core.proofs.opening.opening_lanes.Given as goal

abbrev pub invariant-loop-lane : goal.invariant-loop-lane
invariant-loop-lane l = l.lanes.items ≡ replicate l._lane opening_lane
