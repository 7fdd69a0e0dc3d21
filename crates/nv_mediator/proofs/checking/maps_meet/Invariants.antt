use Rattle.std.proofs.Common.{◌≡◌, drop}
use Rattle.nv_world_model.specs.SetUp.{any_two, maps_meet}
use Rattle.nv_mediator.proofs.checking.maps_meet.Given as goal

-- what is left decides
abbrev pub invariant-loop-number : goal.invariant-loop-number
invariant-loop-number l = any_two maps_meet l.guests ≡ any_two maps_meet (drop l.number l.guests)
