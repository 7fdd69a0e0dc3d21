use Rattle.std.proofs.Common.{◌≡◌, drop}
use Rattle.nv_world_model.specs.SetUp.{all_extents, any_two, blocks_meet}
use Rattle.nv_mediator.proofs.checking.extents_meet.Given as goal

-- what is left decides
abbrev pub invariant-loop-number : goal.invariant-loop-number
invariant-loop-number l = any_two blocks_meet (all_extents l.guests) ≡ any_two blocks_meet (all_extents (drop l.number l.guests))
