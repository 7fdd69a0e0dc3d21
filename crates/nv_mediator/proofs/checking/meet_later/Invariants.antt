use Rattle.std.proofs.Common.{◌≡◌, ◌++◌, drop}
use Rattle.nv_world_model.specs.SetUp.{all_extents, any_two, blocks_meet}
use Rattle.nv_mediator.proofs.checking.meet_later.Given as goal

-- what is left decides
abbrev pub invariant-loop-number : goal.invariant-loop-number
invariant-loop-number l =
    any_two blocks_meet (l.extents ++ all_extents l.others) ≡ any_two blocks_meet (drop l.number l.extents ++ all_extents l.others)
