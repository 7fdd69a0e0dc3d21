use Rattle.std.proofs.Common.{◌≡◌, drop}
use Rattle.std.specs.List.{list_any}
use Rattle.nv_world_model.specs.SetUp.{all_extents, blocks_meet}
use Rattle.nv_mediator.proofs.checking.has_block_with.Given as goal

-- what is left decides
abbrev pub invariant-loop-guest : goal.invariant-loop-guest
invariant-loop-guest l =
    list_any (blocks_meet l.extent) (all_extents l.guests) ≡ list_any (blocks_meet l.extent) (all_extents (drop l.guest-index l.guests))
