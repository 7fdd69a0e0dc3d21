use Rattle.std.proofs.Common.{◌≡◌, ◌∷◌, List, Some, length}
use Rattle.std.specs.Option.{option_map}
use Rattle.nv_core.specs.Groups.{statuses_in}
use Rattle.nv_entry.specs.Status.{StatusField}
use Rattle.nv_world_model.specs.Step.{deciding}
use Rattle.nv_world_model.specs.World.{group_in}
use Rattle.nv_core.proofs.lane.Lane.outcome.Given as goal

-- what is decided by now and by the tags that are left is what all tags decide
abbrev pub invariant-loop-other : goal.invariant-loop-other
invariant-loop-other l =
    record {
      goes : option_map (λ (sts : List StatusField). deciding (l.outcome ∷ sts)) (statuses_in l.others l.fn.self)
          ≡ option_map deciding (statuses_in (group_in (Some l.fn.self) l.fn.tag) l.fn.self);
    }

abbrev pub decreases-loop-other : goal.decreases-loop-other
decreases-loop-other l = length l.others
