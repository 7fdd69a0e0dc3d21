use Rattle.std.proofs.Common.{◌≡◌, List, None, Some, length, slice_get}
use Rattle.nv_core.specs.Groups.{all_ended, tags_changed}
use Rattle.nv_core.specs.Handing.{IsRising}
use Rattle.nv_core.proofs.AnsweredTags.{AreTakenOf}
use Rattle.nv_entry.specs.StatusCode.{done_with}
use Rattle.nv_entry.specs.declared.status_code.StatusCode.TheVariants.{Success}
use Rattle.nv_model.specs.Transcript.{ReadDone}
use Rattle.nv_world_model.specs.World.{Command, Ended, Taken, group_in}
use Rattle.nv_core.proofs.lane.Lane.answer.Given as goal

-- the tags that are left, ended from here, are all tags ended from the start
abbrev pub invariant-loop-other : goal.invariant-loop-other
invariant-loop-other l =
    record {
      rise : IsRising 0 l.others;
      taken : (command : Command) (reads : List ReadDone) → slice_get l.fn.self.tags l.fn.tag ≡ Some (Taken command reads) → AreTakenOf command l.self l.others;
      goes : (command : Command) (reads : List ReadDone) → slice_get l.fn.self.tags l.fn.tag ≡ Some (Taken command reads) →
          tags_changed l.others (Ended command (done_with Success) None) l.self ≡ all_ended (group_in (Some l.fn.self) l.fn.tag) command l.fn.status l.fn.self;
    }

abbrev pub decreases-loop-other : goal.decreases-loop-other
decreases-loop-other l = length l.others
