-- Commands at the edges
use Rattle.std.specs.Prelude.{true, [], ◌∷◌}
use Rattle.nv_model.specs.Judge.{ClearBlock, Work}
use Rattle.nv_world_model.specs.Plan.{NoData}
use Rattle.nv_world_model.specs.RowsSmall.{clear_work}
use Rattle.nv_world_model.specs.Share.{Share, whole_share}

-- both blocks become zeros, and are kept
abbrev pub clear_both : Work
clear_both = record clear_work { units = ClearBlock 0 true ∷ ClearBlock 1 true ∷ []; fua = true }

-- which is one share
abbrev pub both_share : Share
both_share = whole_share (NoData clear_both) clear_both
