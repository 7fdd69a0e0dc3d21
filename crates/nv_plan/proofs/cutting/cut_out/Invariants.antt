use Rattle.std.proofs.Common.{◌++◌, length}
use Rattle.nv_plan.specs.Told.{cut_places}
use Rattle.nv_plan.proofs.CutPlaces.{IsCutting}
use Rattle.nv_plan.proofs.cutting.cut_out.Given as goal

abbrev pub invariant-loop-piece : goal.invariant-loop-piece
invariant-loop-piece l = IsCutting (l.initial.places ++ cut_places l.skip l.len l.pieces) l.places l.ahead l.left l.rest

abbrev pub decreases-loop-piece : goal.decreases-loop-piece
decreases-loop-piece l = length l.rest
