use Rattle.nv_plan.proofs.CutPlaces.{AreCut}
use Rattle.nv_plan.proofs.cutting.cut_up.Given as goal

abbrev pub invariant-loop-part : goal.invariant-loop-part
invariant-loop-part l = AreCut l.pieces l.parts l.part-index l.places l.ends
