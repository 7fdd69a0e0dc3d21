use Rattle.nv_ns.proofs.CutWalk.{AreMet}
use Rattle.nv_ns.proofs.walk.parts_of.Given as goal

abbrev pub invariant-loop-extent : goal.invariant-loop-extent
invariant-loop-extent l = AreMet l.extents l.slba l.count l.extent-index l.before l.parts
