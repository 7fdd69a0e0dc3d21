use Rattle.nv_core.proofs.Notes.{noted-start}
use Rattle.nv_core.proofs.front.Front.new.Goals as goal

pub invariant_of-result : goal.invariant_of-result
invariant_of-result c = noted-start _ c.in_ok-controllers.controllers.items c.in_ok-controllers.ensures
