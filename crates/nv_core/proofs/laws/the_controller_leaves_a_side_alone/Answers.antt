use Rattle.nv_core.proofs.FrontLaws.{controller-beside}
use Rattle.nv_core.proofs.laws.the_controller_leaves_a_side_alone.Goals as goal

pub returns : goal.returns
returns c = λ geometry e side before after w his on host. controller-beside geometry e his side before after w on host
