use Rattle.nv_prp.proofs.Shown.{in_memory-fed}
use Rattle.nv_prp.proofs.laws.feeding_what_a_memory_shows_keeps_the_end.Goals as goal

pub returns : goal.returns
returns c = in_memory-fed
