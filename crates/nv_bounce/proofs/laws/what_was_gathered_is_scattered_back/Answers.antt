use Rattle.nv_bounce.proofs.Outcomes.{scattered_from-gathered_to}
use Rattle.nv_bounce.proofs.laws.what_was_gathered_is_scattered_back.Goals as goal

pub returns : goal.returns
returns c = λ map places slot host sound clear. scattered_from-gathered_to map.regions places slot host sound.apart clear
