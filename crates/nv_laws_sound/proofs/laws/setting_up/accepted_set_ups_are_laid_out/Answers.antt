use Rattle.nv_laws_sound.proofs.LaidOuts.{host-laid-out}
use Rattle.nv_laws_sound.proofs.laws.setting_up.accepted_set_ups_are_laid_out.Goals as goal

pub returns : goal.returns
returns c = host-laid-out
