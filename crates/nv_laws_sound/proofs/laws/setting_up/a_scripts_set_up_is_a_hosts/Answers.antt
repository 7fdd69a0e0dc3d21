use Rattle.nv_laws_sound.proofs.LaidOuts.{script-accepted}
use Rattle.nv_laws_sound.proofs.laws.setting_up.a_scripts_set_up_is_a_hosts.Goals as goal

pub returns : goal.returns
returns c = script-accepted
