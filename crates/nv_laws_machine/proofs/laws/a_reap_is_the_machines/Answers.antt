use Rattle.nv_laws_machine.proofs.Reaps.{reap-machines}
use Rattle.nv_laws_machine.proofs.laws.a_reap_is_the_machines.Goals as goal

pub returns : goal.returns
returns c geometry old new before lane answer told ended same tails = reap-machines geometry old new before lane answer told ended same tails
