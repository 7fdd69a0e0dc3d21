use Rattle.nv_machine.proofs.Hosts.{hosts-read}
use Rattle.nv_machine.proofs.laws.effects.a_fetch_reads_the_guests_memory.Goals as goal

pub returns : goal.returns
returns c = hosts-read
