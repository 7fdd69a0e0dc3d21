use Rattle.nv_laws_machine.proofs.Tied.{step-machines}
use Rattle.nv_laws_machine.proofs.laws.a_call_is_the_machines.Goals as goal

pub returns : goal.returns
returns c host_bytes geometry e old new before after r mine other laid kept on_pages steps =
    step-machines host_bytes geometry old new before after r e mine other laid kept on_pages steps
