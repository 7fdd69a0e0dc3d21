use Rattle.nv_machine.proofs.EventCalls.{event-is, kept-is}
use Rattle.nv_machine.proofs.laws.worlds.an_event_is_a_call.Goals as goal

pub returns-clause-kept : goal.returns-clause-kept
returns-clause-kept c host_bytes geometry e w mine other laid keeps on_pages = kept-is host_bytes geometry w laid keeps on_pages e mine other

pub returns-clause-live : goal.returns-clause-live
returns-clause-live c host_bytes geometry e w mine laid live = event-is host_bytes geometry w laid live e mine
