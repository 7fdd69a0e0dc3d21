use Rattle.nv_laws_sound.proofs.CountedEvents.{reaped-counted}
use Rattle.nv_laws_sound.proofs.CountedSteps.{side-counted}
use Rattle.nv_laws_sound.proofs.laws.counting.controllers_count_whatever_is_in_memory.Goals as goal

pub returns-clause-step : goal.returns-clause-step
returns-clause-step c = λ host_bytes geometry e w laid is counted. side-counted host_bytes geometry e w laid is counted

pub returns-clause-reaped : goal.returns-clause-reaped
returns-clause-reaped c = λ geometry lane completion l w at counted. reaped-counted geometry w lane completion l at counted
