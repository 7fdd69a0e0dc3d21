use Rattle.nv_laws_sound.proofs.KeptEvents.{reaped-kept, step-kept}
use Rattle.nv_laws_sound.proofs.laws.keeping.the_mediators_side_keeps_itself.Goals as goal

pub returns-clause-step : goal.returns-clause-step
returns-clause-step c = λ host_bytes geometry e w mine laid is. step-kept host_bytes geometry e w mine laid is

pub returns-clause-reaped : goal.returns-clause-reaped
returns-clause-reaped c = λ geometry lane completion w is. reaped-kept geometry lane completion w is
