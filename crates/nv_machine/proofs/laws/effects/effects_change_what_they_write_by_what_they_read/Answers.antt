use Rattle.std.specs.Prelude.{◌≡◌, ℕ, true}
use Rattle.nv_machine.proofs.Effects.{effects_on-elsewhere}
use Rattle.nv_machine.proofs.Writes.{effects_on-same}
use Rattle.nv_machine.proofs.laws.effects.effects_change_what_they_write_by_what_they_read.Goals as goal

pub returns-clause-others : goal.returns-clause-others
returns-clause-others c = effects_on-elsewhere

pub returns-clause-same : goal.returns-clause-same
returns-clause-same c = λ part effects host other at. effects_on-same (λ (a : ℕ). part a ≡ true) effects host other at
