use Rattle.std.proofs.Common.{Option, ap, arith, refl, ℕ, ◌≡◌}
use Rattle.std.specs.Option.{unwrap_or}
use Rattle.nv_examples_host.proofs.works.scopes.Goals as goal

pub returns-clause-a_guests : goal.returns-clause-a_guests
returns-clause-a_guests c = refl

pub returns-clause-anothers : goal.returns-clause-anothers
returns-clause-anothers c p = (let bad : ◌≡◌ {A = ℕ} 1 0 = ap (λ (o : Option ℕ). unwrap_or o 9) p in absurd (omega arith))

pub returns-clause-a_lanes : goal.returns-clause-a_lanes
returns-clause-a_lanes c = refl

pub returns-clause-another_lanes : goal.returns-clause-another_lanes
returns-clause-another_lanes c p = (let bad : ◌≡◌ {A = ℕ} 1 0 = ap (λ (o : Option ℕ). unwrap_or o 9) p in absurd (omega arith))

pub returns-clause-no_guests : goal.returns-clause-no_guests
returns-clause-no_guests c p = (let bad : ◌≡◌ {A = ℕ} 9 1 = ap (λ (o : Option ℕ). unwrap_or o 9) p in absurd (omega arith))

pub returns-clause-no_lanes : goal.returns-clause-no_lanes
returns-clause-no_lanes c p = (let bad : ◌≡◌ {A = ℕ} 9 0 = ap (λ (o : Option ℕ). unwrap_or o 9) p in absurd (omega arith))

pub returns-clause-of_all : goal.returns-clause-of_all
returns-clause-of_all c = tt
