use Rattle.std.proofs.Common.{Bool, Option, ap, arith, false, is_some, length, refl, true, ℕ, ◌-◌, ◌≡◌, ◌≤◌}
use Rattle.std.specs.Prelude.{slice_index}
use Rattle.nv_examples_host.specs.Scenes.{guest_of_two}
use Rattle.nv_host.specs.Served.{Served}
use Rattle.nv_host.specs.Shares.{most_needed, needed_of}
use Rattle.nv_world_model.specs.Geometry.{Guest}
use Rattle.nv_examples_host.proofs.sharing.given.Goals as goal

pub returns-clause-six : goal.returns-clause-six
returns-clause-six c = (let least : 2 ≤ 6 = omega arith in (guest_of_two, record { there = refl; least = least }, refl))

pub returns-clause-two : goal.returns-clause-two
returns-clause-two c = (let least : 2 ≤ 2 = omega arith in (guest_of_two, record { there = refl; least = least }, refl))

pub returns-clause-one : goal.returns-clause-one
returns-clause-one c s = (let same : 2 ≡ most_needed s.0 = ap (λ (o : Option Guest). needed_of o) s.1.there in let least = s.1.least in absurd (omega (arith, same, least)))

pub returns-clause-as_spare : goal.returns-clause-as_spare
returns-clause-as_spare c s = (let same : 2 ≡ most_needed s.0 = ap (λ (o : Option Guest). needed_of o) s.1.there in let bad : 6 ≡ 6 - most_needed s.0 = ap (λ (h : Served). slice_index h.spare 0) s.2 in absurd (omega (arith, same, bad)))

pub returns-clause-anothers : goal.returns-clause-anothers
returns-clause-anothers c s = (let bad : ◌≡◌ {A = ℕ} 8 9 = ap (λ (h : Served). slice_index h.spare 1) s.2 in absurd (omega arith))

pub returns-clause-with_a_lane_opened : goal.returns-clause-with_a_lane_opened
returns-clause-with_a_lane_opened c s = (let bad : ◌≡◌ {A = ℕ} 0 2 = ap (λ (h : Served). length h.closed) s.2 in absurd (omega arith))

pub returns-clause-nobodys : goal.returns-clause-nobodys
returns-clause-nobodys c s = (let bad : ◌≡◌ {A = Bool} false true = ap (λ (o : Option Guest). is_some o) s.1.there in absurd (cc))
