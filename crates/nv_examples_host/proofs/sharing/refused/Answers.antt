use Rattle.std.proofs.Common.{Bool, Option, [], ap, arith, false, is_some, refl, slice_set, subst, sym, true, ◌+◌, ◌-◌, ◌<◌, ◌∷◌, ◌≡◌, ◌≤◌}
use Rattle.std.specs.List.{sum}
use Rattle.nv_examples_host.specs.Scenes.{guest_of_two, two_guests}
use Rattle.nv_host.specs.Shares.{most_needed, needed_in_all, needed_of}
use Rattle.nv_world_model.specs.Area.{tag_count}
use Rattle.nv_world_model.specs.Geometry.{Guest}
use Rattle.nv_examples_host.proofs.sharing.refused.Goals as goal

pub returns-clause-nobodys : goal.returns-clause-nobodys
returns-clause-nobodys c = refl

pub returns-clause-somebodys : goal.returns-clause-somebodys
returns-clause-somebodys c s = (let bad : ◌≡◌ {A = Bool} true false = ap (λ (o : Option Guest). is_some o) s in absurd (cc))

pub returns-clause-too_small : goal.returns-clause-too_small
returns-clause-too_small c = (let small : 1 < 2 = omega arith in (guest_of_two, refl, small))

pub returns-clause-not_too_small : goal.returns-clause-not_too_small
returns-clause-not_too_small c s = (let same : 2 ≡ most_needed s.0 = ap (λ (o : Option Guest). needed_of o) s.1 in let small = s.2 in absurd (omega (arith, same, small)))

pub returns-clause-too_large : goal.returns-clause-too_large
returns-clause-too_large c = (let least : 2 ≤ 55 = omega arith in let more : 64 < 65 = omega arith in (guest_of_two, record { there = refl; least = least }, more))

pub returns-clause-not_too_large : goal.returns-clause-not_too_large
returns-clause-not_too_large c s = (let bad : 64 < 64 = subst (λ (o : Option Guest). tag_count < needed_in_all two_guests + sum (slice_set (3 ∷ 9 ∷ []) 0 (54 - needed_of o))) (sym s.1.there) s.2 in absurd (omega (arith, bad)))

pub returns-clause-too_small_for_too_large : goal.returns-clause-too_small_for_too_large
returns-clause-too_small_for_too_large c s = (let same : 2 ≡ most_needed s.0 = ap (λ (o : Option Guest). needed_of o) s.1.there in let least = s.1.least in absurd (omega (arith, same, least)))
