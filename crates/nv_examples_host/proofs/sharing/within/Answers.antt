use Rattle.std.proofs.Common.{arith, refl, ℕ, ◌≡◌, ◌≤◌}
use Rattle.nv_examples_host.specs.Scenes.{guest_of_two}
use Rattle.nv_world_model.specs.Rows.{guest_at}
use Rattle.nv_examples_host.proofs.sharing.within.Goals as goal

pub returns-clause-the_first_has_more : goal.returns-clause-the_first_has_more
returns-clause-the_first_has_more c w = (let bad : 3 ≤ 2 = w guest_of_two 0 refl refl in absurd (omega (arith, bad)))

pub returns-clause-the_second_has_more : goal.returns-clause-the_second_has_more
returns-clause-the_second_has_more c w = (let bad : 5 ≤ 4 = w (guest_at 0x200000 2000) 3 refl refl in absurd (omega (arith, bad)))

pub returns-clause-one_of_them_has_more : goal.returns-clause-one_of_them_has_more
returns-clause-one_of_them_has_more c a = (let bad : 5 ≤ 4 = a 1 (guest_at 0x200000 2000) 3 refl refl in absurd (omega (arith, bad)))

pub returns-clause-all_shares : goal.returns-clause-all_shares
returns-clause-all_shares c = (let enough : 64 ≤ 64 = omega arith in record { each = refl; enough = enough })

pub returns-clause-one_tag_more : goal.returns-clause-one_tag_more
returns-clause-one_tag_more c s = (let bad : 65 ≤ 64 = s.enough in absurd (omega (arith, bad)))

pub returns-clause-a_guest_without_one : goal.returns-clause-a_guest_without_one
returns-clause-a_guest_without_one c s = (let bad : ◌≡◌ {A = ℕ} 1 2 = s.each in absurd (omega arith))
