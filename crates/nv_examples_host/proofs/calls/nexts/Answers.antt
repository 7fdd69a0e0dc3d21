use Rattle.std.proofs.Common.{Bool, List, [], ap, arith, false, true, ℕ, ◌∷◌, ◌≡◌, ◌≤◌}
use Rattle.std.specs.Prelude.{slice_index}
use Rattle.nv_entry.specs.Completion.{completion}
use Rattle.nv_entry.specs.Layout.{bits, bytes_of_dwords, dword, number_at}
use Rattle.nv_examples_host.proofs.Starting.{start-led}
use Rattle.nv_examples_host.specs.Scenes.{start}
use Rattle.nv_model.specs.Controller.{front, opening}
use Rattle.nv_model.specs.Memory.{byte_in, bytes_from}
use Rattle.nv_model.specs.declared.reply.Reply.{Reply}
use Rattle.nv_world_model.specs.SetUp.{SetUp}
use Rattle.nv_world_model.specs.Step.{administered_in, replay, replies, step}
use Rattle.nv_world_model.specs.World.{opening_world}
use Rattle.nv_model.specs.declared.reply.Reply.TheVariants as reply
use Rattle.nv_examples_host.proofs.calls.nexts.Goals as goal

pub returns-clause-another_set_up : goal.returns-clause-another_set_up
unfolding number_at dword bits bytes_of_dwords completion bytes_from byte_in front opening opening_world administered_in step replay replies
returns-clause-another_set_up c n = (let bad : ◌≡◌ {A = ℕ} 1 2 = ap (λ (s : SetUp). s.lanes) n.setup in absurd (omega arith))

pub returns-clause-a_lane_closed : goal.returns-clause-a_lane_closed
unfolding number_at dword bits bytes_of_dwords completion bytes_from byte_in front opening opening_world administered_in step replay replies
returns-clause-a_lane_closed c n = (let bad : ◌≡◌ {A = List Bool} (false ∷ true ∷ []) (false ∷ false ∷ []) = n.closed in absurd (cc))

pub returns-clause-another_share : goal.returns-clause-another_share
unfolding number_at dword bits bytes_of_dwords completion bytes_from byte_in front opening opening_world administered_in step replay replies
returns-clause-another_share c n = (let bad : ◌≡◌ {A = ℕ} 31 30 = ap (λ (xs : List ℕ). slice_index xs 1) n.spare in absurd (omega arith))

pub returns-clause-tags_from_no_take : goal.returns-clause-tags_from_no_take
unfolding number_at dword bits bytes_of_dwords completion bytes_from byte_in front opening opening_world administered_in step replay replies
returns-clause-tags_from_no_take c n = (let bad : 5 ≤ 0 = n.tags 1 0 in absurd (omega (arith, bad)))

pub returns-clause-another_answer : goal.returns-clause-another_answer
unfolding number_at dword bits bytes_of_dwords completion bytes_from byte_in front opening opening_world administered_in step replay replies
returns-clause-another_answer c n = (let bad : ◌≡◌ {A = Reply} reply.Ignored reply.Done = (n.logs start [] start start-led).0 in absurd (cc))

pub returns-clause-another_side : goal.returns-clause-another_side
unfolding number_at dword bits bytes_of_dwords completion bytes_from byte_in front opening opening_world administered_in step replay replies
returns-clause-another_side c n = (let bad : ◌≡◌ {A = ℕ} 0 1 = ap (λ (xs : List ℕ). slice_index xs 0) (n.logs start [] start start-led).1.beside.tails in absurd (omega arith))

pub returns-clause-another_memory : goal.returns-clause-another_memory
unfolding number_at dword bits bytes_of_dwords completion bytes_from byte_in front opening opening_world administered_in step replay replies
returns-clause-another_memory c n = (let bad : ◌≡◌ {A = ℕ} 0 7 = ap (λ (f : ℕ → ℕ). f 0) (n.logs start [] start start-led).1.beside.host in absurd (omega arith))

pub returns-clause-more_than_needed : goal.returns-clause-more_than_needed
unfolding number_at dword bits bytes_of_dwords completion bytes_from byte_in front opening opening_world administered_in step replay replies
returns-clause-more_than_needed c g = (let bad : 3 ≤ 2 = g 0 0 in absurd (omega (arith, bad)))

pub returns-clause-to_another_guest : goal.returns-clause-to_another_guest
unfolding number_at dword bits bytes_of_dwords completion bytes_from byte_in front opening opening_world administered_in step replay replies
returns-clause-to_another_guest c g = (let bad : 3 ≤ 0 = g 0 0 in absurd (omega (arith, bad)))
