use Rattle.std.proofs.Common.{List, ap, arith, refl, slice_get, ℕ, ◌≡◌}
use Rattle.std.specs.Prelude.{slice_index}
use Rattle.nv_core.specs.Held.{held_in}
use Rattle.nv_entry.specs.Completion.{completion}
use Rattle.nv_entry.specs.Layout.{bits, bytes_of_dwords, dword, number_at}
use Rattle.nv_model.specs.Controller.{front, opening, took}
use Rattle.nv_model.specs.Memory.{byte_in, bytes_from, image}
use Rattle.nv_model.specs.declared.reply.Reply.{Reply}
use Rattle.nv_world_model.specs.Step.{administered_in, replay, replies, step, taken_to}
use Rattle.nv_world_model.specs.World.{Lane, claimed, opening_world, with_tags}
use Rattle.nv_model.specs.declared.reply.Reply.TheVariants as reply
use Rattle.nv_examples_host.proofs.beside.steps.Goals as goal

pub returns-clause-ignored : goal.returns-clause-ignored
unfolding number_at dword bits bytes_of_dwords completion bytes_from byte_in front opening opening_world administered_in step replay replies image took taken_to claimed with_tags
returns-clause-ignored c = record { reply = refl; world = record { host = refl; lanes = refl; controllers = refl; tails = refl } }

pub returns-clause-another_answer : goal.returns-clause-another_answer
unfolding number_at dword bits bytes_of_dwords completion bytes_from byte_in front opening opening_world administered_in step replay replies image took taken_to claimed with_tags
returns-clause-another_answer c s = (let bad : ◌≡◌ {A = Reply} reply.Ignored reply.Done = s.reply in absurd (cc))

pub returns-clause-another_side : goal.returns-clause-another_side
unfolding number_at dword bits bytes_of_dwords completion bytes_from byte_in front opening opening_world administered_in step replay replies image took taken_to claimed with_tags
returns-clause-another_side c s = (let bad : ◌≡◌ {A = ℕ} 5 6 = ap (λ (xs : List ℕ). slice_index xs 0) s.world.tails in absurd (omega arith))

pub returns-clause-a_side_as_before : goal.returns-clause-a_side_as_before
unfolding number_at dword bits bytes_of_dwords completion bytes_from byte_in front opening opening_world administered_in step replay replies image took taken_to claimed with_tags
returns-clause-a_side_as_before c s = (let bad : ◌≡◌ {A = ℕ} 4 3 = ap (λ (ls : List Lane). held_in 0 (slice_get ls 0)) s.world.lanes in absurd (omega arith))

pub returns-clause-another_memory : goal.returns-clause-another_memory
unfolding number_at dword bits bytes_of_dwords completion bytes_from byte_in front opening opening_world administered_in step replay replies image took taken_to claimed with_tags
returns-clause-another_memory c s = (let bad : ◌≡◌ {A = ℕ} 0 7 = ap (λ (f : ℕ → ℕ). f 0) s.world.host in absurd (omega arith))
