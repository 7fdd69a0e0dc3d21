use Rattle.std.proofs.Common.{Bool, List, [], ap, arith, false, true, ℕ, ◌<◌, ◌∷◌, ◌≡◌}
use Rattle.std.proofs.lemmas.List.Elements.{All-head}
use Rattle.std.specs.Prelude.{slice_index}
use Rattle.nv_entry.specs.Completion.{completion}
use Rattle.nv_entry.specs.Layout.{bits, bytes_of_dwords, dword, number_at}
use Rattle.nv_examples_host.proofs.Probes.{first_sizes}
use Rattle.nv_examples_host.specs.Scenes.{unfitting}
use Rattle.nv_laws.specs.Alike.{HasFittingStatus}
use Rattle.nv_model.specs.Controller.{Controller, front, opening, reg_write}
use Rattle.nv_model.specs.Memory.{byte_in, bytes_from, image}
use Rattle.nv_model.specs.declared.reply.Reply.{Reply}
use Rattle.nv_world_model.specs.Seat.{put_back, seat}
use Rattle.nv_world_model.specs.Step.{acted_in, administered_in, replay, replies, step}
use Rattle.nv_world_model.specs.World.{World, opening_world}
use Rattle.nv_world_model.specs.declared.logged.Logged.{Logged}
use Rattle.nv_model.specs.declared.reply.Reply.TheVariants as reply
use Rattle.nv_world_model.specs.declared.event.Event.TheVariants as event
use Rattle.nv_examples_host.proofs.beside.logs.Goals as goal

pub returns-clause-another_answer : goal.returns-clause-another_answer
unfolding number_at dword bits bytes_of_dwords completion bytes_from byte_in front opening opening_world administered_in step replay replies image acted_in reg_write put_back seat
returns-clause-another_answer c r = (let bad : ◌≡◌ {A = List Reply} (reply.Ignored ∷ []) (reply.Done ∷ []) = r.replayed.told in absurd (cc))

pub returns-clause-another_end : goal.returns-clause-another_end
unfolding number_at dword bits bytes_of_dwords completion bytes_from byte_in front opening opening_world administered_in step replay replies image acted_in reg_write put_back seat
returns-clause-another_end c r = (let bad : ◌≡◌ {A = Bool} false true = ap (λ (w : World). w.kept 0) r.replayed.end in absurd (cc))

pub returns-clause-another_side : goal.returns-clause-another_side
unfolding number_at dword bits bytes_of_dwords completion bytes_from byte_in front opening opening_world administered_in step replay replies image acted_in reg_write put_back seat
returns-clause-another_side c r = (let bad : ◌≡◌ {A = ℕ} 0 1 = ap (λ (xs : List ℕ). slice_index xs 0) r.beside.tails in absurd (omega arith))

pub returns-clause-before_the_last_event : goal.returns-clause-before_the_last_event
unfolding number_at dword bits bytes_of_dwords completion bytes_from byte_in front opening opening_world administered_in step replay replies image acted_in reg_write put_back seat
returns-clause-before_the_last_event c r = (let bad : ◌≡◌ {A = ℕ} 0x1f001f 0 = ap (λ (cs : List Controller). first_sizes cs) r.beside.controllers in absurd (omega arith))

pub returns-clause-another_memory : goal.returns-clause-another_memory
unfolding number_at dword bits bytes_of_dwords completion bytes_from byte_in front opening opening_world administered_in step replay replies image acted_in reg_write put_back seat
returns-clause-another_memory c r = (let bad : ◌≡◌ {A = ℕ} 0 7 = ap (λ (f : ℕ → ℕ). f 0) r.beside.host in absurd (omega arith))

pub returns-clause-a_status_of_no_completion : goal.returns-clause-a_status_of_no_completion
unfolding number_at dword bits bytes_of_dwords completion bytes_from byte_in front opening opening_world administered_in step replay replies image acted_in reg_write put_back seat
returns-clause-a_status_of_no_completion c r = (let bad : 8 < 8 = (All-head (λ (l : Logged). HasFittingStatus l.event) (record { event = event.DevFail 9 0 unfitting; reply = reply.Ignored }) [] r.fitting).0 in absurd (omega (arith, bad)))

pub returns-clause-another_start : goal.returns-clause-another_start
unfolding number_at dword bits bytes_of_dwords completion bytes_from byte_in front opening opening_world administered_in step replay replies image acted_in reg_write put_back seat
returns-clause-another_start c r = (let bad : ◌≡◌ {A = Bool} true false = ap (λ (w : World). w.kept 0) r.starts.world in absurd (cc))
