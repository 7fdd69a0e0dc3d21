use Rattle.std.proofs.Common.{Bool, Option, ap, arith, false, refl, slice_get, sym, true, ℕ, ◌≡◌, ◌∙◌}
use Rattle.std.specs.Option.{unwrap_or}
use Rattle.std.specs.Prelude.{slice_index}
use Rattle.nv_laws_sound.specs.Side.{Side}
use Rattle.nv_core.specs.Reaping.{answer_of}
use Rattle.nv_core.specs.Tags.{is_flying}
use Rattle.nv_entry.specs.Completion.{completion}
use Rattle.nv_entry.specs.Layout.{bits, bytes_of_dwords, dword, number_at}
use Rattle.nv_examples_host.proofs.Probes.{head_of}
use Rattle.nv_examples_host.specs.Scenes.{low, one_lane, reading, two_slots, world_of}
use Rattle.nv_model.specs.Memory.{byte_in, bytes_from}
use Rattle.nv_model.specs.declared.reply.Reply.{Reply}
use Rattle.nv_world_model.specs.Step.{reaped}
use Rattle.nv_world_model.specs.World.{World, tag_of}
use Rattle.nv_model.specs.declared.reply.Reply.TheVariants as reply
use Rattle.nv_examples_host.proofs.closes.reads.Goals as goal

pub returns-clause-none_read : goal.returns-clause-none_read
unfolding number_at dword bits bytes_of_dwords completion bytes_from byte_in reaped
returns-clause-none_read c = refl

pub returns-clause-none_read_and_changed : goal.returns-clause-none_read_and_changed
unfolding number_at dword bits bytes_of_dwords completion bytes_from byte_in reaped
returns-clause-none_read_and_changed c p = (let bad : ◌≡◌ {A = ℕ} 6 5 = ap (λ (s : Side). slice_index s.tails 0) p in absurd (omega arith))

pub returns-clause-an_old_one : goal.returns-clause-an_old_one
unfolding number_at dword bits bytes_of_dwords completion bytes_from byte_in reaped
returns-clause-an_old_one c new r = (let bad : ◌≡◌ {A = Reply} reply.Idle reply.Done = ap (λ (o : Option Reply). unwrap_or o reply.Idle) (ap (λ (s : Side). answer_of low 0 (slice_get s.lanes 0) two_slots) (sym r.1.0) ∙ r.1.1) in absurd (cc))

pub returns-clause-a_head_as_before : goal.returns-clause-a_head_as_before
unfolding number_at dword bits bytes_of_dwords completion bytes_from byte_in reaped
returns-clause-a_head_as_before c i = (let bad : ◌≡◌ {A = ℕ} 0 1 = ap (λ (w : World). head_of w.lanes) (i (world_of (one_lane (reading 0 true)) two_slots) (reading 0 true) (record { host = refl; lanes = refl; controllers = refl; tails = refl }) refl) in absurd (omega arith))

pub returns-clause-a_tag_as_before : goal.returns-clause-a_tag_as_before
unfolding number_at dword bits bytes_of_dwords completion bytes_from byte_in reaped
returns-clause-a_tag_as_before c i = (let bad : ◌≡◌ {A = Bool} true false = ap (λ (w : World). is_flying (tag_of w 0 1)) (i (world_of (one_lane (reading 0 true)) two_slots) (reading 0 true) (record { host = refl; lanes = refl; controllers = refl; tails = refl }) refl) in absurd (cc))

pub returns-clause-one_left : goal.returns-clause-one_left
unfolding number_at dword bits bytes_of_dwords completion bytes_from byte_in reaped
returns-clause-one_left c d = d.last refl

pub returns-clause-none_left : goal.returns-clause-none_left
unfolding number_at dword bits bytes_of_dwords completion bytes_from byte_in reaped
returns-clause-none_left c = record { count = 0; reads = refl; last = (λ e. (let bad : ◌≡◌ {A = Reply} reply.Idle reply.Done = ap (λ (o : Option Reply). unwrap_or o reply.Idle) e in absurd (cc))) }

pub returns-clause-the_whole : goal.returns-clause-the_whole
unfolding number_at dword bits bytes_of_dwords completion bytes_from byte_in reaped
returns-clause-the_whole c geometry lane memory old new o = (o.read, o.drained, o.each)
