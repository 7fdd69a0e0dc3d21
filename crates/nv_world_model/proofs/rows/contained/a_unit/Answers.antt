use Rattle.std.proofs.Common.{◌≡◌, ℕ, refl, ap}
use Rattle.nv_entry.specs.Layout.{number_at, dword, qword, bits, bytes_of_dwords}
use Rattle.nv_entry.specs.Completion.{completion}
use Rattle.nv_mem.specs.GuestMap.{everywhere}
use Rattle.nv_mem.specs.Places.{addresses}
use Rattle.nv_model.specs.Memory.{bytes_from, gathered, image, put_image, scattered, stored}
use Rattle.nv_model.specs.Dialogue.{in_memory, and_then}
use Rattle.nv_model.specs.Transcript.{first_read, in_transcript}
use Rattle.nv_model.specs.Sgl.{read_array, read_sgl}
use Rattle.nv_model.specs.Prp.{read_entries}
use Rattle.nv_model.specs.Judge.{read_source, ranges_in, move_units, clear_units, range_units, judge}
use Rattle.nv_model.specs.Carried.{units_moved}
use Rattle.nv_model.specs.Controller.{opening, register, reg_write, doorbell, front, took, post, ran_out}
use Rattle.nv_model.specs.Private.{differs}
use Rattle.nv_prp.specs.Fits.{hosts_of, fit_behind}
use Rattle.nv_prp.specs.Built.{built}
use Rattle.nv_world_model.specs.Plan.{plan_over}
use Rattle.nv_world_model.specs.Area.{physical_entry}
use Rattle.nv_world_model.specs.Device.{held_of, device_unit, completion_written}
use Rattle.nv_world_model.specs.ShareArea.{share_written}
use Rattle.nv_world_model.specs.World.{with_tags, group, claimed}
use Rattle.nv_world_model.specs.Seat.{units_behind, rest_at, rests_of, members, seat, put_back}
use Rattle.nv_world_model.specs.Step.{acted_in, administered_in, taken_to, listed, submitted, handed_on, device_took, device_moved}
use Rattle.nv_world_model.specs.Step.{device_posted, kept_block, reaped, scattered_to, delivered_all, posted_to, ran_out_of, statuses_of}
use Rattle.nv_world_model.specs.Step.{step, replay, replies}
use Rattle.nv_model.specs.Admin.{admin_command, admin}
use Rattle.nv_world_model.specs.CutDown.{cut}
use Rattle.nv_world_model.specs.View.{IsSameView, IsAlike, shown, shared_numbers}
use Rattle.nv_world_model.specs.Contained.{guest_standing}
use Rattle.nv_world_model.specs.declared.event.Event.TheVariants as event
use Rattle.nv_world_model.specs.World.{World}
use Rattle.nv_world_model.specs.RowsSmall.{small, small_handed_on, small_first, small_second, held_second}
use Rattle.nv_world_model.specs.Step.{After}
use Rattle.nv_world_model.proofs.SmallWorld.{each_tag, each_block, image-cut, leaves-first, own-first, block-outside, nowhere, first_at, second_at}
use Rattle.nv_world_model.proofs.rows.contained.a_unit.Goals as goal

-- the world before the event and behind it, and the same of the world cut down to the first guest
abbrev done : World → After
done w = step small (event.DevMove 0 1 0) w

abbrev before : World
before = small_handed_on held_second

abbrev behind : World
behind = (done before).world

abbrev cut_before : World
cut_before = cut 0 small_first small before

abbrev cut_behind : World
cut_behind = (done cut_before).world

-- the other guest's view
second_view : IsSameView 1 small_second small before behind
unfolding number_at dword qword bits bytes_of_dwords completion everywhere addresses bytes_from stored gathered scattered image in_memory and_then
    first_read in_transcript read_array read_sgl read_entries read_source ranges_in move_units clear_units range_units judge units_moved opening register
    reg_write doorbell front took post ran_out differs hosts_of fit_behind built plan_over physical_entry held_of device_unit completion_written
    share_written with_tags group claimed put_image units_behind rest_at rests_of members seat put_back acted_in administered_in taken_to listed submitted
    handed_on device_took device_moved device_posted kept_block reaped scattered_to delivered_all posted_to ran_out_of statuses_of step replay replies
    admin_command admin cut shown shared_numbers guest_standing
second_view =
    record {
      memory = (λ addr. refl);
      blocks = (λ lba offset. each_block (λ at. before.disk (second_at at) offset ≡ behind.disk (second_at at) offset) refl refl lba);
      controller = refl;
      tags = each_tag _ refl refl (λ t. refl) (λ l t. refl);
      held = each_tag _ refl refl (λ t. refl) (λ l t. refl);
      area = (λ addr h. refl);
    }

-- the same is done in the world cut down
own_alike : IsAlike 0 small_first small behind cut_behind
unfolding number_at dword qword bits bytes_of_dwords completion everywhere addresses bytes_from stored gathered scattered image in_memory and_then
    first_read in_transcript read_array read_sgl read_entries read_source ranges_in move_units clear_units range_units judge units_moved opening register
    reg_write doorbell front took post ran_out differs hosts_of fit_behind built plan_over physical_entry held_of device_unit completion_written
    share_written with_tags group claimed put_image units_behind rest_at rests_of members seat put_back acted_in administered_in taken_to listed submitted
    handed_on device_took device_moved device_posted kept_block reaped scattered_to delivered_all posted_to ran_out_of statuses_of step replay replies
    admin_command admin cut shown shared_numbers guest_standing
own_alike =
    record {
      view =
          record {
            memory = (λ addr. ap (λ (m : ℕ → ℕ). m addr) (image-cut 0 0x1000 2 before));
            blocks = (λ lba offset. each_block (λ at. behind.disk (first_at at) offset ≡ cut_behind.disk (first_at at) offset) refl refl lba);
            controller = refl;
            tags = each_tag _ refl refl (λ t. refl) (λ l t. refl);
            held = each_tag _ refl refl (λ t. refl) (λ l t. refl);
            area = (λ addr h. absurd (nowhere 0x34000 addr h));
          };
      marks = (λ lba. each_block (λ at. behind.kept (first_at at) ≡ cut_behind.kept (first_at at)) refl refl lba);
      shared = refl;
    }

pub returns : goal.returns
unfolding number_at dword qword bits bytes_of_dwords completion everywhere addresses bytes_from stored gathered scattered image in_memory and_then
    first_read in_transcript read_array read_sgl read_entries read_source ranges_in move_units clear_units range_units judge units_moved opening register
    reg_write doorbell front took post ran_out differs hosts_of fit_behind built plan_over physical_entry held_of device_unit completion_written
    share_written with_tags group claimed put_image units_behind rest_at rests_of members seat put_back acted_in administered_in taken_to listed submitted
    handed_on device_took device_moved device_posted kept_block reaped scattered_to delivered_all posted_to ran_out_of statuses_of step replay replies
    admin_command admin cut shown shared_numbers guest_standing
returns c =
    record {
      others = leaves-first before behind second_view (λ at out away. refl) (λ at offset out. rw (block-outside at out) refl) (λ at out is. rw (block-outside at out) is);
      own = own-first done before (record { reply = refl; alike = own_alike });
      keep = (λ block is. absurd (cc));
      dull = (λ is. absurd (cc));
    }
