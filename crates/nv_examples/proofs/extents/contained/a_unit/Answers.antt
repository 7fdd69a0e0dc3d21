use Rattle.std.proofs.Common.{◌≡◌, ◌≢◌, ℕ, zero, suc, ◌<◌, true, false, ◌==◌, [], ◌∷◌, Some, refl, arith}
use Rattle.std.proofs.lemmas.Bool.Decides.{nat_tests}
use Rattle.nv_entry.specs.Layout.{number_at, dword, qword, bits, bytes_of_dwords}
use Rattle.nv_entry.specs.Completion.{completion}
use Rattle.nv_mem.specs.GuestMap.{everywhere}
use Rattle.nv_mem.specs.Places.{addresses}
use Rattle.nv_model.specs.Memory.{bytes_from, gathered, image, put_image, scattered, stored}
use Rattle.nv_model.specs.Dialogue.{in_memory, and_then}
use Rattle.nv_model.specs.Transcript.{first_read, in_transcript}
use Rattle.nv_model.specs.Sgl.{read_array, read_sgl}
use Rattle.nv_model.specs.Prp.{read_entries}
use Rattle.nv_model.specs.Judge.{read_source, ranges_in, move_units, clear_units, range_units, judge}
use Rattle.nv_model.specs.Carried.{units_moved}
use Rattle.nv_model.specs.Controller.{opening, register, reg_write, doorbell, front, took, post, ran_out}
use Rattle.nv_model.specs.Private.{differs}
use Rattle.nv_prp.specs.Fits.{hosts_of, fit_behind}
use Rattle.nv_prp.specs.Built.{built}
use Rattle.nv_world_model.specs.Plan.{plan_over}
use Rattle.nv_world_model.specs.Area.{physical_entry}
use Rattle.nv_world_model.specs.Device.{held_of, device_unit, completion_written}
use Rattle.nv_world_model.specs.ShareArea.{share_written}
use Rattle.nv_world_model.specs.World.{with_tags, group, claimed}
use Rattle.nv_world_model.specs.Seat.{units_behind, rest_at, rests_of, members, seat, put_back}
use Rattle.nv_world_model.specs.Step.{acted_in, administered_in, taken_to, listed, submitted, handed_on, device_took, device_moved}
use Rattle.nv_world_model.specs.Step.{device_posted, kept_block, reaped, scattered_to, delivered_all, posted_to, ran_out_of, statuses_of}
use Rattle.nv_world_model.specs.Step.{step, replay, replies}
use Rattle.nv_model.specs.Admin.{admin_command, admin}
use Rattle.nv_world_model.specs.CutDown.{cut}
use Rattle.nv_world_model.specs.Contained.{ReadsOwn, guest_standing}
use Rattle.nv_world_model.specs.View.{IsSameView, IsAlike, in_extents, lies_in, shared_numbers, shown}
use Rattle.nv_ns.specs.Extents.{place_in}
use Rattle.nv_mem.specs.GuestMap.{covers_host}
use Rattle.nv_world_model.specs.Step.{After}
use Rattle.nv_world_model.specs.World.{World, opening_world}
use Rattle.nv_world_model.proofs.SmallWorld.{each_of_two, image-agree}
use Rattle.nv_examples.specs.extents.Containing.{both_held}
use Rattle.nv_examples.specs.extents.Events.{moves}
use Rattle.nv_examples.specs.extents.Guests.{first, neighbour, set_up}
use Rattle.nv_examples.specs.extents.WrongWorlds.{right}
use Rattle.nv_examples.proofs.extents.contained.a_unit.Goals as goal

-- ---- cases

-- what holds of each tag of the one lane, and of none, holds of each
each_tag : (P : ℕ → ℕ → Type 0) → P 0 0 → P 0 1 → P 0 2 → ((tag : ℕ) → P 0 (suc (suc (suc tag)))) → ((lane tag : ℕ) → P (suc lane) tag)
    → (lane tag : ℕ) → P lane tag
each_tag P p q r none away zero zero = p
each_tag P p q r none away zero (suc zero) = q
each_tag P p q r none away zero (suc (suc zero)) = r
each_tag P p q r none away zero (suc (suc (suc tag))) = none tag
each_tag P p q r none away (suc lane) tag = away lane tag

-- what holds of each block of the first guest's four, or of the neighbour's five, holds of all
each_of_four : (P : ℕ → Type 0) → P 0 → P 1 → P 2 → P 3 → (lba : ℕ) → lba < 4 → P lba
each_of_four P p q r s zero h = p
each_of_four P p q r s (suc zero) h = q
each_of_four P p q r s (suc (suc zero)) h = r
each_of_four P p q r s (suc (suc (suc zero))) h = s
each_of_four P p q r s (suc (suc (suc (suc lba)))) h = absurd (omega arith)

each_of_five : (P : ℕ → Type 0) → P 0 → P 1 → P 2 → P 3 → P 4 → (lba : ℕ) → lba < 5 → P lba
each_of_five P p q r s t zero h = p
each_of_five P p q r s t (suc zero) h = q
each_of_five P p q r s t (suc (suc zero)) h = r
each_of_five P p q r s t (suc (suc (suc zero))) h = s
each_of_five P p q r s t (suc (suc (suc (suc zero)))) h = t
each_of_five P p q r s t (suc (suc (suc (suc (suc lba))))) h = absurd (omega arith)

-- ---- worlds

-- the world before the event and behind it, and the same of the world cut down to the first guest
abbrev done : World → After
done w = right (moves 1 1) w

abbrev behind : World
behind = (done both_held).world

abbrev cut_before : World
cut_before = cut 0 first set_up both_held

abbrev cut_behind : World
cut_behind = (done cut_before).world

-- the guest's bytes stay in the world cut down to it
host-cut : (w : World) (at : ℕ) → covers_host (record { guest = 0; host = 0x10000; len = 0x4000 }) at ≡ true
    → w.host at ≡ (cut 0 first set_up w).host at
unfolding cut
host-cut w at e = rw e refl

-- the lists of both parts have no bytes
nowhere : (addr : ℕ) → lies_in ((0x33000, 0) ∷ (0x54000, 0) ∷ []) addr ≡ true → ⊥
nowhere addr h = grind (arith, nat_tests, h)

-- a block that isn't the first guest's is not its last one
outside : (at : ℕ) → in_extents first.namespace at ≡ false → (at == 10) ≡ false
outside at e = grind (arith, nat_tests, e)

-- the neighbour's view
its_view : IsSameView 1 neighbour set_up both_held behind
unfolding number_at dword qword bits bytes_of_dwords completion everywhere addresses bytes_from stored gathered scattered image in_memory and_then
    first_read in_transcript read_array read_sgl read_entries read_source ranges_in move_units clear_units range_units judge units_moved opening register
    reg_write doorbell front took post ran_out differs hosts_of fit_behind built plan_over physical_entry held_of device_unit completion_written
    share_written with_tags group claimed put_image units_behind rest_at rests_of members seat put_back acted_in administered_in taken_to listed submitted
    handed_on device_took device_moved device_posted kept_block reaped scattered_to delivered_all posted_to ran_out_of statuses_of step replay replies
    admin_command admin cut shown shared_numbers guest_standing opening_world
its_view =
    record {
      memory = (λ addr. refl);
      blocks = (λ lba offset. each_of_five (λ at. both_held.disk (place_in neighbour.namespace at) offset ≡ behind.disk (place_in neighbour.namespace at) offset) refl refl refl refl refl lba);
      controller = refl;
      tags = each_tag _ refl refl refl (λ t. refl) (λ l t. refl);
      held = each_tag _ refl refl refl (λ t. refl) (λ l t. refl);
      area = (λ addr h. refl);
    }

-- the same is done in the world cut down
own_alike : IsAlike 0 first set_up behind cut_behind
unfolding number_at dword qword bits bytes_of_dwords completion everywhere addresses bytes_from stored gathered scattered image in_memory and_then
    first_read in_transcript read_array read_sgl read_entries read_source ranges_in move_units clear_units range_units judge units_moved opening register
    reg_write doorbell front took post ran_out differs hosts_of fit_behind built plan_over physical_entry held_of device_unit completion_written
    share_written with_tags group claimed put_image units_behind rest_at rests_of members seat put_back acted_in administered_in taken_to listed submitted
    handed_on device_took device_moved device_posted kept_block reaped scattered_to delivered_all posted_to ran_out_of statuses_of step replay replies
    admin_command admin cut shown shared_numbers guest_standing opening_world
own_alike =
    record {
      view =
          record {
            memory = (image-agree (record { guest = 0; host = 0x10000; len = 0x4000 }) both_held.host cut_before.host (host-cut both_held));
            blocks = (λ lba offset. each_of_four (λ at. behind.disk (place_in first.namespace at) offset ≡ cut_behind.disk (place_in first.namespace at) offset) refl refl refl refl lba);
            controller = refl;
            tags = each_tag _ refl refl refl (λ t. refl) (λ l t. refl);
            held = each_tag _ refl refl refl (λ t. refl) (λ l t. refl);
            area = (λ addr h. absurd (nowhere addr h));
          };
      marks = (λ lba. each_of_four (λ at. behind.kept (place_in first.namespace at) ≡ cut_behind.kept (place_in first.namespace at)) refl refl refl refl lba);
      shared = refl;
    }

pub returns-clause-the_blocks : goal.returns-clause-the_blocks
unfolding number_at dword qword bits bytes_of_dwords completion everywhere addresses bytes_from stored gathered scattered image in_memory and_then
    first_read in_transcript read_array read_sgl read_entries read_source ranges_in move_units clear_units range_units judge units_moved opening register
    reg_write doorbell front took post ran_out differs hosts_of fit_behind built plan_over physical_entry held_of device_unit completion_written
    share_written with_tags group claimed put_image units_behind rest_at rests_of members seat put_back acted_in administered_in taken_to listed submitted
    handed_on device_took device_moved device_posted kept_block reaped scattered_to delivered_all posted_to ran_out_of statuses_of step replay replies
    admin_command admin cut shown shared_numbers guest_standing opening_world
returns-clause-the_blocks c = refl

pub returns-clause-the_blocks_behind_it : goal.returns-clause-the_blocks_behind_it
unfolding number_at dword qword bits bytes_of_dwords completion everywhere addresses bytes_from stored gathered scattered image in_memory and_then
    first_read in_transcript read_array read_sgl read_entries read_source ranges_in move_units clear_units range_units judge units_moved opening register
    reg_write doorbell front took post ran_out differs hosts_of fit_behind built plan_over physical_entry held_of device_unit completion_written
    share_written with_tags group claimed put_image units_behind rest_at rests_of members seat put_back acted_in administered_in taken_to listed submitted
    handed_on device_took device_moved device_posted kept_block reaped scattered_to delivered_all posted_to ran_out_of statuses_of step replay replies
    admin_command admin cut shown shared_numbers guest_standing opening_world
returns-clause-the_blocks_behind_it c = refl

pub returns-clause-it_is_contained : goal.returns-clause-it_is_contained
unfolding number_at dword qword bits bytes_of_dwords completion everywhere addresses bytes_from stored gathered scattered image in_memory and_then
    first_read in_transcript read_array read_sgl read_entries read_source ranges_in move_units clear_units range_units judge units_moved opening register
    reg_write doorbell front took post ran_out differs hosts_of fit_behind built plan_over physical_entry held_of device_unit completion_written
    share_written with_tags group claimed put_image units_behind rest_at rests_of members seat put_back acted_in administered_in taken_to listed submitted
    handed_on device_took device_moved device_posted kept_block reaped scattered_to delivered_all posted_to ran_out_of statuses_of step replay replies
    admin_command admin cut shown shared_numbers guest_standing opening_world
returns-clause-it_is_contained c =
    record {
      others =
          record {
            views = each_of_two (λ number guest. Some 0 ≢ Some number → IsSameView number guest set_up both_held behind) first neighbour
                (λ other. absurd (other refl)) (λ other. its_view);
            bytes = (λ at out away. refl);
            blocks = (λ at offset out. rw (outside at out) refl);
            marks = (λ at out is. rw (outside at out) is);
          };
      own = each_of_two (λ number guest. Some 0 ≡ Some number → ReadsOwn done set_up both_held number guest) first neighbour
          (λ is. record { reply = refl; alike = own_alike }) (λ is. absurd (cc));
      keep = (λ block is. absurd (cc));
      dull = (λ is. absurd (cc));
    }
