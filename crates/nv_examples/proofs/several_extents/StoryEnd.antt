-- Where the whole log ends: the guest's memory in the world, byte by byte, is its private controller's
use Rattle.std.proofs.Common.{◌≡◌, ℕ, length, ◌<◌, true, List, [], ◌∷◌, ◌++◌, flat_map, refl, arith, ap, sym, ◌∙◌, Option, Some, None}
use Rattle.nv_mem.specs.GuestMap.{host_of}
use Rattle.nv_model.specs.Memory.{byte_at_host}
use Rattle.nv_model.specs.Rows.{block_range}
use Rattle.nv_model.proofs.MemoryLemmas.{scattered-addresses}
use Rattle.nv_entry.specs.Layout.{number_at, dword, qword, bits, bytes_of_dwords}
use Rattle.nv_entry.specs.Completion.{completion}
use Rattle.nv_mem.specs.GuestMap.{everywhere}
use Rattle.nv_mem.specs.Places.{addresses}
use Rattle.nv_model.specs.Memory.{bytes_from, gathered, image, put_image, scattered, stored}
use Rattle.nv_model.specs.Dialogue.{in_memory, and_then, asked}
use Rattle.nv_model.specs.Transcript.{first_read, in_transcript}
use Rattle.nv_model.specs.Sgl.{read_array, read_sgl}
use Rattle.nv_model.specs.Prp.{read_entries}
use Rattle.nv_model.specs.Judge.{read_source, ranges_in, move_units, clear_units, range_units, judge}
use Rattle.nv_model.specs.Carried.{units_moved}
use Rattle.nv_model.specs.Controller.{opening, register, reg_write, doorbell, front, took, post, ran_out}
use Rattle.nv_model.specs.Private.{differs, start, step as private_step, run_of}
use Rattle.nv_model.specs.Footprint.{footprints, completion_slots, stores_into, loads_from_destination}
use Rattle.nv_model.specs.Admin.{admin_command, admin}
use Rattle.nv_prp.specs.Fits.{hosts_of, fit_behind}
use Rattle.nv_prp.specs.Built.{built}
use Rattle.nv_world_model.specs.Plan.{plan_over}
use Rattle.nv_world_model.specs.Area.{physical_entry}
use Rattle.nv_world_model.specs.Device.{held_of, device_unit, completion_written}
use Rattle.nv_world_model.specs.ShareArea.{share_written}
use Rattle.nv_world_model.specs.World.{claimed, group, opening_world, with_tags}
use Rattle.nv_world_model.specs.Seat.{members, put_back, rest_at, rests_of, seat, units_behind}
use Rattle.nv_world_model.specs.Step.{acted_in, administered_in, delivered_all, device_moved, device_posted, device_took, handed_on, kept_block, listed}
use Rattle.nv_world_model.specs.Step.{posted_to, ran_out_of, reaped, replay, replies, scattered_to, statuses_of, step, submitted, taken_to}
use Rattle.nv_world_model.specs.Headline.{none_failed}
use Rattle.nv_world_model.specs.Disciplined.{is_disciplined, taken_entries}
use Rattle.nv_world_model.specs.PrivateSteps.{private_steps, seen_by}
use Rattle.nv_examples.specs.Logs.{logged}
use Rattle.nv_world_model.specs.Geometry.{regions_of}
use Rattle.nv_world_model.specs.Log.{events_of}
use Rattle.nv_world_model.specs.World.{World}
use Rattle.nv_world_model.specs.declared.event.Event.{Event}
use Rattle.nv_examples.specs.Guests.{create_completion_queue, create_submission_queue}
use Rattle.nv_examples.specs.extents.Guests.{deallocate, first, opened, read_over, set_up, write_all}
use Rattle.nv_examples.specs.extents.Story.{story}
use Rattle.nv_examples.specs.extents.StoryRun.{story_end, story_private}
use Rattle.nv_examples.proofs.Changes.{Change, all_spans, laid}
use Rattle.nv_examples.proofs.Laid.{all-laid-spans, all_laid, all_placed, further, image-laid, own_spans, replay-laid, stored-swap}
use Rattle.nv_examples.proofs.several_extents.StoryHosts.{behind, block_1, block_2, ok, part}
use Rattle.nv_examples.proofs.several_extents.StoryHosts.{changes_1, changes_2, changes_3, changes_4, changes_5, changes_6, changes_7, changes_8, changes_9, changes_10, changes_11}
use Rattle.nv_examples.proofs.several_extents.StoryHosts.{host_1, host_2, host_3, host_4, host_5, host_6, host_7, host_8, host_9, host_10, host_11}
use Rattle.nv_examples.proofs.several_extents.StoryHosts.{world_1, world_2, world_3, world_4, world_5, world_6, world_7, world_8, world_9, world_10, world_11}

-- ---- the world

tidy_1 : replay set_up (part 0 5) opened ≡ world_1
unfolding behind world_1 completion bytes_of_dwords physical_entry
tidy_1 = replay-laid set_up (part 0 5) changes_1 opened host_1 refl

tidy_2 : replay set_up (part 5 5) world_1 ≡ world_2
unfolding behind world_2 completion bytes_of_dwords physical_entry
tidy_2 = replay-laid set_up (part 5 5) changes_2 world_1 host_2 refl

tidy_3 : replay set_up (part 10 6) world_2 ≡ world_3
unfolding behind world_3 completion bytes_of_dwords physical_entry
tidy_3 = replay-laid set_up (part 10 6) changes_3 world_2 host_3 refl

tidy_4 : replay set_up (part 16 5) world_3 ≡ world_4
unfolding behind world_4 completion bytes_of_dwords physical_entry
tidy_4 = replay-laid set_up (part 16 5) changes_4 world_3 host_4 refl

tidy_5 : replay set_up (part 21 7) world_4 ≡ world_5
unfolding behind world_5 completion bytes_of_dwords physical_entry
tidy_5 = replay-laid set_up (part 21 7) changes_5 world_4 host_5 refl

tidy_6 : replay set_up (part 28 25) world_5 ≡ world_6
unfolding behind world_6 completion bytes_of_dwords physical_entry
tidy_6 = replay-laid set_up (part 28 25) changes_6 world_5 host_6 refl

tidy_7 : replay set_up (part 53 14) world_6 ≡ world_7
unfolding behind world_7 completion bytes_of_dwords physical_entry
tidy_7 = replay-laid set_up (part 53 14) changes_7 world_6 host_7 refl

tidy_8 : replay set_up (part 67 12) world_7 ≡ world_8
unfolding behind world_8 completion bytes_of_dwords physical_entry
tidy_8 = replay-laid set_up (part 67 12) changes_8 world_7 host_8 refl

tidy_9 : replay set_up (part 79 15) world_8 ≡ world_9
unfolding behind world_9 completion bytes_of_dwords physical_entry
tidy_9 = replay-laid set_up (part 79 15) changes_9 world_8 host_9 refl

tidy_10 : replay set_up (part 94 7) world_9 ≡ world_10
unfolding behind world_10 completion bytes_of_dwords physical_entry
tidy_10 = replay-laid set_up (part 94 7) changes_10 world_9 host_10 refl

tidy_11 : replay set_up (part 101 22) world_10 ≡ world_11
unfolding behind world_11 completion bytes_of_dwords physical_entry
tidy_11 = replay-laid set_up (part 101 22) changes_11 world_10 host_11 refl

-- what is left of the log behind each piece
abbrev rest_10 : List Event
rest_10 = part 101 22

abbrev rest_9 : List Event
rest_9 = part 94 7 ++ rest_10

abbrev rest_8 : List Event
rest_8 = part 79 15 ++ rest_9

abbrev rest_7 : List Event
rest_7 = part 67 12 ++ rest_8

abbrev rest_6 : List Event
rest_6 = part 53 14 ++ rest_7

abbrev rest_5 : List Event
rest_5 = part 28 25 ++ rest_6

abbrev rest_4 : List Event
rest_4 = part 21 7 ++ rest_5

abbrev rest_3 : List Event
rest_3 = part 16 5 ++ rest_4

abbrev rest_2 : List Event
rest_2 = part 10 6 ++ rest_3

abbrev rest_1 : List Event
rest_1 = part 5 5 ++ rest_2

pieces : events_of story ≡ part 0 5 ++ rest_1
pieces = refl

story-end : story_end ≡ world_11
story-end =
    ap (λ (es : List Event). replay set_up es opened) pieces
    ∙ further set_up (part 0 5) rest_1 opened world_1 world_11 tidy_1
    (further set_up (part 5 5) rest_2 world_1 world_2 world_11 tidy_2
    (further set_up (part 10 6) rest_3 world_2 world_3 world_11 tidy_3
    (further set_up (part 16 5) rest_4 world_3 world_4 world_11 tidy_4
    (further set_up (part 21 7) rest_5 world_4 world_5 world_11 tidy_5
    (further set_up (part 28 25) rest_6 world_5 world_6 world_11 tidy_6
    (further set_up (part 53 14) rest_7 world_6 world_7 world_11 tidy_7
    (further set_up (part 67 12) rest_8 world_7 world_8 world_11 tidy_8
    (further set_up (part 79 15) rest_9 world_8 world_9 world_11 tidy_9
    (further set_up (part 94 7) rest_10 world_9 world_10 world_11 tidy_10
    tidy_11)))))))))

-- all changes, and their runs of bytes
abbrev changes : List (List Change)
changes =
    changes_1 ∷ changes_2 ∷ changes_3 ∷ changes_4 ∷ changes_5 ∷ changes_6 ∷ changes_7 ∷ changes_8 ∷ changes_9 ∷ changes_10 ∷ changes_11 ∷ []

abbrev spans : List (ℕ × List ℕ)
spans = flat_map all_spans changes

-- nothing is stored at the start
abbrev zeros : ℕ → ℕ
zeros addr = 0

host-laid : world_11.host ≡ all_laid changes zeros
unfolding all_laid behind opening_world world_1 world_2 world_3 world_4 world_5 world_6 world_7 world_8 world_9 world_10 world_11
host-laid = refl

image-zeros : (addr : ℕ) → addr < 0x4000 → zeros addr ≡ image (regions_of first) zeros addr
unfolding image
image-zeros addr within = by (host_of_first addr)
  where
    by : (o : Option ℕ) → 0 ≡ byte_at_host zeros o
    by None = refl
    by (Some at) = refl

    host_of_first : ℕ → Option ℕ
    host_of_first at = host_of (regions_of first) at

spans-placed : all_placed spans ≡ true
unfolding completion bytes_of_dwords physical_entry
spans-placed = refl

-- the guest's memory in it
world-memory : (addr : ℕ) → addr < 0x4000 → laid (own_spans spans) zeros addr ≡ image (regions_of first) story_end.host addr
world-memory addr within =
    image-laid spans zeros zeros spans-placed image-zeros addr within
    ∙ ap (λ (h : ℕ → ℕ). image (regions_of first) h addr)
    (sym (ap (λ (w : World). w.host) story-end ∙ host-laid ∙ all-laid-spans changes zeros))

-- ---- the private controller

-- its own runs: up to where the Reads' blocks move, and behind that
abbrev early : List (ℕ × List ℕ)
early =
    (0x0000, create_completion_queue 4) ∷ (0x0040, create_submission_queue 8) ∷ (0x1000, completion 0 1 0 1 true ok)
    ∷ (0x1010, completion 0 2 0 2 true ok) ∷ (0x0800, 1 ∷ 2 ∷ []) ∷ (0x0a00, 7 ∷ 8 ∷ 9 ∷ []) ∷ (0x0c00, 5 ∷ 6 ∷ []) ∷ (0x0e00, 4 ∷ [])
    ∷ (0x3000, write_all 3 0x0800) ∷ (0x2000, completion 0 1 1 3 true ok) ∷ (0x3040, read_over 4 0x2400) ∷ (0x3080, read_over 5 0x1801) ∷ []

abbrev late : List (ℕ × List ℕ)
late =
    (0x2010, completion 0 3 1 5 true ok) ∷ (0x2020, completion 0 3 1 4 true ok) ∷ (0x3800, block_range 1 2 ++ block_range 3 0)
    ∷ (0x30c0, deallocate 6 0x3800) ∷ (0x2030, completion 0 4 1 6 true ok) ∷ []

-- in the world the bounced Read's bytes come behind the direct one's, in the order of its parts
in-world : own_spans spans
    ≡ early ++ (0x2600, block_2) ∷ (0x2400, block_1) ∷ (0x1801, block_1) ∷ (0x1a01, block_2) ∷ late
unfolding own_spans completion number_at dword qword bits bytes_of_dwords physical_entry
in-world = refl

-- in the private controller where its blocks move: a block of it, and one of the direct one, and so once more
abbrev block_read : (addr : ℕ) → List ℕ → (ℕ → ℕ) → ℕ → ℕ
block_read addr bytes m = scattered m (addresses addr (length bytes)) bytes

abbrev both_read : (ℕ → ℕ) → ℕ → ℕ
both_read m = block_read 0x2400 block_1 (block_read 0x1801 block_1 (block_read 0x2600 block_2 (block_read 0x1a01 block_2 m)))

private-memory : story_private.memory ≡ laid late (both_read (laid early zeros))
unfolding number_at dword qword bits bytes_of_dwords completion everywhere addresses bytes_from gathered image put_image scattered stored in_memory
    and_then asked first_read in_transcript read_array read_sgl read_entries read_source ranges_in move_units clear_units range_units judge
    units_moved opening register reg_write doorbell front took post ran_out differs start private_step run_of footprints completion_slots stores_into
    loads_from_destination admin_command admin hosts_of fit_behind built plan_over physical_entry held_of device_unit completion_written share_written
    claimed group opening_world with_tags members put_back rest_at rests_of seat units_behind acted_in administered_in delivered_all device_moved
    device_posted device_took handed_on kept_block listed posted_to ran_out_of reaped replay replies scattered_to statuses_of step submitted taken_to
    none_failed is_disciplined taken_entries private_steps seen_by logged laid
private-memory = refl

-- as runs of bytes, and these as they come in the world
read-stored : (m : ℕ → ℕ) → both_read m ≡ stored (stored (stored (stored m 0x1a01 block_2) 0x2600 block_2) 0x1801 block_1) 0x2400 block_1
read-stored m =
    ap (λ (f : ℕ → ℕ). block_read 0x2400 block_1 (block_read 0x1801 block_1 (block_read 0x2600 block_2 f))) (scattered-addresses m 0x1a01 block_2)
    ∙ ap (λ (f : ℕ → ℕ). block_read 0x2400 block_1 (block_read 0x1801 block_1 f)) (scattered-addresses (stored m 0x1a01 block_2) 0x2600 block_2)
    ∙ ap (block_read 0x2400 block_1) (scattered-addresses (stored (stored m 0x1a01 block_2) 0x2600 block_2) 0x1801 block_1)
    ∙ scattered-addresses (stored (stored (stored m 0x1a01 block_2) 0x2600 block_2) 0x1801 block_1) 0x2400 block_1

read-moved : (m : ℕ → ℕ)
    → stored (stored (stored (stored m 0x1a01 block_2) 0x2600 block_2) 0x1801 block_1) 0x2400 block_1
    ≡ stored (stored (stored (stored m 0x2600 block_2) 0x2400 block_1) 0x1801 block_1) 0x1a01 block_2
read-moved m =
    ap (λ (f : ℕ → ℕ). stored (stored f 0x1801 block_1) 0x2400 block_1) (stored-swap m 0x1a01 block_2 0x2600 block_2 (omega arith))
    ∙ stored-swap (stored (stored m 0x2600 block_2) 0x1a01 block_2) 0x1801 block_1 0x2400 block_1 (omega arith)
    ∙ ap (λ (f : ℕ → ℕ). stored f 0x1801 block_1) (stored-swap (stored m 0x2600 block_2) 0x1a01 block_2 0x2400 block_1 (omega arith))
    ∙ sym (stored-swap (stored (stored m 0x2600 block_2) 0x2400 block_1) 0x1801 block_1 0x1a01 block_2 (omega arith))

private-laid : story_private.memory ≡ laid (own_spans spans) zeros
unfolding laid
private-laid =
    private-memory
    ∙ ap (λ (f : ℕ → ℕ). laid late f) (read-stored (laid early zeros) ∙ read-moved (laid early zeros))
    ∙ sym (ap (λ (ss : List (ℕ × List ℕ)). laid ss zeros) in-world)

-- both memories
pub same-memory : (addr : ℕ) → addr < 0x4000 → story_private.memory addr ≡ image (regions_of first) story_end.host addr
same-memory addr within = ap (λ (m : ℕ → ℕ). m addr) private-laid ∙ world-memory addr within
