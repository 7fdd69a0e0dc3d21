-- Where the whole log ends: the guest's memory in the world, byte by byte, is its private controller's
use Rattle.std.proofs.Common.{◌≡◌, ℕ, length, ◌<◌, true, false, List, [], ◌∷◌, ◌++◌, flat_map, replicate, refl, arith, ap, sym, ◌∙◌, Option, Some, None}
use Rattle.nv_entry.specs.Layout.{number_at, dword, qword, bits, bytes_of_dwords}
use Rattle.nv_entry.specs.Completion.{completion}
use Rattle.nv_mem.specs.GuestMap.{everywhere, host_of}
use Rattle.nv_mem.specs.Places.{addresses}
use Rattle.nv_model.specs.Memory.{byte_at_host, bytes_from, gathered, image, put_image, scattered, stored}
use Rattle.nv_model.specs.Dialogue.{in_memory, and_then, asked}
use Rattle.nv_model.specs.Transcript.{first_read, in_transcript}
use Rattle.nv_model.specs.Sgl.{read_array, read_sgl}
use Rattle.nv_model.specs.Prp.{read_entries}
use Rattle.nv_model.specs.Judge.{read_source, ranges_in, move_units, clear_units, range_units, judge}
use Rattle.nv_model.specs.Carried.{units_moved}
use Rattle.nv_model.specs.Controller.{opening, register, reg_write, doorbell, front, took, post, ran_out}
use Rattle.nv_model.specs.Private.{differs, start, step as private_step, run_of}
use Rattle.nv_model.specs.Footprint.{footprints, completion_slots, stores_into, loads_from_destination}
use Rattle.nv_model.specs.Admin.{admin_command, admin}
use Rattle.nv_prp.specs.Fits.{hosts_of, fit_behind}
use Rattle.nv_prp.specs.Built.{built}
use Rattle.nv_world_model.specs.Plan.{plan_over}
use Rattle.nv_world_model.specs.Area.{physical_entry}
use Rattle.nv_world_model.specs.Device.{held_of, device_unit, completion_written}
use Rattle.nv_world_model.specs.ShareArea.{share_written}
use Rattle.nv_world_model.specs.Seat.{members, put_back, rest_at, rests_of, seat, units_behind}
use Rattle.nv_world_model.specs.Step.{acted_in, administered_in, delivered_all, device_moved, device_posted, device_took, handed_on, kept_block, listed}
use Rattle.nv_world_model.specs.Step.{posted_to, ran_out_of, reaped, replay, replies, scattered_to, statuses_of, step, submitted, taken_to}
use Rattle.nv_world_model.specs.World.{claimed, group, opening_world, with_tags}
use Rattle.nv_world_model.specs.SetUp.{refusal_of}
use Rattle.nv_world_model.specs.Headline.{none_failed}
use Rattle.nv_world_model.specs.Disciplined.{is_disciplined, taken_entries}
use Rattle.nv_world_model.specs.PrivateSteps.{private_steps, seen_by}
use Rattle.nv_examples.specs.Logs.{logged}
use Rattle.nv_entry.specs.Status.{StatusField}
use Rattle.nv_entry.specs.StatusCode.{done_with}
use Rattle.nv_entry.specs.declared.status_code.StatusCode.TheVariants.{Success}
use Rattle.nv_model.proofs.MemoryLemmas.{scattered-addresses}
use Rattle.nv_world_model.specs.Geometry.{regions_of}
use Rattle.nv_world_model.specs.Log.{events_of}
use Rattle.nv_world_model.specs.World.{World}
use Rattle.nv_world_model.specs.declared.event.Event.{Event}
use Rattle.nv_examples.specs.Guests.{create_completion_queue, create_submission_queue, delete_completion_queue, delete_submission_queue, first, flush, opened, read, read_by_prp, set_up, write}
use Rattle.nv_examples.specs.Story.{story}
use Rattle.nv_examples.specs.StoryRun.{story_end, story_private}
use Rattle.nv_examples.proofs.Changes.{Change, all_spans, laid}
use Rattle.nv_examples.proofs.Laid.{all-laid-spans, all_laid, all_placed, further, image-laid, own_spans, replay-laid, stored-swap}
use Rattle.nv_examples.proofs.StoryHosts.{part, behind, changes_1, changes_2, changes_3, changes_4, changes_5, changes_6, changes_7, changes_8, changes_9}
use Rattle.nv_examples.proofs.StoryHosts.{changes_10, changes_11, changes_12, host_1, host_2, host_3, host_4, host_5, host_6, host_7, host_8, host_9, host_10}
use Rattle.nv_examples.proofs.StoryHosts.{host_11, host_12, world_1, world_2, world_3, world_4, world_5, world_6, world_7, world_8, world_9, world_10, world_11}
use Rattle.nv_examples.proofs.StoryHosts.{world_12}

-- ---- the world

tidy_1 : replay set_up.geometry (part 0 6) opened ≡ world_1
unfolding behind world_1 completion bytes_of_dwords physical_entry
tidy_1 = replay-laid set_up.geometry (part 0 6) changes_1 opened host_1 refl

tidy_2 : replay set_up.geometry (part 6 6) world_1 ≡ world_2
unfolding behind world_2 completion bytes_of_dwords physical_entry
tidy_2 = replay-laid set_up.geometry (part 6 6) changes_2 world_1 host_2 refl

tidy_3 : replay set_up.geometry (part 12 9) world_2 ≡ world_3
unfolding behind world_3 completion bytes_of_dwords physical_entry
tidy_3 = replay-laid set_up.geometry (part 12 9) changes_3 world_2 host_3 refl

tidy_4 : replay set_up.geometry (part 21 5) world_3 ≡ world_4
unfolding behind world_4 completion bytes_of_dwords physical_entry
tidy_4 = replay-laid set_up.geometry (part 21 5) changes_4 world_3 host_4 refl

tidy_5 : replay set_up.geometry (part 26 9) world_4 ≡ world_5
unfolding behind world_5 completion bytes_of_dwords physical_entry
tidy_5 = replay-laid set_up.geometry (part 26 9) changes_5 world_4 host_5 refl

tidy_6 : replay set_up.geometry (part 35 12) world_5 ≡ world_6
unfolding behind world_6 completion bytes_of_dwords physical_entry
tidy_6 = replay-laid set_up.geometry (part 35 12) changes_6 world_5 host_6 refl

tidy_7 : replay set_up.geometry (part 47 20) world_6 ≡ world_7
unfolding behind world_7 completion bytes_of_dwords physical_entry
tidy_7 = replay-laid set_up.geometry (part 47 20) changes_7 world_6 host_7 refl

tidy_8 : replay set_up.geometry (part 67 9) world_7 ≡ world_8
unfolding behind world_8 completion bytes_of_dwords physical_entry
tidy_8 = replay-laid set_up.geometry (part 67 9) changes_8 world_7 host_8 refl

tidy_9 : replay set_up.geometry (part 76 19) world_8 ≡ world_9
unfolding behind world_9 completion bytes_of_dwords physical_entry
tidy_9 = replay-laid set_up.geometry (part 76 19) changes_9 world_8 host_9 refl

tidy_10 : replay set_up.geometry (part 95 5) world_9 ≡ world_10
unfolding behind world_10 completion bytes_of_dwords physical_entry
tidy_10 = replay-laid set_up.geometry (part 95 5) changes_10 world_9 host_10 refl

tidy_11 : replay set_up.geometry (part 100 12) world_10 ≡ world_11
unfolding behind world_11 completion bytes_of_dwords physical_entry
tidy_11 = replay-laid set_up.geometry (part 100 12) changes_11 world_10 host_11 refl

tidy_12 : replay set_up.geometry (part 112 7) world_11 ≡ world_12
unfolding behind world_12 completion bytes_of_dwords physical_entry
tidy_12 = replay-laid set_up.geometry (part 112 7) changes_12 world_11 host_12 refl

-- what is left of the log behind each piece
abbrev rest_11 : List Event
rest_11 = part 112 7

abbrev rest_10 : List Event
rest_10 = part 100 12 ++ rest_11

abbrev rest_9 : List Event
rest_9 = part 95 5 ++ rest_10

abbrev rest_8 : List Event
rest_8 = part 76 19 ++ rest_9

abbrev rest_7 : List Event
rest_7 = part 67 9 ++ rest_8

abbrev rest_6 : List Event
rest_6 = part 47 20 ++ rest_7

abbrev rest_5 : List Event
rest_5 = part 35 12 ++ rest_6

abbrev rest_4 : List Event
rest_4 = part 26 9 ++ rest_5

abbrev rest_3 : List Event
rest_3 = part 21 5 ++ rest_4

abbrev rest_2 : List Event
rest_2 = part 12 9 ++ rest_3

abbrev rest_1 : List Event
rest_1 = part 6 6 ++ rest_2

pieces : events_of story ≡ part 0 6 ++ rest_1
pieces = refl

story-end : story_end ≡ world_12
story-end =
    ap (λ (es : List Event). replay set_up.geometry es opened) pieces
    ∙ further set_up.geometry (part 0 6) rest_1 opened world_1 world_12 tidy_1
    (further set_up.geometry (part 6 6) rest_2 world_1 world_2 world_12 tidy_2
    (further set_up.geometry (part 12 9) rest_3 world_2 world_3 world_12 tidy_3
    (further set_up.geometry (part 21 5) rest_4 world_3 world_4 world_12 tidy_4
    (further set_up.geometry (part 26 9) rest_5 world_4 world_5 world_12 tidy_5
    (further set_up.geometry (part 35 12) rest_6 world_5 world_6 world_12 tidy_6
    (further set_up.geometry (part 47 20) rest_7 world_6 world_7 world_12 tidy_7
    (further set_up.geometry (part 67 9) rest_8 world_7 world_8 world_12 tidy_8
    (further set_up.geometry (part 76 19) rest_9 world_8 world_9 world_12 tidy_9
    (further set_up.geometry (part 95 5) rest_10 world_9 world_10 world_12 tidy_10
    (further set_up.geometry (part 100 12) rest_11 world_10 world_11 world_12 tidy_11
    (tidy_12)))))))))))

-- all changes, and their runs of bytes
abbrev changes : List (List Change)
changes = changes_1 ∷ changes_2 ∷ changes_3 ∷ changes_4 ∷ changes_5 ∷ changes_6 ∷ changes_7 ∷ changes_8 ∷ changes_9 ∷ changes_10 ∷ changes_11 ∷ changes_12 ∷ []

abbrev spans : List (ℕ × List ℕ)
spans = flat_map all_spans changes

-- nothing is stored at the start
abbrev zeros : ℕ → ℕ
zeros addr = 0

host-laid : world_12.host ≡ all_laid changes zeros
unfolding all_laid behind opening_world world_1 world_2 world_3 world_4 world_5 world_6 world_7 world_8 world_9 world_10 world_11 world_12
host-laid = refl

image-zeros : (addr : ℕ) → addr < 0x4000 → zeros addr ≡ image (regions_of first) zeros addr
unfolding image
image-zeros addr within = by (host_of_first addr)
  where
    by : (o : Option ℕ) → 0 ≡ byte_at_host zeros o
    by None = refl
    by (Some at) = refl

    host_of_first : ℕ → Option ℕ
    host_of_first at = host_of (regions_of first) at

spans-placed : all_placed spans ≡ true
unfolding completion bytes_of_dwords physical_entry
spans-placed = refl

-- the guest's memory in it
world-memory : (addr : ℕ) → addr < 0x4000 → laid (own_spans spans) zeros addr ≡ image (regions_of first) story_end.host addr
world-memory addr within =
    image-laid spans zeros zeros spans-placed image-zeros addr within
    ∙ ap (λ (h : ℕ → ℕ). image (regions_of first) h addr)
    (sym (ap (λ (w : World). w.host) story-end ∙ host-laid ∙ all-laid-spans changes zeros))

-- ---- the private controller

abbrev ok : StatusField
ok = done_with Success

abbrev block_bytes : List ℕ
block_bytes = 7 ∷ 8 ∷ 9 ∷ replicate 509 0

-- its own runs: up to both Reads' blocks, from there to the third's, and behind it
abbrev early : List (ℕ × List ℕ)
early =
    (0x0000, create_completion_queue 2) ∷ (0x0040, create_submission_queue 4) ∷ (0x1000, completion 0 1 0 1 true ok)
    ∷ (0x1010, completion 0 2 0 2 true ok) ∷ (0x0800, 7 ∷ 8 ∷ 9 ∷ []) ∷ (0x3000, write 3 0 0x0800)
    ∷ (0x2000, completion 0 1 1 3 true ok) ∷ (0x3040, read_by_prp 4 0 0x0a00) ∷ (0x3080, read 5 0 0x0c01) ∷ []

abbrev told : List ℕ
told = completion 0 3 1 4 true ok

abbrev mid : List (ℕ × List ℕ)
mid = (0x2000, completion 0 3 1 5 false ok) ∷ (0x30c0, read 6 0 0x3401) ∷ []

abbrev late : List (ℕ × List ℕ)
late =
    (0x1000, completion 0 1 0 1 true ok) ∷ (0x1010, completion 0 2 0 2 true ok) ∷ (0x3000, flush 7)
    ∷ (0x0080, delete_submission_queue 8) ∷ (0x00c0, delete_completion_queue 9) ∷ (0x2000, completion 0 1 1 7 true ok)
    ∷ (0x1020, completion 0 3 0 8 true ok) ∷ (0x1030, completion 0 4 0 9 true ok) ∷ []

-- in the world the bounced Read's bytes come behind the direct one's and its completion
in-world : own_spans spans ≡ early ++ (0x0a00, block_bytes) ∷ (0x2010, told) ∷ (0x0c01, block_bytes) ∷ mid ++ (0x3401, block_bytes) ∷ late
unfolding own_spans completion number_at dword qword bits bytes_of_dwords physical_entry
in-world = refl

-- in the private controller where its block moves
abbrev read_first : (ℕ → ℕ) → ℕ → ℕ
read_first m =
    stored (scattered (scattered m (addresses 0x0c01 (length block_bytes)) block_bytes) (addresses 0x0a00 (length block_bytes)) block_bytes) 0x2010 told

private-memory : story_private.memory
    ≡ laid late (scattered (laid mid (read_first (laid early zeros))) (addresses 0x3401 (length block_bytes)) block_bytes)
unfolding number_at dword qword bits bytes_of_dwords completion everywhere addresses bytes_from gathered image put_image scattered stored in_memory
    and_then asked first_read in_transcript read_array read_sgl read_entries read_source ranges_in move_units clear_units range_units judge units_moved
    opening register reg_write doorbell front took post ran_out differs start private_step run_of footprints completion_slots stores_into
    loads_from_destination admin_command admin hosts_of fit_behind built plan_over physical_entry held_of device_unit completion_written share_written
    with_tags group claimed units_behind rest_at rests_of members seat put_back acted_in administered_in taken_to listed submitted handed_on device_took
    device_moved device_posted kept_block reaped scattered_to delivered_all posted_to ran_out_of statuses_of step replay replies opening_world refusal_of
    none_failed is_disciplined taken_entries private_steps seen_by logged laid
private-memory = refl

-- the same runs, the bounced Read's in the place that they have in the world
read-last : (m : ℕ → ℕ) → read_first m ≡ stored (stored (stored m 0x0a00 block_bytes) 0x2010 told) 0x0c01 block_bytes
unfolding completion bytes_of_dwords
read-last m =
    ap (λ (f : ℕ → ℕ). stored (scattered f (addresses 0x0a00 (length block_bytes)) block_bytes) 0x2010 told) (scattered-addresses m 0x0c01 block_bytes)
    ∙ ap (λ (f : ℕ → ℕ). stored f 0x2010 told) (scattered-addresses (stored m 0x0c01 block_bytes) 0x0a00 block_bytes)
    ∙ ap (λ (f : ℕ → ℕ). stored f 0x2010 told) (sym (stored-swap m 0x0a00 block_bytes 0x0c01 block_bytes (omega arith)))
    ∙ stored-swap (stored m 0x0a00 block_bytes) 0x0c01 block_bytes 0x2010 told (omega arith)

private-laid : story_private.memory ≡ laid (own_spans spans) zeros
unfolding laid
private-laid =
    private-memory
    ∙ ap (λ (f : ℕ → ℕ). laid late (scattered (laid mid f) (addresses 0x3401 (length block_bytes)) block_bytes)) (read-last (laid early zeros))
    ∙ ap (λ (f : ℕ → ℕ). laid late f) (scattered-addresses (laid mid (stored (stored (stored (laid early zeros) 0x0a00 block_bytes) 0x2010 told) 0x0c01 block_bytes)) 0x3401 block_bytes)
    ∙ sym (ap (λ (ss : List (ℕ × List ℕ)). laid ss zeros) in-world)

-- both memories
pub same-memory : (addr : ℕ) → addr < 0x4000 → story_private.memory addr ≡ image (regions_of first) story_end.host addr
same-memory addr within = ap (λ (m : ℕ → ℕ). m addr) private-laid ∙ world-memory addr within
