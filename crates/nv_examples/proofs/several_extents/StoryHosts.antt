-- The host along the whole log, written out piece by piece: what each piece does to it, as changes
use Rattle.std.proofs.Common.{◌≡◌, ℕ, true, List, [], ◌∷◌, ◌++◌, replicate, take, drop, refl}
use Rattle.nv_entry.specs.Status.{StatusField}
use Rattle.nv_entry.specs.StatusCode.{done_with}
use Rattle.nv_entry.specs.declared.status_code.StatusCode.TheVariants.{Success}
use Rattle.nv_model.specs.Rows.{block_range}
use Rattle.nv_world_model.specs.Log.{events_of}
use Rattle.nv_world_model.specs.World.{World, with_host}
use Rattle.nv_world_model.specs.declared.event.Event.{Event}
use Rattle.nv_examples.specs.Guests.{create_completion_queue, create_submission_queue, flush}
use Rattle.nv_examples.specs.extents.Guests.{deallocate, opened, read_over, set_up}
use Rattle.nv_examples.specs.extents.Guests.{write_all, write_zeroes_over}
use Rattle.nv_examples.specs.extents.Story.{story}
use Rattle.nv_examples.specs.extents.WrongWorlds.{unrecovered}
use Rattle.nv_examples.proofs.Changes.{Area, AreaSpread, Change, Direct, OtherSame, OtherStore, OwnSame, OwnSpread, OwnStore, all_changed}
use Rattle.nv_examples.proofs.Changes.{all_spans, changed, laid}
use Rattle.nv_entry.specs.Layout.{number_at, dword, qword, bits, bytes_of_dwords}
use Rattle.nv_entry.specs.Completion.{completion}
use Rattle.nv_mem.specs.GuestMap.{everywhere}
use Rattle.nv_mem.specs.Places.{addresses}
use Rattle.nv_model.specs.Memory.{bytes_from, gathered, image, put_image, scattered, stored}
use Rattle.nv_model.specs.Dialogue.{in_memory, and_then, asked}
use Rattle.nv_model.specs.Transcript.{first_read, in_transcript}
use Rattle.nv_model.specs.Sgl.{read_array, read_sgl}
use Rattle.nv_model.specs.Prp.{read_entries}
use Rattle.nv_model.specs.Judge.{read_source, ranges_in, move_units, clear_units, range_units, judge}
use Rattle.nv_model.specs.Carried.{units_moved}
use Rattle.nv_model.specs.Controller.{opening, register, reg_write, doorbell, front, took, post, ran_out}
use Rattle.nv_model.specs.Private.{differs, start, step as private_step, run_of}
use Rattle.nv_model.specs.Footprint.{footprints, completion_slots, stores_into, loads_from_destination}
use Rattle.nv_model.specs.Admin.{admin_command, admin}
use Rattle.nv_prp.specs.Fits.{hosts_of, fit_behind}
use Rattle.nv_prp.specs.Built.{built}
use Rattle.nv_world_model.specs.Plan.{plan_over}
use Rattle.nv_world_model.specs.Area.{physical_entry}
use Rattle.nv_world_model.specs.Device.{held_of, device_unit, completion_written}
use Rattle.nv_world_model.specs.ShareArea.{share_written}
use Rattle.nv_world_model.specs.World.{claimed, group, opening_world, with_tags}
use Rattle.nv_world_model.specs.Seat.{members, put_back, rest_at, rests_of, seat, units_behind}
use Rattle.nv_world_model.specs.Step.{acted_in, administered_in, delivered_all, device_moved, device_posted, device_took, handed_on, kept_block, listed}
use Rattle.nv_world_model.specs.Step.{posted_to, ran_out_of, reaped, replay, replies, scattered_to, statuses_of, step, submitted, taken_to}
use Rattle.nv_world_model.specs.Headline.{none_failed}
use Rattle.nv_world_model.specs.Disciplined.{is_disciplined, taken_entries}
use Rattle.nv_world_model.specs.PrivateSteps.{private_steps, seen_by}
use Rattle.nv_examples.specs.Logs.{logged}

-- ---- words

abbrev pub ok : StatusField
ok = done_with Success

-- a physical entry that names no list
abbrev entry_for : (opcode tag prp1 : ℕ) → List ℕ → List ℕ
entry_for opcode tag prp1 dwords = physical_entry opcode tag (record { prp1 = prp1; prp2 = 0; list = replicate 32 0; used = 0 }) dwords

-- the bytes of both blocks at the join, as they were written
abbrev pub block_1 : List ℕ
block_1 = 7 ∷ 8 ∷ 9 ∷ replicate 509 0

abbrev pub block_2 : List ℕ
block_2 = 5 ∷ 6 ∷ replicate 510 0

-- so many events of the log, behind so many
abbrev pub part : (from count : ℕ) → List Event
part from count = take count (drop from (events_of story))

-- the world behind some events, its host being laid out by these changes
unfoldable pub behind : List Event → List Change → World → World
behind events cs w = with_host (laid (all_spans cs) w.host) (replay set_up events w)

-- ---- piece 1

abbrev pub changes_1 : List Change
changes_1 =
    OwnStore 0x0000 (create_completion_queue 4)
    ∷ OwnStore 0x0040 (create_submission_queue 8)
    ∷ OwnSame
    ∷ OwnSame
    ∷ OwnSame ∷ []

unfoldable pub world_1 : World
world_1 = behind (part 0 5) changes_1 opened

pub host_1 : (replay set_up (part 0 5) opened).host ≡ all_changed changes_1 opened.host
unfolding number_at dword qword bits bytes_of_dwords completion everywhere addresses bytes_from gathered image put_image scattered stored in_memory
    and_then asked first_read in_transcript read_array read_sgl read_entries read_source ranges_in move_units clear_units range_units judge
    units_moved opening register reg_write doorbell front took post ran_out differs start private_step run_of footprints completion_slots stores_into
    loads_from_destination admin_command admin hosts_of fit_behind built plan_over physical_entry held_of device_unit completion_written share_written
    claimed group opening_world with_tags members put_back rest_at rests_of seat units_behind acted_in administered_in delivered_all device_moved
    device_posted device_took handed_on kept_block listed posted_to ran_out_of reaped replay replies scattered_to statuses_of step submitted taken_to
    none_failed is_disciplined taken_entries private_steps seen_by logged all_changed changed laid behind
host_1 = refl

-- ---- piece 2

abbrev pub changes_2 : List Change
changes_2 =
    OwnSame
    ∷ OwnStore 0x1000 (completion 0 1 0 1 true ok)
    ∷ OwnStore 0x1010 (completion 0 2 0 2 true ok)
    ∷ OtherStore 0x0000 (create_completion_queue 2)
    ∷ OtherStore 0x0040 (create_submission_queue 4) ∷ []

unfoldable pub world_2 : World
world_2 = behind (part 5 5) changes_2 world_1

pub host_2 : (replay set_up (part 5 5) world_1).host ≡ all_changed changes_2 world_1.host
unfolding number_at dword qword bits bytes_of_dwords completion everywhere addresses bytes_from gathered image put_image scattered stored in_memory
    and_then asked first_read in_transcript read_array read_sgl read_entries read_source ranges_in move_units clear_units range_units judge
    units_moved opening register reg_write doorbell front took post ran_out differs start private_step run_of footprints completion_slots stores_into
    loads_from_destination admin_command admin hosts_of fit_behind built plan_over physical_entry held_of device_unit completion_written share_written
    claimed group opening_world with_tags members put_back rest_at rests_of seat units_behind acted_in administered_in delivered_all device_moved
    device_posted device_took handed_on kept_block listed posted_to ran_out_of reaped replay replies scattered_to statuses_of step submitted taken_to
    none_failed is_disciplined taken_entries private_steps seen_by logged all_changed changed laid behind world_1
host_2 = refl

-- ---- piece 3

abbrev pub changes_3 : List Change
changes_3 =
    OtherSame
    ∷ OtherSame
    ∷ OtherSame
    ∷ OtherSame
    ∷ OtherStore 0x1000 (completion 0 1 0 1 true ok) ∷ []

unfoldable pub world_3 : World
world_3 = behind (part 10 6) changes_3 world_2

pub host_3 : (replay set_up (part 10 6) world_2).host ≡ all_changed changes_3 world_2.host
unfolding number_at dword qword bits bytes_of_dwords completion everywhere addresses bytes_from gathered image put_image scattered stored in_memory
    and_then asked first_read in_transcript read_array read_sgl read_entries read_source ranges_in move_units clear_units range_units judge
    units_moved opening register reg_write doorbell front took post ran_out differs start private_step run_of footprints completion_slots stores_into
    loads_from_destination admin_command admin hosts_of fit_behind built plan_over physical_entry held_of device_unit completion_written share_written
    claimed group opening_world with_tags members put_back rest_at rests_of seat units_behind acted_in administered_in delivered_all device_moved
    device_posted device_took handed_on kept_block listed posted_to ran_out_of reaped replay replies scattered_to statuses_of step submitted taken_to
    none_failed is_disciplined taken_entries private_steps seen_by logged all_changed changed laid behind world_1 world_2
host_3 = refl

-- ---- piece 4

abbrev pub changes_4 : List Change
changes_4 =
    OtherStore 0x1010 (completion 0 2 0 2 true ok)
    ∷ OwnStore 0x0800 (1 ∷ 2 ∷ [])
    ∷ OwnStore 0x0a00 (7 ∷ 8 ∷ 9 ∷ [])
    ∷ OwnStore 0x0c00 (5 ∷ 6 ∷ [])
    ∷ OwnStore 0x0e00 (4 ∷ []) ∷ []

unfoldable pub world_4 : World
world_4 = behind (part 16 5) changes_4 world_3

pub host_4 : (replay set_up (part 16 5) world_3).host ≡ all_changed changes_4 world_3.host
unfolding number_at dword qword bits bytes_of_dwords completion everywhere addresses bytes_from gathered image put_image scattered stored in_memory
    and_then asked first_read in_transcript read_array read_sgl read_entries read_source ranges_in move_units clear_units range_units judge
    units_moved opening register reg_write doorbell front took post ran_out differs start private_step run_of footprints completion_slots stores_into
    loads_from_destination admin_command admin hosts_of fit_behind built plan_over physical_entry held_of device_unit completion_written share_written
    claimed group opening_world with_tags members put_back rest_at rests_of seat units_behind acted_in administered_in delivered_all device_moved
    device_posted device_took handed_on kept_block listed posted_to ran_out_of reaped replay replies scattered_to statuses_of step submitted taken_to
    none_failed is_disciplined taken_entries private_steps seen_by logged all_changed changed laid behind world_1 world_2 world_3
host_4 = refl

-- ---- piece 5

abbrev pub changes_5 : List Change
changes_5 =
    OwnStore 0x3000 (write_all 3 0x0800)
    ∷ OwnSame
    ∷ OtherSame
    ∷ OtherStore 0x3000 (write_zeroes_over 4) ∷ []

unfoldable pub world_5 : World
world_5 = behind (part 21 7) changes_5 world_4

pub host_5 : (replay set_up (part 21 7) world_4).host ≡ all_changed changes_5 world_4.host
unfolding number_at dword qword bits bytes_of_dwords completion everywhere addresses bytes_from gathered image put_image scattered stored in_memory
    and_then asked first_read in_transcript read_array read_sgl read_entries read_source ranges_in move_units clear_units range_units judge
    units_moved opening register reg_write doorbell front took post ran_out differs start private_step run_of footprints completion_slots stores_into
    loads_from_destination admin_command admin hosts_of fit_behind built plan_over physical_entry held_of device_unit completion_written share_written
    claimed group opening_world with_tags members put_back rest_at rests_of seat units_behind acted_in administered_in delivered_all device_moved
    device_posted device_took handed_on kept_block listed posted_to ran_out_of reaped replay replies scattered_to statuses_of step submitted taken_to
    none_failed is_disciplined taken_entries private_steps seen_by logged all_changed changed laid behind world_1 world_2 world_3 world_4
host_5 = refl

-- ---- piece 6

abbrev pub changes_6 : List Change
changes_6 =
    Area 0x33000 []
    ∷ Area 0x34000 []
    ∷ Area 0x30000 (entry_for 0x1 0 0x10800 (2 ∷ 0 ∷ 1 ∷ []))
    ∷ Area 0x54000 []
    ∷ Area 0x55000 []
    ∷ Area 0x30040 (entry_for 0x1 1 0x10c00 (9 ∷ 0 ∷ 1 ∷ []))
    ∷ Area 0x75000 []
    ∷ Area 0x76000 []
    ∷ Area 0x30080 (entry_for 0x8 2 0 (5 ∷ 0 ∷ 0 ∷ []))
    ∷ Area 0x96000 []
    ∷ Area 0x97000 []
    ∷ Area 0x300c0 (entry_for 0x8 3 0 (7 ∷ 0 ∷ 0 ∷ []))
    ∷ Area 0xb7000 []
    ∷ Area 0xb8000 []
    ∷ Area 0x30100 (entry_for 0x8 4 0 (12 ∷ 0 ∷ 0 ∷ []))
    ∷ Area 0x32000 (completion 0 5 1 1 true ok)
    ∷ Area 0x32010 (completion 0 5 1 0 true ok)
    ∷ OwnStore 0x2000 (completion 0 1 1 3 true ok)
    ∷ OwnSame ∷ []

unfoldable pub world_6 : World
world_6 = behind (part 28 25) changes_6 world_5

pub host_6 : (replay set_up (part 28 25) world_5).host ≡ all_changed changes_6 world_5.host
unfolding number_at dword qword bits bytes_of_dwords completion everywhere addresses bytes_from gathered image put_image scattered stored in_memory
    and_then asked first_read in_transcript read_array read_sgl read_entries read_source ranges_in move_units clear_units range_units judge
    units_moved opening register reg_write doorbell front took post ran_out differs start private_step run_of footprints completion_slots stores_into
    loads_from_destination admin_command admin hosts_of fit_behind built plan_over physical_entry held_of device_unit completion_written share_written
    claimed group opening_world with_tags members put_back rest_at rests_of seat units_behind acted_in administered_in delivered_all device_moved
    device_posted device_took handed_on kept_block listed posted_to ran_out_of reaped replay replies scattered_to statuses_of step submitted taken_to
    none_failed is_disciplined taken_entries private_steps seen_by logged all_changed changed laid behind world_1 world_2 world_3 world_4 world_5
host_6 = refl

-- ---- piece 7

abbrev pub changes_7 : List Change
changes_7 =
    Area 0x32020 (completion 0 5 1 3 true unrecovered)
    ∷ Area 0x32030 (completion 0 5 1 2 true ok)
    ∷ Area 0x32040 (completion 0 5 1 4 true ok)
    ∷ OtherStore 0x2000 (completion 0 1 1 4 true unrecovered)
    ∷ OwnStore 0x3040 (read_over 4 0x2400)
    ∷ OwnStore 0x3080 (read_over 5 0x1801)
    ∷ OwnSame ∷ []

unfoldable pub world_7 : World
world_7 = behind (part 53 14) changes_7 world_6

pub host_7 : (replay set_up (part 53 14) world_6).host ≡ all_changed changes_7 world_6.host
unfolding number_at dword qword bits bytes_of_dwords completion everywhere addresses bytes_from gathered image put_image scattered stored in_memory
    and_then asked first_read in_transcript read_array read_sgl read_entries read_source ranges_in move_units clear_units range_units judge
    units_moved opening register reg_write doorbell front took post ran_out differs start private_step run_of footprints completion_slots stores_into
    loads_from_destination admin_command admin hosts_of fit_behind built plan_over physical_entry held_of device_unit completion_written share_written
    claimed group opening_world with_tags members put_back rest_at rests_of seat units_behind acted_in administered_in delivered_all device_moved
    device_posted device_took handed_on kept_block listed posted_to ran_out_of reaped replay replies scattered_to statuses_of step submitted taken_to
    none_failed is_disciplined taken_entries private_steps seen_by logged all_changed changed laid behind world_1 world_2 world_3 world_4 world_5
    world_6
host_7 = refl

-- ---- piece 8

abbrev pub changes_8 : List Change
changes_8 =
    Area 0x75000 []
    ∷ Area 0x76000 []
    ∷ Area 0x30140 (entry_for 0x2 2 0x76000 (3 ∷ 0 ∷ 0 ∷ []))
    ∷ Area 0x96000 []
    ∷ Area 0x97000 []
    ∷ Area 0x30180 (entry_for 0x2 3 0x97000 (9 ∷ 0 ∷ 0 ∷ []))
    ∷ Area 0x33000 []
    ∷ Area 0x34000 []
    ∷ Area 0x301c0 (entry_for 0x2 0 0x12400 (3 ∷ 0 ∷ 0 ∷ []))
    ∷ Area 0x54000 []
    ∷ Area 0x55000 []
    ∷ Area 0x30200 (entry_for 0x2 1 0x12600 (9 ∷ 0 ∷ 0 ∷ []))
    ∷ AreaSpread 0x97000 block_2
    ∷ Direct 0x2600 block_2
    ∷ AreaSpread 0x76000 block_1
    ∷ Direct 0x2400 block_1 ∷ []

unfoldable pub world_8 : World
world_8 = behind (part 67 12) changes_8 world_7

pub host_8 : (replay set_up (part 67 12) world_7).host ≡ all_changed changes_8 world_7.host
unfolding number_at dword qword bits bytes_of_dwords completion everywhere addresses bytes_from gathered image put_image scattered stored in_memory
    and_then asked first_read in_transcript read_array read_sgl read_entries read_source ranges_in move_units clear_units range_units judge
    units_moved opening register reg_write doorbell front took post ran_out differs start private_step run_of footprints completion_slots stores_into
    loads_from_destination admin_command admin hosts_of fit_behind built plan_over physical_entry held_of device_unit completion_written share_written
    claimed group opening_world with_tags members put_back rest_at rests_of seat units_behind acted_in administered_in delivered_all device_moved
    device_posted device_took handed_on kept_block listed posted_to ran_out_of reaped replay replies scattered_to statuses_of step submitted taken_to
    none_failed is_disciplined taken_entries private_steps seen_by logged all_changed changed laid behind world_1 world_2 world_3 world_4 world_5
    world_6 world_7
host_8 = refl

-- ---- piece 9

abbrev pub changes_9 : List Change
changes_9 =
    Area 0x32050 (completion 0 9 1 3 true ok)
    ∷ Area 0x32060 (completion 0 9 1 1 true ok)
    ∷ Area 0x32070 (completion 0 9 1 2 true ok)
    ∷ OwnSpread 0x1801 block_1
    ∷ OwnSpread 0x1a01 block_2
    ∷ OwnStore 0x2010 (completion 0 3 1 5 true ok)
    ∷ Area 0x32080 (completion 0 9 1 0 true ok)
    ∷ OwnStore 0x2020 (completion 0 3 1 4 true ok) ∷ []

unfoldable pub world_9 : World
world_9 = behind (part 79 15) changes_9 world_8

pub host_9 : (replay set_up (part 79 15) world_8).host ≡ all_changed changes_9 world_8.host
unfolding number_at dword qword bits bytes_of_dwords completion everywhere addresses bytes_from gathered image put_image scattered stored in_memory
    and_then asked first_read in_transcript read_array read_sgl read_entries read_source ranges_in move_units clear_units range_units judge
    units_moved opening register reg_write doorbell front took post ran_out differs start private_step run_of footprints completion_slots stores_into
    loads_from_destination admin_command admin hosts_of fit_behind built plan_over physical_entry held_of device_unit completion_written share_written
    claimed group opening_world with_tags members put_back rest_at rests_of seat units_behind acted_in administered_in delivered_all device_moved
    device_posted device_took handed_on kept_block listed posted_to ran_out_of reaped replay replies scattered_to statuses_of step submitted taken_to
    none_failed is_disciplined taken_entries private_steps seen_by logged all_changed changed laid behind world_1 world_2 world_3 world_4 world_5
    world_6 world_7 world_8
host_9 = refl

-- ---- piece 10

abbrev pub changes_10 : List Change
changes_10 =
    OwnSame
    ∷ OwnStore 0x3800 (block_range 1 2 ++ block_range 3 0)
    ∷ OwnStore 0x30c0 (deallocate 6 0x3800)
    ∷ OwnSame ∷ []

unfoldable pub world_10 : World
world_10 = behind (part 94 7) changes_10 world_9

pub host_10 : (replay set_up (part 94 7) world_9).host ≡ all_changed changes_10 world_9.host
unfolding number_at dword qword bits bytes_of_dwords completion everywhere addresses bytes_from gathered image put_image scattered stored in_memory
    and_then asked first_read in_transcript read_array read_sgl read_entries read_source ranges_in move_units clear_units range_units judge
    units_moved opening register reg_write doorbell front took post ran_out differs start private_step run_of footprints completion_slots stores_into
    loads_from_destination admin_command admin hosts_of fit_behind built plan_over physical_entry held_of device_unit completion_written share_written
    claimed group opening_world with_tags members put_back rest_at rests_of seat units_behind acted_in administered_in delivered_all device_moved
    device_posted device_took handed_on kept_block listed posted_to ran_out_of reaped replay replies scattered_to statuses_of step submitted taken_to
    none_failed is_disciplined taken_entries private_steps seen_by logged all_changed changed laid behind world_1 world_2 world_3 world_4 world_5
    world_6 world_7 world_8 world_9
host_10 = refl

-- ---- piece 11

abbrev pub changes_11 : List Change
changes_11 =
    Area 0x33000 []
    ∷ Area 0x34000 (block_range 3 1 ++ block_range 5 0)
    ∷ Area 0x30240 (entry_for 0x9 0 0x34000 (1 ∷ 4 ∷ 0 ∷ []))
    ∷ Area 0x54000 []
    ∷ Area 0x55000 (block_range 9 1)
    ∷ Area 0x30280 (entry_for 0x9 1 0x55000 (0 ∷ 4 ∷ 0 ∷ []))
    ∷ OtherStore 0x3040 (flush 5)
    ∷ OtherSame
    ∷ Area 0x75000 []
    ∷ Area 0x76000 []
    ∷ Area 0x302c0 (entry_for 0x0 2 0 (0 ∷ 0 ∷ 0 ∷ []))
    ∷ Area 0x32090 (completion 0 12 1 1 true ok)
    ∷ Area 0x320a0 (completion 0 12 1 0 true ok)
    ∷ OwnStore 0x2030 (completion 0 4 1 6 true ok) ∷ []

unfoldable pub world_11 : World
world_11 = behind (part 101 22) changes_11 world_10

pub host_11 : (replay set_up (part 101 22) world_10).host ≡ all_changed changes_11 world_10.host
unfolding number_at dword qword bits bytes_of_dwords completion everywhere addresses bytes_from gathered image put_image scattered stored in_memory
    and_then asked first_read in_transcript read_array read_sgl read_entries read_source ranges_in move_units clear_units range_units judge
    units_moved opening register reg_write doorbell front took post ran_out differs start private_step run_of footprints completion_slots stores_into
    loads_from_destination admin_command admin hosts_of fit_behind built plan_over physical_entry held_of device_unit completion_written share_written
    claimed group opening_world with_tags members put_back rest_at rests_of seat units_behind acted_in administered_in delivered_all device_moved
    device_posted device_took handed_on kept_block listed posted_to ran_out_of reaped replay replies scattered_to statuses_of step submitted taken_to
    none_failed is_disciplined taken_entries private_steps seen_by logged all_changed changed laid behind world_1 world_2 world_3 world_4 world_5
    world_6 world_7 world_8 world_9 world_10
host_11 = refl
