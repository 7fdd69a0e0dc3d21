-- Worlds whose step is wrong where a command is several physical ones, and logs that show it
use Rattle.std.specs.Prelude.{ℕ, Bool, false, ◌==◌, if◌then◌else◌, List, [], ◌∷◌, ◌++◌, filter, map, Option, Some, None}
use Rattle.std.specs.List.{enumerate_from}
use Rattle.nv_entry.specs.Status.{StatusField}
use Rattle.nv_model.specs.Memory.{bytes_from, stored}
use Rattle.nv_model.specs.Private.{Private, Run, Seen, run_of, start}
use Rattle.nv_model.specs.declared.act.Act.TheVariants as act
use Rattle.nv_model.specs.declared.reply.Reply.{Reply}
use Rattle.nv_model.specs.declared.reply.Reply.TheVariants as reply
use Rattle.nv_world_model.specs.Geometry.{shape_of}
use Rattle.nv_world_model.specs.Headline.{IsPrivateRun}
use Rattle.nv_world_model.specs.PrivateSteps.{seen_by}
use Rattle.nv_world_model.specs.Seat.{owner_of}
use Rattle.nv_world_model.specs.Step.{After, delivered_all, ended_status, for_ended, for_owner, is_done, is_success, post_at, replay, replied, step}
use Rattle.nv_world_model.specs.World.{Command, Ended, Free, Lane, Tag, World, group, tag_of, with_host, with_lane}
use Rattle.nv_world_model.specs.declared.event.Event.{Event}
use Rattle.nv_world_model.specs.declared.event.Event.TheVariants as event
use Rattle.nv_examples.specs.Guests.{other}
use Rattle.nv_examples.specs.Stepping.{Stepping, behind_run, logged_by, replay_by, steps_by}
use Rattle.nv_examples.specs.extents.Events.{begins, ends, loads, moves, part_ends, rings, stores, up}
use Rattle.nv_examples.specs.extents.Guests.{first, opened, read_over, set_up, write_over}
use Rattle.nv_examples.specs.Logs.{logged}

-- ---- the promise, of a world with that step

-- the world's own step
abbrev pub right : Stepping
right e w = step set_up e w

-- the promise of the first guest, of the log of these events
abbrev pub HasPrivateRun : List Event → Type 0
HasPrivateRun events = IsPrivateRun set_up 0 first (logged set_up events opened) opened (replay set_up events opened)

-- ---- what is examined

-- the private controller's run of these events, and where it ends
abbrev pub run_by : Stepping → List Event → Option Run
run_by by events = run_of (shape_of first) (steps_by first by events opened) start

abbrev pub private_by : Stepping → List Event → Private
private_by by events = behind_run (run_by by events)

-- the world where the log of these events ends
abbrev pub world_by : Stepping → List Event → World
world_by by events = replay_by by events opened

-- the bytes that a reply returns
abbrev pub bytes_told : Reply → List ℕ
bytes_told (reply.Bytes bytes) = bytes
bytes_told other = []

-- those that the guest was shown, in order
unfoldable pub all_told : List Seen → List ℕ
all_told [] = []
all_told (s ∷ seen) = bytes_told s.reply ++ all_told seen

abbrev pub told_by : Stepping → List Event → List ℕ
told_by by events = all_told (seen_by 0 (logged_by by events opened))

-- the first byte of each of these blocks
abbrev pub first_bytes : (disk : ℕ → ℕ → ℕ) → List ℕ → List ℕ
first_bytes disk blocks = map (λ at. disk at 0) blocks

-- ---- logs

-- a Write of blocks 1 and 2, of which the first begins with 7 and the second with 5; after its buffer is 4. A unit that does not exist moves
-- nothing
abbrev pub first_moved : List Event
first_moved =
    up 0 ++ stores 0x0800 (7 ∷ []) ∷ stores 0x0a00 (5 ∷ []) ∷ stores 0x0c00 (4 ∷ []) ∷ stores 0x3000 (write_over 3 0x0800) ∷ rings 1
    ∷ begins 0 ++ moves 0 0 ∷ []

abbrev pub written_over : List Event
written_over = first_moved ++ moves 0 1 ∷ moves 1 0 ∷ moves 1 1 ∷ ends

-- and a bounced Read of them, whose first bytes are loaded
abbrev pub read_back : List Event
read_back =
    written_over ++ stores 0x3040 (read_over 4 0x1801) ∷ rings 2
    ∷ begins 0 ++ moves 0 0 ∷ moves 1 0 ∷ ends ++ loads 0x1801 1 ∷ loads 0x1a01 1 ∷ []

-- a direct Read of them, whose parts end one after the other and are posted one by one; each time the identifier in the next completion slot is
-- loaded
abbrev pub read_in_parts : List Event
read_in_parts =
    up 0 ++ stores 0x3000 (read_over 3 0x2400) ∷ rings 1
    ∷ begins 0 ++ moves 0 0 ∷ part_ends 0 ++ event.Post 0 0 ∷ loads 0x200c 1 ∷ moves 1 0 ∷ part_ends 1 ++ event.Post 0 1 ∷ loads 0x201c 1 ∷ []

-- the bounced Read once more, of which the second part is failed where both blocks have moved: Unrecovered Read Error
abbrev pub unrecovered : StatusField
unrecovered = record { sct = 2; sc = 0x81; dnr = false }

abbrev pub read_that_fails : List Event
read_that_fails =
    written_over ++ stores 0x3040 (read_over 4 0x1801) ∷ rings 2
    ∷ begins 0 ++ moves 0 0 ∷ moves 1 0 ∷ part_ends 0 ++ event.DevFail 0 1 unrecovered ∷ event.Reap 0 ∷ event.Post 0 0
    ∷ loads 0x1801 1 ∷ loads 0x1a01 1 ∷ []

-- the neighbour has a bounced Write of two parts, whose second block begins with 6, and then the first guest's bounced Read, in the same tags,
-- has its second part failed before its block has moved
abbrev pub read_behind_the_neighbour : List Event
read_behind_the_neighbour =
    up 1 ++ other (act.Store 0x0a01 (6 ∷ [])) ∷ other (act.Store 0x3000 (write_over 3 0x0801)) ∷ other (act.Doorbell 0x1008 1)
    ∷ begins 1 ++ moves 0 0 ∷ moves 1 0 ∷ ends
    ++ up 0 ++ stores 0x3000 (read_over 4 0x1801) ∷ rings 1
    ∷ begins 0 ++ moves 0 0 ∷ part_ends 0 ++ event.DevFail 0 1 unrecovered ∷ event.Reap 0 ∷ []

-- ---- a part with the whole's length

-- a Submit after which both entries at the ring's front have the NLB of a command of two blocks in CDW12
abbrev pub whole_length : Stepping
whole_length (event.Submit lane tag) w =
    (let after = right (event.Submit lane tag) w in
    record after { world = with_host (stored (stored after.world.host 0x30030 (1 ∷ [])) 0x30070 (1 ∷ [])) after.world })
whole_length e w = right e w

-- ---- parts swapped

-- a Submit after which both entries at the ring's front have each other's first block, in CDW10
abbrev pub swapped : (ℕ → ℕ) → ℕ → ℕ
swapped host = stored (stored host 0x30028 (bytes_from host 0x30068 4)) 0x30068 (bytes_from host 0x30028 4)

abbrev pub parts_swapped : Stepping
parts_swapped (event.Submit lane tag) w =
    (let after = right (event.Submit lane tag) w in record after { world = with_host (swapped after.world.host) after.world })
parts_swapped e w = right e w

-- ---- a tag freed early

-- an ended tag whose command goes by another is free
abbrev pub freed : (tag : ℕ) → Tag → Tag
freed tag (Ended command st share) = if command.leader == tag then Ended command st share else Free
freed tag other = other

abbrev pub tags_freed : Lane → Lane
tags_freed lane = record lane { tags = map (λ t. freed t.0 t.1) (enumerate_from 0 lane.tags) }

-- a Reap that frees the tag that it ends, where its command goes by another
abbrev pub freed_at_reap : Stepping
freed_at_reap (event.Reap lane) w =
    (let after = right (event.Reap lane) w in record after { world = with_lane lane tags_freed after.world })
freed_at_reap e w = right e w

-- ---- a completion a part

-- the command and the status of a tag that has ended, whichever its command goes by
abbrev pub for_part : Option Tag → World → (Command → StatusField → After) → After
for_part (Some (Ended command st share)) w more = more command st
for_part other w more = replied reply.Stale w

-- a Post that completes each tag by itself
abbrev pub each_completed : Stepping
each_completed (event.Post lane tag) w =
    for_part (tag_of w lane tag) w (λ command st.
    for_owner (owner_of set_up w command.guest) w (λ o. post_at command st 0x30000 lane (tag ∷ []) o w))
each_completed e w = right e w

-- ---- a scatter of the parts that succeeded

-- whether a tag has ended with success
abbrev pub succeeded : Option StatusField → Bool
succeeded None = false
succeeded (Some st) = is_success st

abbrev pub succeeded_of : (lane : ℕ) → World → (tags : List ℕ) → List ℕ
succeeded_of lane w tags = filter (λ t. succeeded (ended_status (tag_of w lane t))) tags

-- a Post that delivers the bytes of these tags of the command, whatever became of its others
abbrev pub post_with : ((tags : List ℕ) → List ℕ) → (lane tag : ℕ) → World → After
post_with which lane tag w =
    for_ended tag (tag_of w lane tag) w (λ command.
    for_owner (owner_of set_up w command.guest) w (λ o.
    (let after = right (event.Post lane tag) w in
    if is_done after.reply then right (event.Post lane tag) (delivered_all 0x30000 lane (which (group w lane tag)) o w) else after)))

-- one that delivers those of the parts that succeeded
abbrev pub parts_scattered : Stepping
parts_scattered (event.Post lane tag) w = post_with (succeeded_of lane w) lane tag w
parts_scattered e w = right e w

-- ---- a scatter of all parts

-- a Post that delivers the bytes of each part, whichever failed
abbrev pub all_scattered : Stepping
all_scattered (event.Post lane tag) w = post_with (λ tags. tags) lane tag w
all_scattered e w = right e w
