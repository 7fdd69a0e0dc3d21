-- A second log, of commands whose lists and ranges are read: a Write and a Read by lists of several descriptors, and a deallocation
use Rattle.std.specs.Prelude.{ℕ, Bool, true, false, not, List, [], ◌∷◌, ◌++◌, filter, map, replicate, Option}
use Rattle.nv_model.specs.declared.act.Act.TheVariants as act
use Rattle.nv_model.specs.declared.reply.Reply.{Reply}
use Rattle.nv_model.specs.declared.reply.Reply.TheVariants as reply
use Rattle.nv_model.specs.Private.{ActStep, AdminQueueStep, GiveUpStep, JudgeStep, KeepStep, MoveStep, PostStep, Private, Run, RunOutStep, Seen, Step, TakeStep, run_of, start}
use Rattle.nv_model.specs.Rows.{bit_bucket, block_range, data_block, last_segment, manage}
use Rattle.nv_world_model.specs.declared.event.Event.{Event}
use Rattle.nv_world_model.specs.declared.event.Event.TheVariants as event
use Rattle.nv_world_model.specs.declared.logged.Logged.{Logged}
use Rattle.nv_world_model.specs.Geometry.{shape_of}
use Rattle.nv_world_model.specs.PrivateSteps.{private_steps}
use Rattle.nv_world_model.specs.Step.{replay}
use Rattle.nv_world_model.specs.World.{World}
use Rattle.nv_examples.specs.Stepping.{behind_run}
use Rattle.nv_examples.specs.Events.{ends, loads, moves, rings, stores, up}
use Rattle.nv_examples.specs.Guests.{by_sgl, first, opened, other, own, set_up}
use Rattle.nv_examples.specs.Logs.{logged}

-- ---- the events

-- a command by a list of so many bytes at that address is taken as tag 0, its list is read, and the device has it
abbrev pub listed : (addr len : ℕ) → List Event
listed addr len = event.Take 0 1 0 ∷ event.List 0 0 addr len ∷ event.Submit 0 0 ∷ event.DevTake 0 ∷ []

-- the source: 256 bytes that begin with 7, 8 and 9, and 256 at an odd address that begin with 5 and 6; its list; the list of the Read, of
-- which 128 bytes are discarded; and two ranges, the first of no blocks
abbrev pub lists_stored : List Event
lists_stored =
    stores 0x0800 (7 ∷ 8 ∷ 9 ∷ []) ∷ stores 0x0b01 (5 ∷ 6 ∷ [])
    ∷ stores 0x3800 (data_block 0x0800 256 ++ data_block 0x0b01 256)
    ∷ stores 0x3820 (data_block 0x0d01 128 ++ bit_bucket 128 ++ data_block 0x0e00 256)
    ∷ stores 0x3860 (block_range 0 0 ++ block_range 1 1) ∷ []

-- a Write and a Read of block 1 by these lists, and a deallocation of the ranges
abbrev pub commands_stored : List Event
commands_stored =
    stores 0x3000 (by_sgl 0x01 3 1 0 (last_segment 0x3800 32) ++ by_sgl 0x02 4 1 0 (last_segment 0x3820 48) ++ manage true 1 (data_block 0x3860 32))
    ∷ rings 3 ∷ []

-- up to and with the Write; its neighbour stores and loads where the guest's lists and buffers would be, and rings what isn't there
abbrev pub up_to_write : List Event
up_to_write =
    up ++ lists_stored ++ commands_stored ++ other (act.Store 0x3800 (data_block 0x0900 512)) ∷ other (act.Doorbell 0x1008 3)
    ∷ listed 0x3800 32 ++ other (act.Load 0x0800 4) ∷ moves 0 0 ∷ ends 0

-- and the Read, what it read, and the deallocation
abbrev pub second_story : List Event
second_story =
    up_to_write ++ listed 0x3820 48 ++ moves 0 0 ∷ ends 0 ++ own (act.Doorbell 0x100c 2) ∷ loads 0x0d00 4 ∷ loads 0x0e00 3
    ∷ listed 0x3860 32 ++ moves 0 0 ∷ moves 0 1 ∷ ends 0 ++ loads 0x202c 4 ∷ []

-- ---- its private run

abbrev pub second_log : List Logged
second_log = logged set_up.geometry second_story opened

abbrev pub run_of_events : List Event → Option Run
run_of_events events = run_of (shape_of first) (private_steps set_up.geometry 0 first (logged set_up.geometry events opened) opened) start

abbrev pub second_run : Option Run
second_run = run_of_events second_story

-- the steps but for the guest's acts
abbrev pub is_act : Step → Bool
is_act (ActStep a) = true
is_act (TakeStep queue name) = false
is_act (JudgeStep name) = false
is_act (MoveStep name number) = false
is_act (GiveUpStep name) = false
is_act (PostStep name) = false
is_act (RunOutStep name) = false
is_act AdminQueueStep = false
is_act (KeepStep lba) = false

abbrev pub besides_acts : List Step → List Step
besides_acts steps = filter (λ s. not (is_act s)) steps

-- the replies that are seen
abbrev pub replies_seen : List Seen → List Reply
replies_seen seen = map (λ s. s.reply) seen

-- those of this log: bring-up, stores and doorbells are done; then what was read, the first 128 bytes from the odd address on and the last 256 in
-- the other piece; and the status and identifier of the last completion, which is the deallocation's
abbrev pub replies_told : List Reply
replies_told =
    replicate 14 reply.Done
    ++ reply.Bytes (0 ∷ 7 ∷ 8 ∷ 9 ∷ []) ∷ reply.Bytes (5 ∷ 6 ∷ 0 ∷ []) ∷ reply.Bytes (7 ∷ 0 ∷ 1 ∷ 0 ∷ []) ∷ []

-- ---- what is examined

-- bytes of a block: its first, and those where the second piece begins
abbrev pub block_bytes : (disk : ℕ → ℕ → ℕ) → (lba : ℕ) → List ℕ
block_bytes disk lba = disk lba 0 ∷ disk lba 1 ∷ disk lba 2 ∷ disk lba 255 ∷ disk lba 256 ∷ disk lba 257 ∷ disk lba 511 ∷ []

abbrev pub private_behind : List Event → Private
private_behind events = behind_run (run_of_events events)

abbrev pub world_behind : List Event → World
world_behind events = replay set_up.geometry events opened
