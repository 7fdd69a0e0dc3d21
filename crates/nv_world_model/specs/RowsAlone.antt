-- Worked examples: steps that are wrong in one thing alone, each of which would let a guest be seen or changed by another
use Rattle.std.specs.Prelude.{ℕ, ◌==◌, ◌||◌, false, true, if◌then◌else◌, List, [], ◌∷◌, map, replicate, Option, None}
use Rattle.nv_model.specs.declared.act.Act.TheVariants as act
use Rattle.nv_model.specs.declared.reply.Reply.TheVariants as reply
use Rattle.nv_model.specs.Controller.{opening}
use Rattle.nv_model.specs.Memory.{stored}
use Rattle.nv_model.specs.Private.{block_written, marked}
use Rattle.nv_world_model.specs.declared.event.Event.{Event}
use Rattle.nv_world_model.specs.declared.event.Event.TheVariants as event
use Rattle.nv_world_model.specs.declared.logged.Logged.{Logged}
use Rattle.nv_world_model.specs.Contained.{IsContained, owner}
use Rattle.nv_world_model.specs.Device.{DeviceLane, with_held}
use Rattle.nv_world_model.specs.Rows.{behind, rings_at, set_up, two_commands}
use Rattle.nv_world_model.specs.RowsShown.{both_in_device}
use Rattle.nv_world_model.specs.Step.{After, replay, replied}
use Rattle.nv_world_model.specs.View.{SharedNumbers}
use Rattle.nv_world_model.specs.World.{Free, Lane, World, with_controller, with_device, with_host, with_lane, with_tag}

-- ---- what is wrong

-- the first guest stores a byte
abbrev pub first_stores : Event
first_stores = event.Guest 0 (act.Store 0x3000 (7 ∷ []))

-- a step that is reported as done and changes this
abbrev pub changes : (World → World) → World → After
changes change w = replied reply.Done (change w)

-- a step that changes this where the second guest's first byte is 7
abbrev pub follows_the_second : (World → World) → World → After
follows_the_second change w = replied reply.Done (if w.host 0x200000 == 7 then change w else w)

-- it is contained as a step of the first guest's from that world
abbrev pub IsFirstGuests : (done : World → After) → World → Type 0
IsFirstGuests done w = IsContained done set_up first_stores w

-- a step that is reported as idle, and changes a byte of the first guest
abbrev pub idle_and_stores : World → After
idle_and_stores w = replied reply.Idle (with_host (stored w.host 0x103000 (7 ∷ [])) w)

-- a Keep of block 5 that keeps block 6, too, and one that clears the mark
abbrev pub kept_and_next : World → After
kept_and_next w = replied reply.Done (record w { kept = (λ at. at == 5 || at == 6 || w.kept at) })

abbrev pub kept_no_longer : World → After
kept_no_longer w = replied reply.Done (record w { kept = marked w.kept 5 false })

-- ---- worlds

-- each guest's command is in the submission ring
abbrev pub both_queued : World
both_queued = behind (event.Take 0 1 0 ∷ event.Take 1 1 0 ∷ event.Submit 0 0 ∷ event.Submit 0 1 ∷ []) two_commands (λ w. w)

-- the same world, where the second guest's first byte is 7
abbrev pub told_by : World → World
told_by w = with_host (stored w.host 0x200000 (7 ∷ [])) w

-- each block is kept
abbrev pub every_block_kept : World
every_block_kept = record both_in_device { kept = (λ lba. true) }

-- ---- one thing

-- a byte of the host, a block of the disk that becomes zeros, and a mark that is lost
abbrev pub byte_of : (addr : ℕ) → World → World
byte_of addr w = with_host (stored w.host addr (9 ∷ [])) w

abbrev pub block_of : (lba : ℕ) → World → World
block_of lba w = record w { disk = block_written w.disk lba (replicate 512 0) }

abbrev pub mark_of : (lba : ℕ) → World → World
mark_of lba w = record w { kept = marked w.kept lba false }

-- a guest's controller is as at the start
abbrev pub controller_of : (guest : ℕ) → World → World
controller_of guest w = with_controller guest opening w

-- a tag of the lane is free
abbrev pub tag_freed : (tag : ℕ) → World → World
tag_freed tag w = with_tag 0 tag Free w

-- the device holds nothing under that identifier
abbrev pub held_lost : (identifier : ℕ) → World → World
held_lost identifier w = with_device 0 (with_held identifier None) w

-- the lane, and the device's side of it, so
abbrev pub lane_so : (Lane → Lane) → World → World
lane_so change w = with_lane 0 change w

abbrev pub device_so : (DeviceLane → DeviceLane) → World → World
device_so change w = with_device 0 change w

-- ---- the numbers that all share

-- two commands were handed on since rings were at slot 7, and one of them is in the device
abbrev pub one_of_two_in_device : World
one_of_two_in_device =
    behind (event.Take 0 1 0 ∷ event.Take 1 1 0 ∷ event.Submit 0 0 ∷ event.Submit 0 1 ∷ event.DevTake 0 ∷ [])
    (rings_at 7 false two_commands) (λ w. w)

abbrev pub its_numbers : SharedNumbers
its_numbers =
    record {
      lanes = record { head = 7; phase = false; free = false ∷ false ∷ replicate 62 true } ∷ [];
      rings = record { head = 8; tail = 9; posted = 7; phase = false; slots = 64 } ∷ [];
      guests = 2;
    }

-- ---- whose an event is

-- the owners of these events in a world
abbrev pub owners : List Event → World → List (Option ℕ)
owners events w = map (λ e. owner e w) events

-- both guests' commands are taken
abbrev pub both_taken : World
both_taken = behind (event.Take 0 1 0 ∷ event.Take 1 1 0 ∷ []) two_commands (λ w. w)

-- the device has completed both guests' commands, the second's first
abbrev pub both_answered : World
both_answered =
    replay set_up (event.DevMove 0 1 0 ∷ event.DevPost 0 1 ∷ event.DevMove 0 0 0 ∷ event.DevPost 0 0 ∷ []) both_in_device

-- ---- a log

-- a register read, and a unit that the device moves
abbrev pub looks : Logged
looks = record { event = event.Guest 0 (act.RegRead 0x1c); reply = reply.Done }

abbrev pub moves_a_unit : Logged
moves_a_unit = record { event = event.DevMove 0 0 0; reply = reply.Done }
