-- Worked examples: a guest of two extents beside a guest of one, and what is examined
use Rattle.std.specs.Prelude.{ℕ, ◌+◌, ◌*◌, Bool, true, false, List, [], ◌∷◌, map, replicate, Option, Some, None}
use Rattle.nv_entry.specs.Status.{StatusField}
use Rattle.nv_model.specs.Memory.{stored}
use Rattle.nv_model.specs.Private.{AtWork, Ended as EndedWith, Progress, Step, Taken as Member, Unjudged}
use Rattle.nv_model.specs.Rows.{by_sgl, data_block, manage}
use Rattle.nv_model.specs.declared.reply.Reply.{Reply}
use Rattle.nv_world_model.specs.declared.event.Event.{Event}
use Rattle.nv_world_model.specs.declared.event.Event.TheVariants as event
use Rattle.nv_world_model.specs.Area.{tag_count}
use Rattle.nv_world_model.specs.Device.{opening_device_lane}
use Rattle.nv_world_model.specs.Geometry.{Geometry, Guest}
use Rattle.nv_world_model.specs.Rows.{controller_with, guest_at, holding, host_bytes, host_number, numbered}
use Rattle.nv_world_model.specs.RowsShares.{joined}
use Rattle.nv_world_model.specs.PrivateSteps.{steps_done}
use Rattle.nv_world_model.specs.Seat.{members}
use Rattle.nv_world_model.specs.Step.{replay, replies, statuses_of}
use Rattle.nv_world_model.specs.World.{Free, Lane, Tag, Taken, World, group, is_free, opening_lane}

-- ---- the set-up

-- a guest with 32 blocks from disk block 1000 on, and then 32 from 3000 on
abbrev pub joined_guest : Guest
joined_guest = record (guest_at 0x100000 1000) { namespace = joined }

-- the mediator's area from 400000h on, a disk of 4,096 blocks, that guest, and one of 64 blocks from 2000 on
abbrev pub set_up : Geometry
set_up = record { mediator = 0x400000; disk_blocks = 4096; guests = joined_guest ∷ guest_at 0x200000 2000 ∷ [] }

-- a world of one lane with these tags and this memory, on which so many entries of each guest are submitted
abbrev pub world_of : (tags : List Tag) → (host : ℕ → ℕ) → (first second : ℕ) → World
world_of tags host first second =
    record {
      host = host;
      disk = numbered;
      kept = (λ _. false);
      device = opening_device_lane ∷ [];
      lanes = record opening_lane { tags = tags } ∷ [];
      controllers = controller_with 16 first ∷ controller_with 16 second ∷ [];
    }

-- a world in which the first guest has written the doorbell for this one command
abbrev pub one_command : (entry : List ℕ) → World
one_command entry = world_of (replicate tag_count Free) (holding 0x113000 entry) 1 0

-- the same, where the guest's memory holds more bytes
abbrev pub one_command_on : (addr : ℕ) → List ℕ → (entry : List ℕ) → World
one_command_on addr bytes entry = world_of (replicate tag_count Free) (stored (holding 0x113000 entry) (0x100000 + addr) bytes) 1 0

-- the first guest has written the doorbell for one command, and the second for another
abbrev pub two_commands : (first second : List ℕ) → World
two_commands first second = world_of (replicate tag_count Free) (stored (holding 0x113000 first) 0x213000 second) 1 1

-- a command of the second guest's that has the tag of this number
abbrev pub others : (tag : ℕ) → Tag
others tag = Taken (record { guest = 1; queue = 1; entry = replicate 64 0; leader = tag }) []

-- a world in which these tags are the second guest's, and the first guest has written the doorbell for this command
abbrev pub among_others : List Tag → (entry : List ℕ) → World
among_others tags entry = world_of tags (holding 0x113000 entry) 1 0

-- ---- commands

-- a Read of the last block of the first extent and of the first block of the second, to this place
abbrev pub read_over : (addr : ℕ) → List ℕ
read_over addr = by_sgl 0x02 31 1 (data_block addr 1024)

-- a Dataset Management that deallocates what so many ranges at 3000h name
abbrev pub deallocating : (nr : ℕ) → List ℕ
deallocating nr = manage true nr (data_block 0x3000 (16 * (nr + 1)))

-- ---- events

-- up to and with the device's taking of both parts of a command in tags 0 and 1
abbrev pub in_device : List Event
in_device = event.Take 0 1 0 ∷ event.Submit 0 0 ∷ event.DevTake 0 ∷ event.DevTake 0 ∷ []

-- the one unit of a tag moves, and its completion is read
abbrev pub ends : (tag : ℕ) → List Event
ends tag = event.DevMove 0 tag 0 ∷ event.DevPost 0 tag ∷ event.Reap 0 ∷ []

-- the device fails it with that status, and its completion is read
abbrev pub fails : (tag : ℕ) → StatusField → List Event
fails tag st = event.DevFail 0 tag st ∷ event.Reap 0 ∷ []

-- Unrecovered Read Error, and Access Denied
abbrev pub unrecovered : StatusField
unrecovered = record { sct = 2; sc = 0x81; dnr = false }

abbrev pub denied : StatusField
denied = record { sct = 2; sc = 0x86; dnr = false }

-- Internal Error, Data SGL Length Invalid, and Success
abbrev pub internal : StatusField
internal = record { sct = 0; sc = 0x06; dnr = false }

abbrev pub too_short : StatusField
too_short = record { sct = 0; sc = 0x0f; dnr = true }

abbrev pub success : StatusField
success = record { sct = 0; sc = 0; dnr = false }

-- ---- examining

abbrev pub behind : {A : Type 0} → List Event → World → (World → A) → A
behind events w look = look (replay set_up events w)

abbrev pub told : List Event → World → List Reply
told events w = replies set_up events w

-- the physical entry in a slot: opcode, identifier, PRP1, PRP2, CDW10, CDW11 and CDW12
abbrev pub entry_in : (slot : ℕ) → World → List ℕ
entry_in slot w =
    (let at = 0x400000 + 64 * slot in
    host_number at 2 w ∷ host_number (at + 2) 2 w ∷ host_number (at + 0x18) 8 w ∷ host_number (at + 0x20) 8 w
    ∷ host_number (at + 0x28) 4 w ∷ host_number (at + 0x2c) 4 w ∷ host_number (at + 0x30) 4 w ∷ [])

-- those in the first two slots
abbrev pub both_entries : World → List (List ℕ)
both_entries w = entry_in 0 w ∷ entry_in 1 w ∷ []

-- the tags that a command of this tag has
abbrev pub tags_of : (leader : ℕ) → World → List ℕ
tags_of leader w = group w 0 leader

-- those of commands that go by the first tags
abbrev pub groups : World → List (List ℕ)
groups w = tags_of 0 w ∷ tags_of 1 w ∷ tags_of 2 w ∷ []

-- which of the first four tags are free
abbrev pub first_four : List Tag → List Bool
first_four (a ∷ b ∷ c ∷ d ∷ rest) = is_free a ∷ is_free b ∷ is_free c ∷ is_free d ∷ []
first_four tags = []

abbrev pub four_free : List Lane → List Bool
four_free [] = []
four_free (lane ∷ lanes) = first_four lane.tags

abbrev pub frees : World → List Bool
frees w = four_free w.lanes

-- how the first two tags ended, where both have
abbrev pub ended_as : World → Option (List StatusField)
ended_as w = statuses_of 0 (0 ∷ 1 ∷ []) w

-- the last dword of the guest's first completion
abbrev pub answer : World → ℕ
answer w = host_number 0x11200c 4 w

-- the first byte of each of both blocks of a Read to this place, and the last dword of the guest's first completion
abbrev pub came : (addr : ℕ) → World → List ℕ
came addr w = host_number (0x100000 + addr) 1 w ∷ host_number (0x100000 + addr + 512) 1 w ∷ answer w ∷ []

-- the ranges of a Dataset Management that are in the bounce pages of the first two tags: so many bytes
abbrev pub ranges_in : (first second : ℕ) → World → List (List ℕ)
ranges_in first second w = host_bytes 0x404000 first w ∷ host_bytes 0x425000 second w ∷ []

-- the first byte of these blocks of the disk
abbrev pub on_disk : List ℕ → World → List ℕ
on_disk blocks w = map (λ at. w.disk at 0) blocks

-- the first guest's command of that name
abbrev pub member : (name : ℕ) → World → Option Member
member name w = members set_up w 0 name

-- what an event is to the first guest's private controller
abbrev pub steps : Event → World → List Step
steps e w = steps_done 0 joined_guest w e

-- the same of each of these
abbrev pub steps_of_each : List Event → World → List (List Step)
steps_of_each events w = map (λ e. steps e w) events

-- the units that a command at work has left
abbrev pub left_in : Progress → List ℕ
left_in Unjudged = []
left_in (AtWork work left differed) = left
left_in (EndedWith st) = []

abbrev pub left_of : Option Member → List ℕ
left_of None = []
left_of (Some m) = left_in m.progress
