-- Worked examples: the mediator's side that calls start from, and what is seen of a call. Two guests have their memory in the host at 100000h and 200000h and
-- 64 blocks of the disk from 1000 and 2000 on; the mediator's area begins at 400000h. So lane 0 has its submission ring at 400000h, its completion ring at
-- 402000h, and of tag 0 the list page at 403000h and bounce pages from 404000h on; tag 1 has them at 424000h and from 425000h on (profile).
use Rattle.std.specs.Prelude.{ℕ, Bool, false, List, [], ◌∷◌, ◌++◌, drop, map, replicate, slice_set, true, Option, Some, None}
use Rattle.nv_entry.specs.Status.{StatusField, status}
use Rattle.nv_entry.specs.declared.opcode.IoOpcode.TheVariants as opcode
use Rattle.nv_laws_sound.specs.Side.{Side}
use Rattle.nv_machine.specs.Alike.{IsAlike}
use Rattle.nv_machine.specs.Effects.{Effect}
use Rattle.nv_machine.specs.Entries.{IsOwnEntry}
use Rattle.nv_machine.specs.Machine.{call, fetch, fetch_then}
use Rattle.nv_machine.specs.Order.{IsInOrder}
use Rattle.nv_mem.specs.declared.piece.Piece.TheVariants as piece
use Rattle.nv_model.specs.Controller.{Controller, no_queues, opening}
use Rattle.nv_model.specs.Judge.{MoveBlock}
use Rattle.nv_model.specs.Queue.{new_completion, new_submission}
use Rattle.nv_model.specs.Rows.{by_prp, by_sgl, command, data_block, prps}
use Rattle.nv_model.specs.RowsRuns.{admin_entry}
use Rattle.nv_model.specs.declared.reply.Reply.{Reply}
use Rattle.nv_world_model.specs.Plan.{Bounced, Plan}
use Rattle.nv_world_model.specs.Rows.{controller_with, set_up}
use Rattle.nv_world_model.specs.RowsShown.{second_guest}
use Rattle.nv_world_model.specs.Share.{Share}
use Rattle.nv_world_model.specs.World.{Command, Ended, Flying, Free, Lane, Queued, Tag, Taken, opening_lane}
use Rattle.nv_world_model.specs.declared.event.Event.{Event}

-- ---- what is seen

-- the addresses that are fetched, and those that are fetched then
abbrev pub asked : Event → Side → List ℕ
asked e s = fetch set_up e s

abbrev pub asked_then : Event → (first : List ℕ) → Side → List ℕ
asked_then e first s = fetch_then set_up e s first

-- what the call comes to with these bytes: its reply, its effects, and the side after it
abbrev pub reply_to : Event → (fetched : List ℕ) → Side → Option Reply
reply_to e fetched s = (call set_up e fetched s).reply

abbrev pub effects_of : Event → (fetched : List ℕ) → Side → List Effect
effects_of e fetched s = (call set_up e fetched s).now.effects

abbrev pub side_after : Event → (fetched : List ℕ) → Side → Side
side_after e fetched s = (call set_up e fetched s).now.side

-- ---- sides

-- two guests with an entry in queue 1, whose slots are at 13000h, and a completion queue of so many slots at 12000h; one lane, whose first tags are these
abbrev pub side_with : (slots : ℕ) → List Tag → Side
side_with slots tags =
    record {
      lanes = record opening_lane { tags = tags ++ drop 2 (replicate 64 Free) } ∷ [];
      tails = 0 ∷ [];
      controllers = controller_with slots 1 ∷ controller_with slots 1 ∷ [];
    }

abbrev pub at_rest : Side
at_rest = side_with 16 (Free ∷ Free ∷ [])

-- a command of the second guest, in tag 0 or 1
abbrev pub of_second : (entry : List ℕ) → (tag : ℕ) → Command
of_second entry tag = record { guest = 1; queue = 1; entry = entry; leader = tag }

-- ---- commands

-- a Read of eight blocks from block 5 on, into the page at 3000h, by PRP, with command identifier 7
abbrev pub page_read : List ℕ
page_read = by_prp 0x02 5 7 0x3000 0

-- a Read of 24 blocks from block 5 on, into the three pages at 3000h, by SGL
abbrev pub three_pages_read : List ℕ
three_pages_read = by_sgl 0x02 5 23 (data_block 0x3000 0x3000)

-- a Write of block 5 from 3002h on, which no PRP entry can name
abbrev pub odd_write : List ℕ
odd_write = by_sgl 0x01 5 0 (data_block 0x3002 512)

-- such a Read
abbrev pub odd_read : List ℕ
odd_read = by_sgl 0x02 5 0 (data_block 0x3002 512)

-- ---- a Submit

-- the command of the second guest waits for its plan in tag 0, or in tag 1
abbrev pub taken_first : (entry : List ℕ) → Side
taken_first entry = side_with 16 (Taken (of_second entry 0) [] ∷ Free ∷ [])

abbrev pub taken_second : (entry : List ℕ) → Side
taken_second entry = side_with 16 (Free ∷ Taken (of_second entry 1) [] ∷ [])

-- dwords 1 to 5 of a physical entry: namespace 1, and no metadata; and dwords 13 to 15
abbrev pub namespace_one : List ℕ
namespace_one = 1 ∷ 0 ∷ 0 ∷ 0 ∷ replicate 16 0

abbrev pub last_dwords : List ℕ
last_dwords = replicate 12 0

-- ---- a Reap

-- the plan of the odd Read, of one share
abbrev pub odd_plan : Plan
odd_plan =
    Bounced (record {
      opcode = opcode.Read;
      pieces = piece.Run 0x3002 512 ∷ [];
      ranges = [];
      units = MoveBlock 0 5 ∷ [];
      fua = false;
    })

abbrev pub odd_share : Share
odd_share = record { whole = odd_plan; plan = odd_plan; numbers = 0 ∷ [] }

-- that Read of the second guest is with the physical controller, in tag 1
abbrev pub flying_second : Side
flying_second = side_with 16 (Free ∷ Flying (of_second odd_read 1) odd_share (Queued 0) ∷ [])

-- a physical completion as it is fetched: its last dword with identifier, phase tag and status; then dwords 0 and 1, the head, and the queue
abbrev pub completed_by : (cid phase queue : ℕ) → List ℕ
completed_by cid phase queue = cid ∷ 0 ∷ phase ∷ 0 ∷ replicate 8 0 ++ 1 ∷ 0 ∷ queue ∷ 0 ∷ []

-- ---- a Post

-- that Read has ended in tag 1, and the guest's completion queue has so many slots
abbrev pub ended_second : (slots : ℕ) → StatusField → Side
ended_second slots st = side_with slots (Free ∷ Ended (of_second odd_read 1) st (Some odd_share) ∷ [])

-- the same where the completion queue has two slots, of which one is written and not acknowledged
abbrev pub full_second : Side
full_second =
    record (ended_second 2 (status 0 0 false)) {
      controllers =
          controller_with 2 1
          ∷ record (controller_with 2 1) {
            completion_queues = slice_set no_queues 1 (Some (record (new_completion 0x12000 2 None) { tail = 1 }));
          } ∷ [];
    }

-- ---- an Admin

-- a controller with admin queues of 32 slots, at 10000h and 11000h, on which one command is submitted
abbrev pub with_admin : Controller
with_admin =
    record opening {
      cc = 0x00460001;
      ready = true;
      submission = slice_set no_queues 0 (Some (record (new_submission 0x10000 32 0) { tail = 1 }));
      completion_queues = slice_set no_queues 0 (Some (new_completion 0x11000 32 (Some 0)));
    }

abbrev pub one_admin : Side
one_admin = record at_rest { controllers = controller_with 16 0 ∷ with_admin ∷ [] }

-- an Identify of the active namespaces with command identifier 9, into the page at 4000h
abbrev pub identify_active : List ℕ
identify_active = admin_entry 0x06 9 0 0x4000 0 0x02 0

-- ---- words of the laws

-- an entry of 64 bytes in namespace 1, with that dword 0, PRP1 and CDW10 to CDW12; all other fields are 0
abbrev pub entry_of : (dword0 prp1 cdw10 cdw11 cdw12 : ℕ) → List ℕ
entry_of dword0 prp1 cdw10 cdw11 cdw12 = command dword0 1 (prps prp1 0) cdw10 cdw11 cdw12

-- it names bytes and blocks of the second guest alone, in tag 0 of lane 0 with an empty list, and these ranges in the bounce pages
abbrev pub IsSeconds : (ranges entry : List ℕ) → Type 0
IsSeconds ranges entry = IsOwnEntry set_up second_guest 0 0 [] ranges entry

-- a command of the first guest, in tag 0
abbrev pub of_first : (entry : List ℕ) → Command
of_first entry = record { guest = 0; queue = 1; entry = entry; leader = 0 }

-- two sides are alike to the second guest
abbrev pub AreAlikeToSecond : (s z : Side) → Type 0
AreAlikeToSecond s z = IsAlike 1 s z

-- the same side with that head of its lanes
abbrev pub head_put : (head : ℕ) → Lane → Lane
head_put head l = record l { head = head }

abbrev pub with_head : (head : ℕ) → Side → Side
with_head head s = record s { lanes = map (head_put head) s.lanes }

-- the same side in a pass with that phase tag
abbrev pub phase_put : (phase : Bool) → Lane → Lane
phase_put phase l = record l { phase = phase }

abbrev pub with_phase : (phase : Bool) → Side → Side
with_phase phase s = record s { lanes = map (phase_put phase) s.lanes }

-- the same controller with an admin completion queue of two slots, of which one is written and not acknowledged
abbrev pub full_admin : Side
full_admin =
    record one_admin {
      controllers =
          controller_with 16 0
          ∷ record with_admin {
            completion_queues = slice_set no_queues 0 (Some (record (new_completion 0x11000 2 (Some 0)) { tail = 1 }));
          } ∷ [];
    }

-- effects of a Post for the second guest in order, in which there is no data
abbrev pub IsCompletionAlone : List Effect → Type 0
IsCompletionAlone effects = IsInOrder (λ e. ⊥) second_guest (controller_with 16 1) (Some (controller_with 16 1)) effects
