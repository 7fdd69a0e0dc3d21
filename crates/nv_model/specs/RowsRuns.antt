-- Worked examples: runs of the private controller
use Rattle.std.specs.Prelude.{ℕ, ◌+◌, ◌*◌, ◌-◌, Bool, true, false, List, [], ◌∷◌, ◌++◌, map, replicate, Option, Some, None, is_some}
use Rattle.nv_entry.specs.Layout.{number_at, dword}
use Rattle.nv_entry.specs.Status.{StatusField}
use Rattle.nv_entry.specs.Completion.{completion}
use Rattle.nv_model.specs.declared.act.Act.{Act}
use Rattle.nv_model.specs.declared.act.Act.TheVariants as act
use Rattle.nv_model.specs.declared.reply.Reply.{Reply}
use Rattle.nv_model.specs.Memory.{bytes_from}
use Rattle.nv_model.specs.Controller.{opening}
use Rattle.nv_model.specs.Private.{Private, Run, Step, ActStep, TakeStep, JudgeStep, MoveStep, PostStep, AdminQueueStep, Taken, Unjudged, no_commands, put, run_of, start}
use Rattle.nv_model.specs.Carrying.{ending_of, judged_then_moved}
use Rattle.nv_model.specs.Footprint.{Destination, Entry, Named, Source, footprints, named_as}
use Rattle.nv_model.specs.Queue.{SubmissionQueue}
use Rattle.nv_model.specs.Rows.{command, data_block, first_example, guest, prps}

-- ---- observing a run

-- what is seen in the state after a run, or none where the run can't be made
abbrev pub seen : {A : Type 0} → (Private → A) → Option Run → Option A
seen look None = None
seen look (Some run) = Some (look run.state)

-- the same, of the run of these steps from a state
abbrev pub after : {A : Type 0} → List Step → Private → (Private → A) → Option A
after steps p look = seen look (run_of guest steps p)

-- whether these steps can be made from a state
abbrev pub can_run : List Step → Private → Bool
can_run steps p = is_some (run_of guest steps p)

-- what the guest is replied
abbrev pub replies_of : Option Run → Option (List Reply)
replies_of None = None
replies_of (Some run) = Some (map (λ a. a.reply) run.seen)

abbrev pub replied_to : List Step → Private → Option (List Reply)
replied_to steps p = replies_of (run_of guest steps p)

-- the bytes in memory
abbrev pub bytes_in : (addr len : ℕ) → Private → List ℕ
bytes_in addr len p = bytes_from p.memory addr len

-- the dword in memory
abbrev pub dword_in : (addr : ℕ) → Private → ℕ
dword_in addr p = number_at (bytes_from p.memory addr 4) 0 4

-- a byte of a block, and the block's mark
abbrev pub block_byte : (lba offset : ℕ) → Private → ℕ × Bool
block_byte lba offset p = (p.disk lba offset, p.kept lba)

-- ---- one taken command

-- each block holds its number in every byte
abbrev pub numbered_blocks : ℕ → ℕ → ℕ
numbered_blocks lba offset = lba

-- every byte of memory and of each block is this
abbrev pub all_bytes : (byte : ℕ) → ℕ → ℕ
all_bytes byte addr = byte

abbrev pub all_blocks : (byte : ℕ) → ℕ → ℕ → ℕ
all_blocks byte lba offset = byte

-- every mark is this
abbrev pub all_marks : Bool → ℕ → Bool
all_marks mark lba = mark

-- a state in which one command, named 0, was taken from queue 1 and is not judged
abbrev pub with_command : (memory : ℕ → ℕ) → (disk : ℕ → ℕ → ℕ) → (kept : ℕ → Bool) → List ℕ → Private
with_command memory disk kept entry =
    record {
      memory = memory;
      disk = disk;
      kept = kept;
      controller = opening;
      bag = put no_commands 0 (Some (record { queue = 1; entry = entry; progress = Unjudged }));
    }

-- it is judged, and so many units move, in their order
abbrev pub carried : (units : ℕ) → List Step
carried units = judged_then_moved 0 units

-- the last dword of the completion of a command of identifier 7 with this status, phase tag 1
abbrev pub dw3_with : Option StatusField → Option ℕ
dw3_with None = None
dw3_with (Some st) = Some (dword (completion 0 1 1 7 true st) 3)

-- the last dword of that command's completion, where it has ended
abbrev pub ended : Private → Option ℕ
ended p = dw3_with (ending_of (p.bag 0))

-- ---- a guest's acts

abbrev pub store : (addr : ℕ) → List ℕ → Step
store addr bytes = ActStep (act.Store addr bytes)

abbrev pub load : (addr len : ℕ) → Step
load addr len = ActStep (act.Load addr len)

abbrev pub read_register : (offset : ℕ) → Step
read_register offset = ActStep (act.RegRead offset)

abbrev pub write_register : (offset value : ℕ) → Step
write_register offset value = ActStep (act.RegWrite offset value)

abbrev pub ring : (offset value : ℕ) → Step
ring offset value = ActStep (act.Doorbell offset value)

-- ---- bring-up

-- the 64 bytes of an admin command
abbrev pub admin_entry : (opcode cid nsid prp1 prp2 cdw10 cdw11 : ℕ) → List ℕ
admin_entry opcode cid nsid prp1 prp2 cdw10 cdw11 = command (opcode + 0x10000 * cid) nsid (prps prp1 prp2) cdw10 cdw11 0

-- completion queue 1 with so many slots at 12000h, and submission queue 1 with 16 slots at 13000h
abbrev pub create_completion_queue : (slots : ℕ) → List ℕ
create_completion_queue slots = admin_entry 0x05 1 0 0x12000 0 (0x10000 * (slots - 1) + 1) 1

abbrev pub create_submission_queue : List ℕ
create_submission_queue = admin_entry 0x01 2 0 0x13000 0 0x000f0001 0x00010001

-- admin queues of these sizes, counted from 0, at 10000h and 11000h, and EN
abbrev pub enable_with : (sizes : ℕ) → List Step
enable_with sizes =
    write_register 0x24 sizes ∷ write_register 0x28 0x10000 ∷ write_register 0x30 0x11000 ∷ write_register 0x14 0x00460001 ∷ []

-- the same with 32 slots each
abbrev pub enable : List Step
enable = enable_with 0x001f001f

-- the guest's part, and the two admin steps
abbrev pub bring_up_with : (slots : ℕ) → List Step
bring_up_with slots =
    store 0x10000 (create_completion_queue slots) ∷ store 0x10040 create_submission_queue
    ∷ enable ++ ring 0x1000 2 ∷ AdminQueueStep ∷ AdminQueueStep ∷ []

abbrev pub bring_up : List Step
bring_up = bring_up_with 16

-- the start, with numbered blocks
abbrev pub at_start : Private
at_start = record start { disk = numbered_blocks }

-- the same with two slots of the admin completion queue, before the second admin step
abbrev pub two_admin_slots : List Step
two_admin_slots =
    store 0x10000 (create_completion_queue 16) ∷ store 0x10040 create_submission_queue
    ∷ enable_with 0x0001001f ++ ring 0x1000 2 ∷ AdminQueueStep ∷ []

-- ---- I/O commands after the bring-up

-- the doorbell is written for an I/O command
abbrev pub rung : List ℕ → List Step
rung entry = bring_up ++ store 0x13000 entry ∷ ring 0x1008 1 ∷ []

-- the doorbell is written for an I/O command, and these bytes are in memory
abbrev pub rung_with : (addr : ℕ) → (bytes entry : List ℕ) → List Step
rung_with addr bytes entry = store addr bytes ∷ rung entry

-- a Flush with this command identifier
abbrev pub flush_of : (cid : ℕ) → List ℕ
flush_of cid = command (0x10000 * cid) 1 (prps 0 0) 0 0 0

-- the doorbell is written for the first example, and it is taken, under the name 0
abbrev pub first_taken : List Step
first_taken = bring_up ++ store 0x13000 first_example ∷ ring 0x1008 1 ∷ TakeStep 1 0 ∷ []

-- and carried out
abbrev pub first_ended : List Step
first_ended = first_taken ++ carried 1

-- and completed
abbrev pub first_posted : List Step
first_posted = first_ended ++ PostStep 0 ∷ []

-- the first example, and after it a Write of 512 bytes 11h at 5000h to block 5 with identifier 8, under the name 1; the Read's unit moves first,
-- and the Write is completed first
abbrev pub write_posted_before_read : List Step
write_posted_before_read =
    bring_up ++ store 0x5000 (replicate 512 0x11) ∷ store 0x13000 (first_example ++ command 0x00084001 1 (data_block 0x5000 512) 5 0 0)
    ∷ ring 0x1008 2 ∷ TakeStep 1 0 ∷ TakeStep 1 1 ∷ JudgeStep 0 ∷ JudgeStep 1 ∷ MoveStep 0 0 ∷ MoveStep 1 0 ∷ PostStep 1 ∷ PostStep 0 ∷ []

-- three Flushes with identifiers 1, 2, 3, under the names 1, 2, 3, have ended; their completion queue has two slots
abbrev pub three_ended : List Step
three_ended =
    bring_up_with 2 ++ store 0x13000 (flush_of 1 ++ flush_of 2 ++ flush_of 3) ∷ ring 0x1008 3
    ∷ TakeStep 1 1 ∷ TakeStep 1 2 ∷ TakeStep 1 3 ∷ JudgeStep 1 ∷ JudgeStep 2 ∷ JudgeStep 3
    ∷ MoveStep 3 0 ∷ MoveStep 2 0 ∷ MoveStep 1 0 ∷ []

-- ---- admin commands after the bring-up

-- the doorbell is written for an admin command, and it is done as the third
abbrev pub done_third : List ℕ → List Step
done_third entry = bring_up ++ store 0x10080 entry ∷ ring 0x1000 3 ∷ AdminQueueStep ∷ []

-- or as the first, with no I/O queue there
abbrev pub done_first : List ℕ → List Step
done_first entry = enable ++ store 0x10000 entry ∷ ring 0x1000 1 ∷ AdminQueueStep ∷ []

-- the last dword of its completion
abbrev pub third_answer : List ℕ → Option ℕ
third_answer entry = after (done_third entry) start (dword_in 0x1102c)

abbrev pub first_answer : List ℕ → Option ℕ
first_answer entry = after (done_first entry) start (dword_in 0x1100c)

-- five event requests, with identifiers 3 to 7
abbrev pub five_event_requests : List ℕ
five_event_requests =
    admin_entry 0x0c 3 0 0 0 0 0 ++ admin_entry 0x0c 4 0 0 0 0 0 ++ admin_entry 0x0c 5 0 0 0 0 0
    ++ admin_entry 0x0c 6 0 0 0 0 0 ++ admin_entry 0x0c 7 0 0 0 0 0

-- Create I/O Completion Queue: number, size counted from 0, PC, and place
abbrev pub new_completion_queue : (queue size contiguous prp1 : ℕ) → List ℕ
new_completion_queue queue size contiguous prp1 = admin_entry 0x05 3 0 prp1 0 (queue + 0x10000 * size) contiguous

-- Create I/O Submission Queue likewise, with its completion queue
abbrev pub new_submission_queue : (queue size contiguous completes_to prp1 : ℕ) → List ℕ
new_submission_queue queue size contiguous completes_to prp1 =
    admin_entry 0x01 3 0 prp1 0 (queue + 0x10000 * size) (contiguous + 0x10000 * completes_to)

-- ---- the deletion of a queue that has a taken command

-- Delete I/O Submission Queue of queue 1, with identifier 4
abbrev pub delete_submission_queue : List ℕ
delete_submission_queue = admin_entry 0x00 4 0 0 0 1 0

-- the first example is taken, and then the deletion is asked for
abbrev pub deletion_begun : List Step
deletion_begun = first_taken ++ store 0x10080 delete_submission_queue ∷ ring 0x1000 3 ∷ AdminQueueStep ∷ []

-- the first example is completed
abbrev pub deletion_due : List Step
deletion_due = deletion_begun ++ carried 1 ++ PostStep 0 ∷ []

-- and the deletion done
abbrev pub deletion_done : List Step
deletion_done = deletion_due ++ AdminQueueStep ∷ []

-- ---- two submission queues

-- submission queue 2 with two slots at 14000h, whose completion queue is number 1
abbrev pub second_submission_queue : List ℕ
second_submission_queue = new_submission_queue 2 1 1 1 0x14000

-- the first example by queue 1 and a Flush with identifier 5 by queue 2, under the names 0 and 1; the Flush is completed first
abbrev pub shared_completion_queue : List Step
shared_completion_queue =
    done_third second_submission_queue ++ store 0x13000 first_example ∷ store 0x14000 (flush_of 5) ∷ ring 0x1008 1 ∷ ring 0x1010 1
    ∷ TakeStep 1 0 ∷ TakeStep 2 1 ∷ carried 1 ++ JudgeStep 1 ∷ MoveStep 1 0 ∷ PostStep 1 ∷ PostStep 0 ∷ []

-- queue pair 2 with two slots, whose completion queue has vector 5, and a Flush with identifier 5 by it, which is completed
abbrev pub vector_five : List Step
vector_five =
    done_third (admin_entry 0x05 3 0 0x14000 0 0x00010002 0x00050003)
    ++ store 0x100c0 (new_submission_queue 2 1 1 2 0x15000) ∷ ring 0x1000 4 ∷ AdminQueueStep
    ∷ store 0x15000 (flush_of 5) ∷ ring 0x1010 1 ∷ TakeStep 2 1 ∷ JudgeStep 1 ∷ MoveStep 1 0 ∷ PostStep 1 ∷ []

-- ---- footprints

-- the entry of a taken command, where one is
abbrev pub entry_of : Option Taken → List (List ℕ)
entry_of None = []
entry_of (Some t) = t.entry ∷ []

-- the bytes that each outstanding command names; the names of the taken ones are 0 and 1
abbrev pub named_bytes : Private → List (List Named)
named_bytes p = footprints guest p.memory p.controller (entry_of (p.bag 0) ++ entry_of (p.bag 1))

-- what a Read that is not taken and a taken Write name
abbrev pub read_and_write_named : List (List Named)
read_and_write_named =
    (named_as Entry 0x13000 64 ∷ named_as Destination 0x3000 512 ∷ []) ∷ (named_as Source 0x5000 512 ∷ []) ∷ []

-- a store of so many zeros, and a load of so many bytes, at an address
abbrev pub zeros_stored : (len : ℕ) → (addr : ℕ) → Act
zeros_stored len addr = act.Store addr (replicate len 0)

abbrev pub bytes_loaded : (len : ℕ) → (addr : ℕ) → Act
bytes_loaded len addr = act.Load addr len

-- a submission queue of four slots at 13000h from whose last slot on two commands wait
abbrev pub going_round : SubmissionQueue
going_round = record { base = 0x13000; size = 4; head = 3; tail = 1; completes_to = 1; closing = false }
