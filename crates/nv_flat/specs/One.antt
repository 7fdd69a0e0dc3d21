-- One command on the flat controller
use Rattle.std.specs.Prelude.{◌≡◌, ℕ, ◌/◌, Bool, true, false, not, ◌&&◌, ◌==◌, nat_le, List, ◌∷◌, length, replicate, Option, Some, None, is_none}
use Rattle.std.specs.List.{slice_index_or}
use Rattle.nv_entry.specs.Opcode.{io_opcode}
use Rattle.nv_entry.specs.Status.{StatusField}
use Rattle.nv_entry.specs.StatusCode.{done_with}
use Rattle.nv_entry.specs.Completion.{completion}
use Rattle.nv_entry.specs.Submission.{cid_of, opcode_of, psdt_of, sgl_of}
use Rattle.nv_entry.specs.Descriptor.{type_of}
use Rattle.nv_entry.specs.declared.opcode.IoOpcode.{IoOpcode}
use Rattle.nv_entry.specs.declared.opcode.IoOpcode.TheVariants.{Flush, Write, Read, Compare, WriteZeroes, DatasetManagement}
use Rattle.nv_entry.specs.declared.status_code.StatusCode.TheVariants.{InternalError}
use Rattle.nv_mem.specs.GuestMap.{mapped}
use Rattle.nv_model.specs.Memory.{byte_in, bytes_from}
use Rattle.nv_model.specs.Queue.{cqe_size}
use Rattle.nv_model.specs.Controller.{Controller}
use Rattle.nv_model.specs.Judge.{count_of, field_refusal}
use Rattle.nv_model.specs.Limits.{block, most_descriptors, page}
use Rattle.nv_model.specs.Private.{After, PostStep, Private, Shape, Taken, Unjudged, no_commands, put, step}
use Rattle.nv_model.specs.Carrying.{IsCarriedOut}
use Rattle.nv_flat.specs.Flat.{identity_map}
use Rattle.nv_disk.specs.Flat.{Flat, byte_of_block}

-- a controller with queue pair 1 after a bring-up, from which one command was taken. The queues have few slots and are at the memory's start;
-- nothing depends on where they are.
abbrev pub serving : Controller
serving = record {
  cc = 0x00460001;
  aqa = 0x00020002;
  asq_low = 0;
  asq_high = 0;
  acq_low = 0;
  acq_high = 0;
  ready = true;
  failed = false;
  submission =
      Some (record { base = 0; size = 3; head = 2; tail = 2; completes_to = 0; closing = false })
      ∷ Some (record { base = 0; size = 2; head = 1; tail = 1; completes_to = 1; closing = false }) ∷ replicate 7 None;
  completion_queues =
      Some (record { base = 0; size = 3; head = 0; tail = 2; phase = true; vector = Some 0 })
      ∷ Some (record { base = 0; size = 2; head = 0; tail = 0; phase = true; vector = None }) ∷ replicate 7 None;
  taken = 0 ∷ 1 ∷ replicate 7 0;
  held_requests = 0;
  deletion = None;
}

-- the flat controller as a private controller that serves this one command, under the name 0
abbrev pub private_of : Flat → Taken → Private
private_of f t =
    record {
      memory = byte_in f.memory;
      disk = byte_of_block f.disk;
      kept = (λ lba. slice_index_or f.kept lba false);
      controller = serving;
      bag = put no_commands 0 (Some t);
    }

-- what doesn't change: all of its memory is the guest's, and its blocks are the namespace
abbrev pub shape_of : Flat → Shape
shape_of f = record { mapped = mapped (identity_map (length f.memory)).regions; blocks = length f.disk; limit = most_descriptors }

-- the command of 64 bytes, taken from queue 1 and not judged
abbrev pub newly_taken : List ℕ → Taken
newly_taken entry = record { queue = 1; entry = entry; progress = Unjudged }

-- the 16 bytes that the next step of this state writes into the first slot of completion queue 1, where that step posts the command's
-- completion
abbrev pub slot_behind : Option After → Option (List ℕ)
slot_behind None = None
slot_behind (Some after) = Some (bytes_from after.state.memory 0 cqe_size)

abbrev pub completion_posted : Shape → Private → Option (List ℕ)
completion_posted shape p = slot_behind (step shape (PostStep 0) p)

-- some run of the private controller that judges the command and moves it to its end leads from the one to the other, and ends with
-- this status; its completion, if it is posted then, has that status
pub record IsRun (old : Flat) (entry : List ℕ) (st : StatusField) (new : Flat) : Type 0 where
  pub after : Taken
  pub carried : IsCarriedOut (shape_of old) (private_of old (newly_taken entry)) 0 (newly_taken entry) st (private_of new after)
  pub posted : completion_posted (shape_of old) (private_of new after) ≡ Some (completion 0 1 1 (cid_of entry) true st)

-- the most blocks of a command that every controller carries out: they fill a page
abbrev pub most_plain_blocks : ℕ
most_plain_blocks = page / block

-- a Read or a Write of at most 8 blocks, by a scatter gather list whose own descriptor is of the type of a Data Block: every controller
-- carries these out
abbrev pub is_read_or_write : Option IoOpcode → Bool
is_read_or_write (Some Read) = true
is_read_or_write (Some Write) = true
is_read_or_write (Some Compare) = false
is_read_or_write (Some WriteZeroes) = false
is_read_or_write (Some Flush) = false
is_read_or_write (Some DatasetManagement) = false
is_read_or_write None = false

abbrev pub is_plain : List ℕ → Bool
is_plain entry =
    is_read_or_write (io_opcode (opcode_of entry)) && not (psdt_of entry == 0) && type_of (sgl_of entry) == 0 && nat_le (count_of entry) most_plain_blocks

-- every command is carried out
abbrev pub every_command : List ℕ → Bool
every_command entry = true

-- a command whose fields are in order, but which the controller doesn't carry out, is answered Internal Error and changes nothing;
-- any other ends as a run of the private controller says
abbrev pub IsOutcome : (built refused : Bool) → Flat → List ℕ → StatusField → Flat → Type 0
IsOutcome false false old entry st new = (st ≡ done_with InternalError) × (new ≡ old)
IsOutcome false true old entry st new = IsRun old entry st new
IsOutcome true false old entry st new = IsRun old entry st new
IsOutcome true true old entry st new = IsRun old entry st new

-- the outcome of a command on a controller that carries these out
abbrev pub IsDone : (built : List ℕ → Bool) → Flat → List ℕ → StatusField → Flat → Type 0
IsDone built old entry st new = IsOutcome (built entry) (not (is_none (field_refusal (length old.disk) entry))) old entry st new
