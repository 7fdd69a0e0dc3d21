-- What a command's list says
use Rattle.std.specs.Prelude.{◌≡◌, ℕ, ◌+◌, ◌<◌, ◌≤◌, List, length, Option, Some, None}
use Rattle.nv_entry.specs.Status.{StatusField}
use Rattle.nv_entry.specs.StatusCode.{done_with, refused_with}
use Rattle.nv_entry.specs.Opcode.{data_pointer}
use Rattle.nv_entry.specs.Submission.{psdt_of}
use Rattle.nv_entry.specs.declared.data_pointer.DataPointer.{DataPointer}
use Rattle.nv_entry.specs.declared.status_code.StatusCode.TheVariants.{InternalError}
use Rattle.nv_judge.specs.declared.need.Need.{Need}
use Rattle.nv_mem.specs.GuestMap.{mapped}
use Rattle.nv_model.specs.Dialogue.{Dialogue, End, and_then, in_memory}
use Rattle.nv_model.specs.Judge.{read_by, sized}
use Rattle.nv_model.specs.Limits.{most_descriptors, part_size}
use Rattle.nv_model.specs.Reading.{Reading, Faulty, TooLong, Spells}
use Rattle.nv_flat.specs.Flat.{identity_map}
use Rattle.nv_model.specs.Memory.{byte_in}
use Rattle.nv_disk.specs.Flat.{Flat}
use Rattle.nv_flat.specs.declared.lists.Listed.{Listed}
use Rattle.nv_flat.specs.declared.lists.Listed.TheVariants.{Refused, Named}

-- the list of a command whose data pointer holds this, in a memory of that size, for the transfer that the command needs
abbrev pub list_dialogue : DataPointer → (size : ℕ) → List ℕ → Need → Dialogue Reading
list_dialogue pointer size entry need =
    and_then (read_by pointer (mapped (identity_map size).regions) most_descriptors need.dest need.bytes entry) (λ reading. End (sized need.bytes reading))

-- the same, as it ends in the memory
abbrev pub reading_by : DataPointer → Flat → List ℕ → Need → Reading
reading_by pointer f entry need = in_memory (byte_in f.memory) (list_dialogue pointer (length f.memory) entry need)

-- the reading of a command's list
abbrev pub list_reading : Flat → List ℕ → Need → Reading
list_reading f entry need = reading_by (data_pointer (psdt_of entry)) f entry need

-- the status with which a reading refuses
abbrev pub refusal_of_reading : Reading → Option StatusField
refusal_of_reading (Faulty code) = Some (refused_with code)
refusal_of_reading TooLong = Some (done_with InternalError)
refusal_of_reading (Spells pieces) = None

-- refused as the reading says, or the places that it spells
abbrev pub IsListed : Listed → Reading → Type 0
IsListed (Refused st) reading = refusal_of_reading reading ≡ Some st
IsListed (Named places) reading = reading ≡ Spells places

-- some bytes of a list lie in the memory, a part of it at most
pub record IsPartThere (memory : List ℕ) (addr len : ℕ) : Type 0 where
  pub some : 0 < len
  pub at_most : len ≤ part_size
  pub inside : addr + len ≤ length memory
