-- The worked examples of one command
use Rattle.std.proofs.Common.{◌≡◌, ℕ, false, [], ◌∷◌, slice_index, replicate, refl, ap, arith}
use Rattle.std.specs.List.{slice_index_or}
use Rattle.nv_entry.specs.Layout.{number_at, dword, qword, bits, bytes_of_dwords}
use Rattle.nv_entry.specs.Status.{StatusField}
use Rattle.nv_entry.specs.StatusCode.{done_with, refused_with}
use Rattle.nv_entry.specs.declared.opcode.IoOpcode.TheVariants as opcode
use Rattle.nv_entry.specs.declared.status_code.StatusCode.TheVariants.{LbaOutOfRange, Success}
use Rattle.nv_mem.specs.GuestMap.{everywhere}
use Rattle.nv_mem.specs.Places.{addresses}
use Rattle.nv_mem.specs.declared.piece.Piece.TheVariants.{Run}
use Rattle.nv_model.specs.Memory.{byte_in, bytes_from}
use Rattle.nv_model.specs.Dialogue.{in_memory, and_then}
use Rattle.nv_model.specs.Sgl.{read_array, read_sgl}
use Rattle.nv_model.specs.Judge.{Work, Go, Refuse, MoveBlock, move_units, judge}
use Rattle.nv_model.specs.Private.{Moved, verdict_in}
use Rattle.nv_model.specs.Carried.{moved_on, units_moved}
use Rattle.nv_flat.specs.Examples.{block_read, block_written, read_to_half, small, write_from_half}
use Rattle.nv_disk.specs.Flat.{Flat, byte_of_block, moved_of}
use Rattle.nv_flat.specs.One.{IsRun, shape_of}
use Rattle.nv_disk.proofs.BufferLemmas.{gathered-run, scattered-run}
use Rattle.nv_disk.proofs.MoveLemmas.{marks-same, read-moved, write-moved}
use Rattle.nv_flat.proofs.OneLemmas.{moved-run, refused-run}
use Rattle.nv_flat.proofs.RunLemmas.{one-outcome, refused-unchanged}

-- ---- the Read

abbrev pub reading : Work
reading =
    record { opcode = opcode.Read; pieces = Run 0x200 512 ∷ []; ranges = []; units = MoveBlock 0 1 ∷ []; fua = false }

read-goes : verdict_in (shape_of small) (byte_in small.memory) (read_to_half 1) ≡ Go reading
unfolding number_at dword qword bits bytes_of_dwords everywhere bytes_from in_memory and_then read_array read_sgl move_units judge
read-goes = refl

read-moves : moved_of block_read false ≡ moved_on (MoveBlock 0 1) reading (moved_of small false)
unfolding addresses
read-moves =
    read-moved small.memory block_read.memory small.disk small.kept small.kept (addresses 0x200 512) 0 1 false refl
    (scattered-run small.memory 0x200 (replicate 512 0x44) (omega arith)) (marks-same small.kept 1) (Run 0x200 512 ∷ []) false refl

pub read-run : IsRun small (read_to_half 1) (done_with Success) block_read
unfolding units_moved
read-run = moved-run small block_read (read_to_half 1) reading false read-goes read-moves

pub one-read : (st : StatusField) (new : Flat) → IsRun small (read_to_half 1) st new
    → (st ≡ done_with Success) × (moved_of new false ≡ moved_of block_read false)
unfolding moved_of
one-read st new run =
    one-outcome small new (read_to_half 1) st reading (MoveBlock 0 1) (moved_of block_read false) read-goes refl read-moves run

pub bytes-of-read : (st : StatusField) (new : Flat) → IsRun small (read_to_half 1) st new → (addr : ℕ)
    → slice_index new.memory addr ≡ slice_index block_read.memory addr
unfolding moved_of byte_in
bytes-of-read st new run addr = ap (λ (m : Moved). m.memory addr) (one-read st new run).1

-- ---- the Write

abbrev pub writing : Work
writing =
    record { opcode = opcode.Write; pieces = Run 0x200 512 ∷ []; ranges = []; units = MoveBlock 0 0 ∷ []; fua = false }

write-goes : verdict_in (shape_of small) (byte_in small.memory) write_from_half ≡ Go writing
unfolding number_at dword qword bits bytes_of_dwords everywhere bytes_from in_memory and_then read_array read_sgl move_units judge
write-goes = refl

write-moves : moved_of block_written false ≡ moved_on (MoveBlock 0 0) writing (moved_of small false)
unfolding addresses
write-moves =
    write-moved small.memory small.disk small.kept (addresses 0x200 512) 0 0 (replicate 512 0x22) false (omega arith) (omega arith)
    (gathered-run small.memory 0x200 512 (omega arith)) (Run 0x200 512 ∷ []) false refl

pub write-run : IsRun small write_from_half (done_with Success) block_written
unfolding units_moved
write-run = moved-run small block_written write_from_half writing false write-goes write-moves

pub one-write : (st : StatusField) (new : Flat) → IsRun small write_from_half st new
    → (st ≡ done_with Success) × (moved_of new false ≡ moved_of block_written false)
unfolding moved_of
one-write st new run =
    one-outcome small new write_from_half st writing (MoveBlock 0 0) (moved_of block_written false) write-goes refl write-moves run

pub blocks-of-write : (st : StatusField) (new : Flat) → IsRun small write_from_half st new → (lba offset : ℕ)
    → byte_of_block new.disk lba offset ≡ byte_of_block block_written.disk lba offset
unfolding moved_of
blocks-of-write st new run lba offset = ap (λ (m : Moved). m.disk lba offset) (one-write st new run).1

pub marks-of-write : (st : StatusField) (new : Flat) → IsRun small write_from_half st new → (lba : ℕ)
    → slice_index_or new.kept lba false ≡ slice_index_or block_written.kept lba false
unfolding moved_of
marks-of-write st new run lba = ap (λ (m : Moved). m.kept lba) (one-write st new run).1

-- ---- the Read past the end

past-refused : verdict_in (shape_of small) (byte_in small.memory) (read_to_half 2) ≡ Refuse (refused_with LbaOutOfRange)
unfolding number_at dword qword bits bytes_of_dwords in_memory judge
past-refused = refl

pub past-run : IsRun small (read_to_half 2) (refused_with LbaOutOfRange) small
past-run = refused-run small (read_to_half 2) (refused_with LbaOutOfRange) past-refused

pub one-refusal : (st : StatusField) (new : Flat) → IsRun small (read_to_half 2) st new
    → (st ≡ refused_with LbaOutOfRange) × (moved_of new false ≡ moved_of small false)
one-refusal st new run = refused-unchanged small new (read_to_half 2) st (refused_with LbaOutOfRange) past-refused run
