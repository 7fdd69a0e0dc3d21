-- What the units of a command leave is a flat controller again: memory, blocks and marks that are lists
use Rattle.std.proofs.Common.{◌≡◌, ℕ, ◌<◌, Bool, true, false, ◌||◌, List, [], ◌∷◌, length, set, All}
use Rattle.std.proofs.Common.{replicate, refl, sym, ap, subst, ◌∙◌, arith, ◌*◌, take, drop, nat_lt, take-append-drop}
use Rattle.std.specs.List.{slice_index_or}
use Rattle.std.proofs.lemmas.List.{length-replicate, length-set}
use Rattle.std.proofs.lemmas.List.Elements.{All-head, All-tail}
use Rattle.nv_entry.specs.declared.opcode.IoOpcode.{IoOpcode}
use Rattle.nv_entry.specs.declared.opcode.IoOpcode.TheVariants.{Flush, Write, Read, Compare, WriteZeroes, DatasetManagement}
use Rattle.nv_mem.specs.Bytes.{InMemory, after_store}
use Rattle.nv_mem.specs.Places.{Place, At, Bucket, places_of}
use Rattle.nv_mem.proofs.Memory.{length-after_store}
use Rattle.nv_model.specs.Memory.{byte_in, gathered, scattered}
use Rattle.nv_model.specs.Judge.{WorkUnit, MoveBlock, KeepAll, Work, Verdict, Go, Refuse, ClearBlock, LeaveBlock}
use Rattle.nv_model.specs.Limits.{block}
use Rattle.nv_model.specs.Laws.{IsUnitWithin}
use Rattle.nv_model.specs.Private.{Moved, block_bytes, block_moved, moved_status, places_of_block, unit_moved, verdict_in, block_written, marked}
use Rattle.nv_model.specs.Carried.{moved_on, units_moved}
use Rattle.nv_model.proofs.Judged.{verdict-sound}
use Rattle.nv_model.proofs.MemoryLemmas.{stored-list}
use Rattle.nv_disk.proofs.BufferLemmas.{AreBelow-drop, AreBelow-front}
use Rattle.nv_disk.specs.Buffer.{AreBelow, IsBelow}
use Rattle.nv_disk.specs.Flat.{Flat, byte_of_block, flat, moved_of}
use Rattle.nv_flat.specs.Laws.{HasRun}
use Rattle.nv_flat.specs.One.{shape_of}
use Rattle.nv_disk.proofs.MoveLemmas.{marked-set, moved, written-set}
use Rattle.nv_flat.proofs.OneLemmas.{moved-run, refused-run}
use Rattle.nv_flat.proofs.PieceLemmas.{pieces-are-below}
use Rattle.nv_disk.proofs.UnitLemmas.{keep-all}

-- ---- bytes scattered in a list

pub record IsScattered (memory : List ℕ) (places : List Place) (bytes : List ℕ) : Type 0 where
  pub new : List ℕ
  pub is : byte_in new ≡ scattered (byte_in memory) places bytes
  pub size : length new ≡ length memory

one-stored : (memory : List ℕ) (addr byte : ℕ) (places : List Place) (bytes : List ℕ) → addr < length memory
    → IsScattered (after_store memory addr (byte ∷ [])) places bytes
    → IsScattered memory (At addr ∷ places) (byte ∷ bytes)
unfolding scattered byte_in
one-stored memory addr byte places bytes below rest =
    let inside : InMemory (length memory) addr (length (byte ∷ [])) = λ _. (omega arith) in
    record {
      new = rest.new;
      is = rest.is ∙ ap (λ (m : ℕ → ℕ). scattered m places bytes) (sym (stored-list memory addr (byte ∷ []) (omega arith)));
      size = rest.size ∙ length-after_store memory (byte ∷ []) addr inside;
    }

pub scattered-list : (memory : List ℕ) (places : List Place) (bytes : List ℕ) → AreBelow (length memory) places
    → IsScattered memory places bytes
unfolding scattered
scattered-list memory [] bytes each = record { new = memory; is = refl; size = refl }
scattered-list memory (place ∷ places) [] each = record { new = memory; is = refl; size = refl }
scattered-list memory (At addr ∷ places) (byte ∷ bytes) each =
    let below : addr < length memory = All-head (IsBelow (length memory)) (At addr) places each in
    let inside : InMemory (length memory) addr (length (byte ∷ [])) = λ _. (omega arith) in
    let B : ℕ → Type 0 = λ n. AreBelow n places in
    one-stored memory addr byte places bytes below
    (scattered-list (after_store memory addr (byte ∷ [])) places bytes
    (subst B (sym (length-after_store memory (byte ∷ []) addr inside)) (All-tail (IsBelow (length memory)) (At addr) places each)))
scattered-list memory (Bucket ∷ places) (byte ∷ bytes) each =
    let rest = scattered-list memory places bytes (All-tail (IsBelow (length memory)) Bucket places each) in
    record { new = rest.new; is = rest.is; size = rest.size }

-- ---- one unit

-- these are the memory, the disk and the marks of some flat controller as large as that one
pub record IsMade (old : Flat) (m : Moved) : Type 0 where
  pub new : Flat
  pub bytes : byte_in new.memory ≡ m.memory
  pub blocks : byte_of_block new.disk ≡ m.disk
  pub marks : (λ lba. slice_index_or new.kept lba false) ≡ m.kept
  pub memory_size : length new.memory ≡ length old.memory
  pub disk_size : length new.disk ≡ length old.disk
  pub marked : length new.kept ≡ length old.kept

-- the marks of a flat controller
abbrev pub marks_of : Flat → ℕ → Bool
marks_of f lba = slice_index_or f.kept lba false

-- the front of places below a size
AreBelow-take : (size n : ℕ) (places : List Place) → AreBelow size places → AreBelow size (take n places)
AreBelow-take size n places each =
    let W : List Place → Type 0 = λ ps. AreBelow size ps in
    AreBelow-front size (take n places) (drop n places) (subst W (sym (take-append-drop n places)) each)

-- a block of a command
block-made : (opcode : IoOpcode) (work : Work) (index lba : ℕ) (f : Flat) → lba < length f.disk
    → length f.kept ≡ length f.disk
    → AreBelow (length f.memory) (places_of work.pieces)
    → IsMade f (block_moved opcode work index lba (byte_in f.memory) (byte_of_block f.disk) (marks_of f))
block-made Read work index lba f below sized each =
    let made = scattered-list f.memory (places_of_block work index) (block_bytes (byte_of_block f.disk) lba)
    (AreBelow-take (length f.memory) block (drop (block * index) (places_of work.pieces)) (AreBelow-drop (length f.memory) (block * index) (places_of work.pieces) each)) in
    record {
      new = flat made.new f.disk (set f.kept lba (marks_of f lba || work.fua));
      bytes = made.is;
      blocks = refl;
      marks = marked-set f.kept lba (marks_of f lba || work.fua) (omega arith);
      memory_size = made.size;
      disk_size = refl;
      marked = length-set f.kept lba (marks_of f lba || work.fua);
    }
block-made Write work index lba f below sized each =
    record {
      new = flat f.memory (set f.disk lba (gathered (byte_in f.memory) _)) (set f.kept lba work.fua);
      bytes = refl;
      blocks = written-set f.disk lba _ below;
      marks = marked-set f.kept lba work.fua (omega arith);
      memory_size = refl;
      disk_size = length-set f.disk lba _;
      marked = length-set f.kept lba work.fua;
    }
block-made Compare work index lba f below sized each =
    record {
      new = flat f.memory f.disk (set f.kept lba (marks_of f lba || work.fua));
      bytes = refl;
      blocks = refl;
      marks = marked-set f.kept lba (marks_of f lba || work.fua) (omega arith);
      memory_size = refl;
      disk_size = refl;
      marked = length-set f.kept lba (marks_of f lba || work.fua);
    }
block-made WriteZeroes work index lba f below sized each =
    record { new = f; bytes = refl; blocks = refl; marks = refl; memory_size = refl; disk_size = refl; marked = refl }
block-made DatasetManagement work index lba f below sized each =
    record { new = f; bytes = refl; blocks = refl; marks = refl; memory_size = refl; disk_size = refl; marked = refl }
block-made Flush work index lba f below sized each =
    record { new = f; bytes = refl; blocks = refl; marks = refl; memory_size = refl; disk_size = refl; marked = refl }

-- a block that is cleared
clear-made : (lba : ℕ) (mark : Bool) (f : Flat) → lba < length f.disk → length f.kept ≡ length f.disk
    → IsMade f (record { memory = byte_in f.memory; disk = block_written (byte_of_block f.disk) lba (replicate 512 0); kept = marked (marks_of f) lba mark; differed = false })
clear-made lba mark f below sized =
    record {
      new = flat f.memory (set f.disk lba (replicate 512 0)) (set f.kept lba mark);
      bytes = refl;
      blocks = written-set f.disk lba (replicate 512 0) below;
      marks = marked-set f.kept lba mark (omega arith);
      memory_size = refl;
      disk_size = length-set f.disk lba (replicate 512 0);
      marked = length-set f.kept lba mark;
    }

-- every block kept
every-mark : (work : Work) (f : Flat) (blocks : ℕ) → length f.kept ≡ blocks
    → ◌≡◌ {A = ℕ → Bool} (λ lba. slice_index_or (replicate blocks true) lba false) (λ lba. nat_lt lba blocks || marks_of f lba)
unfolding moved_of
every-mark work f blocks many = ap (λ (m : Moved). m.kept) (keep-all work f.memory f.disk f.kept blocks false many)

-- a unit of a command
unit-made : (work : Work) (unit : WorkUnit) (f : Flat) → IsUnitWithin (length f.disk) unit
    → length f.kept ≡ length f.disk
    → AreBelow (length f.memory) (places_of work.pieces)
    → IsMade f (unit_moved unit work (byte_in f.memory) (byte_of_block f.disk) (marks_of f))
unit-made work (MoveBlock index lba) f below sized each = block-made work.opcode work index lba f below sized each
unit-made work (ClearBlock lba mark) f below sized each = clear-made lba mark f below sized
unit-made work (LeaveBlock lba) f below sized each =
    record { new = f; bytes = refl; blocks = refl; marks = refl; memory_size = refl; disk_size = refl; marked = refl }
unit-made work (KeepAll blocks) f all sized each =
    record {
      new = flat f.memory f.disk (replicate blocks true);
      bytes = refl;
      blocks = refl;
      marks = every-mark work f blocks (sized ∙ sym all);
      memory_size = refl;
      disk_size = refl;
      marked = length-replicate blocks true ∙ all ∙ sym sized;
    }

-- ---- units in order

-- this is what is seen of a flat controller as large as that one
pub record IsLeft (old : Flat) (m : Moved) : Type 0 where
  pub new : Flat
  pub is : moved_of new m.differed ≡ m
  pub memory_size : length new.memory ≡ length old.memory
  pub disk_size : length new.disk ≡ length old.disk
  pub marked : length new.kept ≡ length old.kept

units-left : (work : Work) (units : List WorkUnit) (f : Flat) (differed : Bool)
    → All (IsUnitWithin (length f.disk)) units → length f.kept ≡ length f.disk
    → AreBelow (length f.memory) (places_of work.pieces) → IsLeft f (units_moved units work (moved_of f differed))
unfolding units_moved moved_of
units-left work [] f differed within sized each =
    record { new = f; is = refl; memory_size = refl; disk_size = refl; marked = refl }
units-left work (unit ∷ units) f differed within sized each =
    let one = unit-made work unit f (All-head (IsUnitWithin (length f.disk)) unit units within) sized each in
    let n : Moved = moved_on unit work (moved_of f differed) in
    let W : ℕ → Type 0 = λ blocks. All (IsUnitWithin blocks) units in
    let B : ℕ → Type 0 = λ size. AreBelow size (places_of work.pieces) in
    let rest = units-left work units one.new n.differed (subst W (sym one.disk_size) (All-tail (IsUnitWithin (length f.disk)) unit units within))
    (one.marked ∙ sized ∙ sym one.disk_size) (subst B (sym one.memory_size) each) in
    let same : moved_of one.new n.differed ≡ n =
    moved (byte_in one.new.memory) n.memory (byte_of_block one.new.disk) n.disk (marks_of one.new)
    n.kept n.differed n.differed one.bytes one.blocks one.marks refl in
    let L : Moved → Type 0 = λ m. IsLeft one.new (units_moved units work m) in
    let done = subst L same rest in
    record {
      new = done.new;
      is = done.is;
      memory_size = done.memory_size ∙ one.memory_size;
      disk_size = done.disk_size ∙ one.disk_size;
      marked = done.marked ∙ one.marked;
    }

-- ---- every command has a run

has-run : (old : Flat) (entry : List ℕ) (verdict : Verdict)
    → verdict_in (shape_of old) (byte_in old.memory) entry ≡ verdict
    → length old.kept ≡ length old.disk → HasRun old entry
has-run old entry (Refuse st) judged sized =
    record { st = st; new = old; run = refused-run old entry st judged; memory_size = refl; disk_size = refl; marked = refl }
has-run old entry (Go work) judged sized =
    let shape = shape_of old in
    let sound = verdict-sound shape.mapped shape.limit shape.blocks entry (byte_in old.memory) work judged in
    let left = units-left work work.units old false sound.within sized (pieces-are-below (length old.memory) work.pieces sound.mapped_each) in
    let differed : Bool = (units_moved work.units work (moved_of old false)).differed in
    record {
      st = moved_status differed;
      new = left.new;
      run = moved-run old left.new entry work differed judged left.is;
      memory_size = left.memory_size;
      disk_size = left.disk_size;
      marked = left.marked;
    }

pub every-command : (old : Flat) (entry : List ℕ) → length old.kept ≡ length old.disk → HasRun old entry
every-command old entry sized = has-run old entry (verdict_in (shape_of old) (byte_in old.memory) entry) refl sized
