-- A share's units are the whole's units of its numbers, and move what those move.
use Rattle.std.proofs.Common.{◌≡◌, ℕ, zero, suc, ◌+◌, ◌-◌, ◌*◌, ◌<◌, ◌≤◌, Bool, false, ◌||◌, List, length, take, drop, Some, refl, ap}
use Rattle.std.proofs.Common.{sym, ◌∙◌, arith}
use Rattle.std.specs.List.{range_with_len, slice_get}
use Rattle.std.proofs.lemmas.List.{drop-drop, drop-take, take-take}
use Rattle.std.proofs.lemmas.List.FromFn.{length-range_with_len}
use Rattle.nv_entry.specs.declared.opcode.IoOpcode.{IoOpcode}
use Rattle.nv_entry.specs.declared.opcode.IoOpcode.TheVariants.{Compare, DatasetManagement, Flush, Read, Write, WriteZeroes}
use Rattle.nv_mem.specs.Places.{Place, places_of}
use Rattle.nv_mem.specs.declared.piece.Piece.{Piece}
use Rattle.nv_model.specs.Judge.{ClearBlock, LeaveBlock, MoveBlock, Work, WorkUnit, move_units, clear_units}
use Rattle.nv_model.specs.Limits.{block}
use Rattle.nv_model.specs.Memory.{gathered, scattered}
use Rattle.nv_model.specs.Private.{Moved, block_bytes, block_moved, block_written, differs, marked, places_of_block}
use Rattle.nv_model.proofs.Units.{clear_units-at, length-clear_units, length-move_units, move_units-at}
use Rattle.nv_world_model.specs.Share.{cut_pieces, unit_behind, units_at}
use Rattle.nv_world_model.specs.SharesLaws.{IsPartOf, MovesAlike}
use Rattle.nv_world_model.proofs.CutPieces.{places_of-cut_pieces}
use Rattle.nv_world_model.proofs.ShareUnits.{units-get, units-size}
use Rattle.nv_world_model.proofs.Windows.{window}

-- ---- a window of a window

pub window-window : {X : Type 0} (at n skip len : ℕ) (xs : List X) → at + n ≤ len → window at n (window skip len xs) ≡ window (skip + at) n xs
window-window {X = X} at n skip len xs within =
    let sum : len ≡ at + (len - at) = omega arith in
    ap (λ (m : ℕ). take n (drop at (take m (drop skip xs)))) sum
    ∙ ap (take n) (drop-take at (len - at) (drop skip xs))
    ∙ take-take n (len - at) (drop at (drop skip xs)) (omega arith)
    ∙ ap (take n) (drop-drop at skip xs)

-- ---- moving

abbrev moved_read : (memory : ℕ → ℕ) (disk : ℕ → ℕ → ℕ) (kept : ℕ → Bool) (lba : ℕ) → List Place → (fua : Bool) → Moved
moved_read memory disk kept lba places fua =
    record { memory = scattered memory places (block_bytes disk lba); disk = disk; kept = marked kept lba (kept lba || fua); differed = false }

abbrev moved_write : (memory : ℕ → ℕ) (disk : ℕ → ℕ → ℕ) (kept : ℕ → Bool) (lba : ℕ) → List Place → (fua : Bool) → Moved
moved_write memory disk kept lba places fua =
    record { memory = memory; disk = block_written disk lba (gathered memory places); kept = marked kept lba fua; differed = false }

abbrev moved_compare : (memory : ℕ → ℕ) (disk : ℕ → ℕ → ℕ) (kept : ℕ → Bool) (lba : ℕ) → List Place → (fua : Bool) → Moved
moved_compare memory disk kept lba places fua =
    record {
      memory = memory;
      disk = disk;
      kept = marked kept lba (kept lba || fua);
      differed = differs (gathered memory places) (block_bytes disk lba);
    }

block_moved-same : (opcode : IoOpcode) (own whole : Work) (k index lba : ℕ) (memory : ℕ → ℕ) (disk : ℕ → ℕ → ℕ) (kept : ℕ → Bool)
    → own.fua ≡ whole.fua → places_of_block own k ≡ places_of_block whole index
    → block_moved opcode own k lba memory disk kept ≡ block_moved opcode whole index lba memory disk kept
block_moved-same Read own whole k index lba memory disk kept fua places =
    ap (λ (ps : List Place). moved_read memory disk kept lba ps own.fua) places
    ∙ ap (moved_read memory disk kept lba (places_of_block whole index)) fua
block_moved-same Write own whole k index lba memory disk kept fua places =
    ap (λ (ps : List Place). moved_write memory disk kept lba ps own.fua) places
    ∙ ap (moved_write memory disk kept lba (places_of_block whole index)) fua
block_moved-same Compare own whole k index lba memory disk kept fua places =
    ap (λ (ps : List Place). moved_compare memory disk kept lba ps own.fua) places
    ∙ ap (moved_compare memory disk kept lba (places_of_block whole index)) fua
block_moved-same WriteZeroes own whole k index lba memory disk kept fua places = refl
block_moved-same DatasetManagement own whole k index lba memory disk kept fua places = refl
block_moved-same Flush own whole k index lba memory disk kept fua places = refl

-- a block of what is cut out lies where it lay
cut-block : (first count k : ℕ) (pieces : List Piece) → k < count
    → take block (drop (block * (first + k - first)) (places_of (cut_pieces (block * first) (block * count) pieces)))
    ≡ take block (drop (block * (first + k)) (places_of pieces))
cut-block first count k pieces below =
    let at : block * (first + k - first) ≡ block * k = omega arith in
    let on : block * first + block * k ≡ block * (first + k) = omega arith in
    ap (λ (n : ℕ). take block (drop n (places_of (cut_pieces (block * first) (block * count) pieces)))) at
    ∙ ap (λ (places : List Place). take block (drop (block * k) places)) (places_of-cut_pieces (block * first) (block * count) pieces)
    ∙ window-window (block * k) block (block * first) (block * count) (places_of pieces) (omega arith)
    ∙ ap (λ (n : ℕ). take block (drop n (places_of pieces))) on

-- ---- numbers in a row

pub range-get : (from count k number : ℕ) → slice_get (range_with_len from count) k ≡ Some number → (k < count) × (number ≡ from + k)
range-get from zero k number is = absurd (cc)
range-get from (suc count) zero number is = let same : from ≡ number = cc in (omega arith, omega arith)
range-get from (suc count) (suc k) number is = let on = range-get (from + 1) count k number is in (omega (arith, on.0), omega (arith, on.1))

-- the work of a run's share
abbrev pub run_work : Work → (first count : ℕ) → Work
run_work work first count =
    record work {
      pieces = cut_pieces (block * first) (block * count) work.pieces;
      units = units_at first work.units (range_with_len first count);
    }

-- a unit of a transfer
transfer-alike : (work : Work) (first count k lba : ℕ) → k < count
    → MovesAlike work (run_work work first count) (MoveBlock (first + k) lba) (unit_behind first (MoveBlock (first + k) lba))
transfer-alike work first count k lba below =
    record {
      same = λ memory disk kept. block_moved-same work.opcode (run_work work first count) work (first + k - first) (first + k) lba memory disk kept refl
          (cut-block first count k work.pieces below);
    }

-- a unit that clears a block
pub clear-alike : (work own : Work) (lba : ℕ) (mark : Bool) → MovesAlike work own (ClearBlock lba mark) (ClearBlock lba mark)
clear-alike work own lba mark = record { same = λ memory disk kept. refl }

pub leave-alike : (work own : Work) (lba : ℕ) → MovesAlike work own (LeaveBlock lba) (LeaveBlock lba)
leave-alike work own lba = record { same = λ memory disk kept. refl }

-- the share of a run of a transfer
pub run_part-transfer : (work : Work) (slba n first count : ℕ) → work.units ≡ move_units (range_with_len slba n) → first + count ≤ n
    → IsPartOf work (run_work work first count) (range_with_len first count)
run_part-transfer work slba n first count units within =
    let size : length work.units ≡ n = ap length units ∙ length-move_units slba n in
    record {
      opcode = refl;
      size = units-size first count work.units (omega arith) ∙ sym (length-range_with_len first count);
      each = λ k number is.
          (let at = range-get first count k number is in
          let below = at.0 in
          let there : slice_get work.units (first + k) ≡ Some (MoveBlock (first + k) (slba + (first + k))) =
          ap (λ (xs : List WorkUnit). slice_get xs (first + k)) units ∙ move_units-at slba n (first + k) (omega arith) in (
            MoveBlock (first + k) (slba + (first + k)),
            (
              unit_behind first (MoveBlock (first + k) (slba + (first + k))),
              (
                ap (slice_get work.units) at.1 ∙ there,
                units-get first count k work.units (MoveBlock (first + k) (slba + (first + k))) below (omega arith) there,
                transfer-alike work first count k (slba + (first + k)) below,
              ),
            ),
          ));
    }

pub run_part-clear : (work : Work) (mark : Bool) (slba n first count : ℕ) → work.units ≡ clear_units mark (range_with_len slba n) → first + count ≤ n
    → IsPartOf work (run_work work first count) (range_with_len first count)
run_part-clear work mark slba n first count units within =
    let size : length work.units ≡ n = ap length units ∙ length-clear_units mark slba n in
    record {
      opcode = refl;
      size = units-size first count work.units (omega arith) ∙ sym (length-range_with_len first count);
      each = λ k number is.
          (let at = range-get first count k number is in
          let below = at.0 in
          let there : slice_get work.units (first + k) ≡ Some (ClearBlock (slba + (first + k)) mark) =
          ap (λ (xs : List WorkUnit). slice_get xs (first + k)) units ∙ clear_units-at mark slba n (first + k) (omega arith) in (
            ClearBlock (slba + (first + k)) mark,
            (
              ClearBlock (slba + (first + k)) mark,
              (
                ap (slice_get work.units) at.1 ∙ there,
                units-get first count k work.units (ClearBlock (slba + (first + k)) mark) below (omega arith) there,
                clear-alike work (run_work work first count) (slba + (first + k)) mark,
              ),
            ),
          ));
    }
