-- What the units of a command come to
use Rattle.std.proofs.Common.{◌≡◌, ℕ, true, false, ◌&&◌, List, [], ◌∷◌, map, refl, ap, ◌∙◌}
use Rattle.std.specs.List.{range_with_len}
use Rattle.nv_entry.specs.Range.{blocks_of, start_of}
use Rattle.nv_entry.specs.Submission.{slba_of}
use Rattle.nv_entry.specs.declared.opcode.IoOpcode.{IoOpcode}
use Rattle.nv_entry.specs.declared.opcode.IoOpcode.TheVariants.{Flush, Write, Read, Compare, WriteZeroes, DatasetManagement}
use Rattle.nv_mem.specs.declared.piece.Piece.{Piece}
use Rattle.nv_model.specs.Judge.{LeaveBlock, Work, WorkUnit, clear_units, count_of, form_of, form_units, has_blocks, is_fua, lbas_of, move_units, range_units, work_of}
use Rattle.nv_model.specs.Private.{Moved}
use Rattle.nv_model.specs.Carried.{block_work, units_moved}
use Rattle.nv_model.specs.Carrying.{cleared, units_from}
use Rattle.nv_model.proofs.CarriedOut.{units_moved-append}
use Rattle.nv_model.proofs.UnitWords.{move_units-range, units_moved-cleared, units_moved-left, units_moved-others}
use Rattle.nv_flat.specs.Transfer.{is_transfer}

-- the units of a Read, Write or Compare move block after block
pub units_moved-transfer : (blocks : ℕ) (opcode : IoOpcode) (entry : List ℕ) (pieces : List Piece) (m : Moved)
    → is_transfer opcode ≡ true
    → units_moved (work_of blocks opcode entry pieces []).units (work_of blocks opcode entry pieces []) m
    ≡ units_moved (units_from 0 (slba_of entry) (count_of entry)) (block_work opcode pieces (has_blocks opcode && is_fua entry)) m
units_moved-transfer blocks opcode entry pieces m t =
    units_moved-others (form_units (form_of opcode) blocks entry []) (form_units (form_of opcode) blocks entry [])
    (block_work opcode pieces (has_blocks opcode && is_fua entry)) m
    ∙ ap (λ (us : List WorkUnit). units_moved us (block_work opcode pieces (has_blocks opcode && is_fua entry)) m)
    (transfer-units opcode t ∙ move_units-range (slba_of entry) (count_of entry))
  where
    transfer-units : (opcode : IoOpcode) → is_transfer opcode ≡ true
        → form_units (form_of opcode) blocks entry [] ≡ move_units (lbas_of entry)
    transfer-units Read t = refl
    transfer-units Write t = refl
    transfer-units Compare t = refl
    transfer-units Flush t = cc
    transfer-units WriteZeroes t = cc
    transfer-units DatasetManagement t = cc

-- ---- ranges

-- one more range that is deallocated, and then those behind it
pub deallocated-more : (range : List ℕ) (ranges : List (List ℕ)) (work : Work) (m : Moved)
    → units_moved (range_units true (range ∷ ranges)) work m
    ≡ units_moved (range_units true ranges) work (cleared (range_with_len (start_of range) (blocks_of range)) false m)
unfolding range_units
deallocated-more range ranges work m =
    units_moved-append (clear_units false (range_with_len (start_of range) (blocks_of range))) (range_units true ranges) work m
    ∙ ap (units_moved (range_units true ranges) work) (units_moved-cleared false (range_with_len (start_of range) (blocks_of range)) work m)

-- ranges that are not
pub ranges-kept : (work : Work) (ranges : List (List ℕ)) (m : Moved) → units_moved (range_units false ranges) work m ≡ m
unfolding units_moved range_units
ranges-kept work [] m = refl
ranges-kept work (range ∷ ranges) m =
    units_moved-append (map LeaveBlock (range_with_len (start_of range) (blocks_of range))) (range_units false ranges) work m
    ∙ ap (units_moved (range_units false ranges) work) (units_moved-left (range_with_len (start_of range) (blocks_of range)) work m)
    ∙ ranges-kept work ranges m
