-- A block that moves, over a memory, blocks and marks that are lists
use Rattle.std.proofs.Common.{◌≡◌, ℕ, suc, ◌+◌, ◌*◌, ◌<◌, Bool, true, false}
use Rattle.std.proofs.Common.{◌||◌, List, [], length, slice_index, get_or, set}
use Rattle.std.proofs.Common.{take, drop, refl, sym, ap, ◌∙◌, arith, cond, ◌==◌, inl, inr, replicate}
use Rattle.std.proofs.lemmas.Bool.{cases_eq}
use Rattle.std.proofs.lemmas.Grind.{get_or-set_at}
use Rattle.std.proofs.lemmas.List.{get_or-set_other, get_or_past}
use Rattle.std.proofs.Math.Seq.{take-length}
use mathlib.Core.Path.{fun_ext}
use Rattle.std.specs.List.{slice_index_or, range_with_len}
use Rattle.std.proofs.lemmas.Bool.Decides.{nat_tests}
use Rattle.nv_entry.specs.declared.opcode.IoOpcode.TheVariants.{Compare, Read, Write}
use Rattle.nv_mem.specs.Places.{Place, places_of}
use Rattle.nv_mem.specs.declared.piece.Piece.{Piece}
use Rattle.nv_model.specs.Memory.{byte_in, gathered, scattered, stored}
use Rattle.nv_model.proofs.MemoryLemmas.{bytes_from-list}
use Rattle.nv_model.specs.Judge.{Work, MoveBlock}
use Rattle.nv_model.specs.Private.{Moved, block_bytes, block_written, differs, marked}
use Rattle.nv_model.specs.Carried.{block_work, moved_on, units_moved}
use Rattle.nv_model.specs.Carrying.{cleared, cleared_one, units_from}
use Rattle.nv_model.proofs.UnitWords.{or-false}
use Rattle.nv_disk.specs.Flat.{byte_of_block, flat, moved_of}
use Rattle.nv_disk.proofs.BufferLemmas.{scattered-take}

-- equal in each part
pub moved : (m n : ℕ → ℕ) (d e : ℕ → ℕ → ℕ) (k l : ℕ → Bool) (x y : Bool) → m ≡ n → d ≡ e → k ≡ l → x ≡ y
    → ◌≡◌ {A = Moved} (record { memory = m; disk = d; kept = k; differed = x }) (record { memory = n; disk = e; kept = l; differed = y })
moved m n d e k l x y same_memory same_disk same_marks same_differed =
    ap (λ (z : ℕ → ℕ). let r : Moved = record { memory = z; disk = d; kept = k; differed = x } in r) same_memory
    ∙ ap (λ (z : ℕ → ℕ → ℕ). let r : Moved = record { memory = n; disk = z; kept = k; differed = x } in r) same_disk
    ∙ ap (λ (z : ℕ → Bool). let r : Moved = record { memory = n; disk = e; kept = z; differed = x } in r) same_marks
    ∙ ap (λ (z : Bool). let r : Moved = record { memory = n; disk = e; kept = l; differed = z } in r) same_differed

pub or-true : (b : Bool) → b || true ≡ true
or-true true = refl
or-true false = refl

-- the bytes of a block of 512
pub block_bytes-list : (disk : List (List ℕ)) (lba : ℕ) → length (slice_index_or disk lba []) ≡ 512
    → block_bytes (byte_of_block disk) lba ≡ slice_index_or disk lba []
block_bytes-list disk lba sized =
    bytes_from-list (slice_index_or disk lba []) 0 512 (omega arith)
    ∙ (rw (← sized) (take-length (slice_index_or disk lba [])))

-- an element of a list with one set
get_or-set_here : {A : Type 0} (xs : List A) (at : ℕ) (x : A) (i : ℕ) (d : A) → at < length xs → i ≡ at
    → get_or (set xs at x) i d ≡ cond (i == at) x (get_or xs i d)
get_or-set_here xs at x i d below same = let e = get_or-set_at xs at i x d same below in grind (arith, nat_tests, e)

get_or-set_elsewhere : {A : Type 0} (xs : List A) (at : ℕ) (x : A) (i : ℕ) (d : A) → (i ≡ at → ⊥)
    → get_or (set xs at x) i d ≡ cond (i == at) x (get_or xs i d)
get_or-set_elsewhere xs at x i d other = let e = get_or-set_other xs at i x d other in grind (arith, nat_tests, e)

pub get_or-set : {A : Type 0} (xs : List A) (at : ℕ) (x : A) (i : ℕ) (d : A) → at < length xs
    → get_or (set xs at x) i d ≡ cond (i == at) x (get_or xs i d)
get_or-set xs at x i d below =
    elim (cases_eq i at) [ inl same ↦ get_or-set_here xs at x i d below same | inr other ↦ get_or-set_elsewhere xs at x i d other ]

-- the marks with one set
pub marked-set : (kept : List Bool) (lba : ℕ) (mark : Bool) → lba < length kept
    → (λ b. slice_index_or (set kept lba mark) b false) ≡ marked (λ b. slice_index_or kept b false) lba mark
marked-set kept lba mark below = fun_ext (λ b. get_or-set kept lba mark b false below)

-- the bytes of a block of 512
stored-whole : (bytes : List ℕ) (offset : ℕ) → stored (λ _. 0) 0 bytes offset ≡ slice_index bytes offset
unfolding stored
stored-whole bytes offset = let past = get_or_past bytes offset 0 in grind (arith, nat_tests, past)

-- the disk with one block written
pub written-set : (disk : List (List ℕ)) (lba : ℕ) (bytes : List ℕ) → lba < length disk
    → byte_of_block (set disk lba bytes) ≡ block_written (byte_of_block disk) lba bytes
written-set disk lba bytes below = fun_ext (λ at. fun_ext (λ offset.
    ap (λ (block : List ℕ). slice_index block offset) (get_or-set disk lba bytes at [] below)
    ∙ (elim (at == lba) as (λ b. slice_index (cond b bytes (get_or disk at [])) offset ≡ cond b (stored (λ _. 0) 0 bytes offset) (byte_of_block disk at offset)) [
      | true ↦ sym (stored-whole bytes offset)
      | false ↦ refl
    ])))

-- a block that was read into the buffer is one moved unit
pub read-moved : (memory new : List ℕ) (disk : List (List ℕ)) (kept marks : List Bool) (places : List Place) (index lba : ℕ) (fua : Bool)
    → length (slice_index_or disk lba []) ≡ 512
    → byte_in new ≡ scattered (byte_in memory) places (slice_index_or disk lba [])
    → (λ b. slice_index_or marks b false) ≡ marked (λ b. slice_index_or kept b false) lba (slice_index_or kept lba false || fua)
    → (pieces : List Piece) (differed : Bool) → places ≡ drop (512 * index) (places_of pieces)
    → moved_of (flat new disk marks) differed
    ≡ moved_on (MoveBlock index lba) (block_work Read pieces fua) (moved_of (flat memory disk kept) differed)
unfolding moved_of
read-moved memory new disk kept marks places index lba fua sized scatter mark pieces differed at =
    moved (byte_in new) _ (byte_of_block disk) (byte_of_block disk) _ _ differed (differed || false)
    (scatter
    ∙ ap (λ (ps : List Place). scattered (byte_in memory) ps (slice_index_or disk lba [])) at
    ∙ sym (scattered-take (byte_in memory) 512 (drop (512 * index) (places_of pieces)) (slice_index_or disk lba []) sized)
    ∙ ap (scattered (byte_in memory) (take 512 (drop (512 * index) (places_of pieces)))) (sym (block_bytes-list disk lba sized)))
    refl mark (sym (or-false differed))

-- a block that was written from the buffer is one moved unit
pub write-moved : (memory : List ℕ) (disk : List (List ℕ)) (kept : List Bool) (places : List Place) (index lba : ℕ) (bytes : List ℕ) (fua : Bool)
    → lba < length disk → lba < length kept
    → bytes ≡ gathered (byte_in memory) (take 512 places)
    → (pieces : List Piece) (differed : Bool) → places ≡ drop (512 * index) (places_of pieces)
    → moved_of (flat memory (set disk lba bytes) (set kept lba fua)) differed
    ≡ moved_on (MoveBlock index lba) (block_work Write pieces fua) (moved_of (flat memory disk kept) differed)
unfolding moved_of
write-moved memory disk kept places index lba bytes fua block mark gather pieces differed at =
    moved (byte_in memory) _ (byte_of_block (set disk lba bytes)) _ _ _ differed (differed || false)
    refl
    (written-set disk lba bytes block
    ∙ ap (block_written (byte_of_block disk) lba) (gather ∙ ap (λ (ps : List Place). gathered (byte_in memory) (take 512 ps)) at))
    (marked-set kept lba fua mark) (sym (or-false differed))

-- a block that was compared with the buffer is one moved unit
pub compare-moved : (memory : List ℕ) (disk : List (List ℕ)) (kept marks : List Bool) (places : List Place) (index lba : ℕ) (bytes : List ℕ) (fua unlike : Bool)
    → length (slice_index_or disk lba []) ≡ 512
    → bytes ≡ gathered (byte_in memory) (take 512 places)
    → differs bytes (slice_index_or disk lba []) ≡ unlike
    → (λ b. slice_index_or marks b false) ≡ marked (λ b. slice_index_or kept b false) lba (slice_index_or kept lba false || fua)
    → (pieces : List Piece) (differed : Bool) → places ≡ drop (512 * index) (places_of pieces)
    → moved_of (flat memory disk marks) (differed || unlike)
    ≡ moved_on (MoveBlock index lba) (block_work Compare pieces fua) (moved_of (flat memory disk kept) differed)
unfolding moved_of
compare-moved memory disk kept marks places index lba bytes fua unlike sized gather differ mark pieces differed at =
    moved (byte_in memory) _ (byte_of_block disk) _ _ _ (differed || unlike) _
    refl refl mark
    (ap (λ (b : Bool). differed || b)
    (sym differ
    ∙ ap (λ (xs : List ℕ). differs xs (slice_index_or disk lba [])) (gather ∙ ap (λ (ps : List Place). gathered (byte_in memory) (take 512 ps)) at)
    ∙ ap (differs (gathered (byte_in memory) (take 512 (drop (512 * index) (places_of pieces))))) (sym (block_bytes-list disk lba sized))))

-- marks that stay, or rise, as a set FUA bit says
pub marks-raised : (kept : List Bool) (lba : ℕ) → lba < length kept
    → (λ b. slice_index_or (set kept lba true) b false) ≡ marked (λ b. slice_index_or kept b false) lba (slice_index_or kept lba false || true)
marks-raised kept lba below =
    marked-set kept lba true below
    ∙ ap (marked (λ b. slice_index_or kept b false) lba) (sym (or-true (slice_index_or kept lba false)))

pub marks-same : (kept : List Bool) (lba : ℕ)
    → (λ b. slice_index_or kept b false) ≡ marked (λ b. slice_index_or kept b false) lba (slice_index_or kept lba false || false)
marks-same kept lba = fun_ext (λ b. elim (cases_eq b lba) [ inl same ↦ here b same | inr other ↦ there b other ])
  where
    here : (b : ℕ) → b ≡ lba
        → slice_index_or kept b false ≡ marked (λ b. slice_index_or kept b false) lba (slice_index_or kept lba false || false) b
    here b same =
        elim (b == lba) as (λ test. slice_index_or kept b false ≡ cond test (slice_index_or kept lba false || false) (slice_index_or kept b false)) [
          | true ↦ ap (λ (n : ℕ). slice_index_or kept n false) same ∙ sym (or-false (slice_index_or kept lba false))
          | false ↦ refl
        ]

    there : (b : ℕ) → (b ≡ lba → ⊥)
        → slice_index_or kept b false ≡ marked (λ b. slice_index_or kept b false) lba (slice_index_or kept lba false || false) b
    there b other = grind (arith, nat_tests)

-- one more unit, and then those behind it
pub units_moved-from : (work : Work) (m : Moved) (index lba n left : ℕ) → left ≡ suc n
    → units_moved (units_from index lba left) work m ≡ units_moved (units_from (index + 1) (lba + 1) n) work (moved_on (MoveBlock index lba) work m)
unfolding units_from units_moved
units_moved-from work m index lba n left e = rw e refl

-- no more units
pub units_moved-none : (work : Work) (m : Moved) (index lba left : ℕ) → left ≡ 0
    → units_moved (units_from index lba left) work m ≡ m
unfolding units_from units_moved
units_moved-none work m index lba left e = rw e refl

-- ---- blocks that become zeros

-- one block is cleared
pub cleared-set : (memory : List ℕ) (disk : List (List ℕ)) (kept : List Bool) (lba : ℕ) (mark differed : Bool)
    → lba < length disk → lba < length kept
    → moved_of (flat memory (set disk lba (replicate 512 0)) (set kept lba mark)) differed ≡ cleared_one lba mark (moved_of (flat memory disk kept) differed)
unfolding moved_of
cleared-set memory disk kept lba mark differed block below =
    moved (byte_in memory) (byte_in memory) _ _ _ _ differed differed refl (written-set disk lba (replicate 512 0) block) (marked-set kept lba mark below) refl

-- one more block, and then those behind it
pub cleared-more : (mark : Bool) (m : Moved) (start left n : ℕ) → left ≡ suc n
    → cleared (range_with_len start left) mark m ≡ cleared (range_with_len (start + 1) n) mark (cleared_one start mark m)
unfolding cleared
cleared-more mark m start left n e = rw e refl

-- the end of a loop over blocks
pub cleared-none : (mark : Bool) (m : Moved) (start left : ℕ) → left ≡ 0
    → cleared (range_with_len start left) mark m ≡ m
unfolding cleared
cleared-none mark m start left e = rw e refl
