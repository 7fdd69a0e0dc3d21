-- Blocks that are read, or compared, all at once
use Rattle.std.proofs.Common.{◌≡◌, ℕ, zero, suc, ◌+◌, ◌*◌, ◌<◌, ◌≤◌, Bool, false}
use Rattle.std.proofs.Common.{◌||◌, List, [], ◌++◌, length, take, drop, refl, sym, ap, ◌∙◌, arith}
use Rattle.std.specs.List.{slice_index_or}
use Rattle.std.proofs.lemmas.List.{drop-drop, length-drop, length-take-le, take-append-drop}
use Rattle.std.proofs.Math.Seq.{drop-cons, take-add}
use Rattle.nv_entry.specs.declared.opcode.IoOpcode.TheVariants.{Compare, Read}
use Rattle.nv_mem.specs.Places.{Place, places_of}
use Rattle.nv_mem.specs.declared.piece.Piece.{Piece}
use Rattle.nv_model.specs.Memory.{byte_in, gathered, scattered}
use Rattle.nv_model.proofs.MemoryLemmas.{gathered-append, length-gathered, scattered-append}
use Rattle.nv_model.specs.Private.{block_bytes, differs, marked}
use Rattle.nv_model.specs.Carried.{block_work, units_moved}
use Rattle.nv_model.specs.Carrying.{units_from}
use Rattle.nv_disk.specs.Flat.{byte_of_block, flat, joined, moved_of}
use Rattle.nv_disk.specs.Marks.{mark_of, raised}
use Rattle.nv_disk.proofs.BufferLemmas.{scattered-no_bytes}
use Rattle.nv_disk.proofs.MoveLemmas.{block_bytes-list, marks-same, moved}
use Rattle.nv_disk.proofs.CompareLemmas.{differs-append, or-assoc}
use Rattle.nv_model.proofs.UnitWords.{or-false}

-- bytes are given to the first places, and the others to those behind them
scattered-split : (m : ℕ → ℕ) (places : List Place) (bytes rest : List ℕ) → length bytes ≡ 512 → 512 ≤ length places
    → scattered (scattered m (take 512 places) bytes) (drop 512 places) rest ≡ scattered m places (bytes ++ rest)
scattered-split m places bytes rest sized enough =
    sym (scattered-append m (take 512 places) (drop 512 places) bytes rest (length-take-le 512 places enough ∙ sym sized))
    ∙ ap (λ (ps : List Place). scattered m ps (bytes ++ rest)) (take-append-drop 512 places)

-- the first of some blocks, and those behind it
joined-more : (disk : List (List ℕ)) (lba n : ℕ) → lba < length disk
    → joined (take (suc n) (drop lba disk)) ≡ slice_index_or disk lba [] ++ joined (take n (drop (lba + 1) disk))
joined-more disk lba n below =
    let next : suc lba ≡ lba + 1 = omega arith in
    ap (λ (blocks : List (List ℕ)). joined (take (suc n) blocks)) (drop-cons disk lba [] below)
    ∙ ap (λ (k : ℕ). slice_index_or disk lba [] ++ joined (take n (drop k disk))) next

-- the units of a Read give the bytes of its blocks to the places in order
pub read-all : (n i lba : ℕ) (m : ℕ → ℕ) (disk : List (List ℕ)) (kept : ℕ → Bool) (pieces : List Piece) (fua : Bool)
    → lba + n ≤ length disk → ((k : ℕ) → k < length disk → length (slice_index_or disk k []) ≡ 512)
    → 512 * (i + n) ≤ length (places_of pieces)
    → units_moved (units_from i lba n) (block_work Read pieces fua) (record { memory = m; disk = byte_of_block disk; kept = kept; differed = false })
    ≡ record { memory = scattered m (drop (512 * i) (places_of pieces)) (joined (take n (drop lba disk))); disk = byte_of_block disk; kept = raised fua lba n kept; differed = false }
unfolding units_from units_moved raised
read-all zero i lba m disk kept pieces fua within sized enough =
    moved m _ (byte_of_block disk) _ kept _ false false (sym (scattered-no_bytes m (drop (512 * i) (places_of pieces)) [] refl)) refl refl refl
read-all (suc n) i lba m disk kept pieces fua within sized enough =
    let places : List Place = drop (512 * i) (places_of pieces) in
    let block : List ℕ = slice_index_or disk lba [] in
    let rest : List ℕ = joined (take n (drop (lba + 1) disk)) in
    let below : lba < length disk = omega arith in
    let here : length block ≡ 512 = sized lba below in
    let count = length-drop (512 * i) (places_of pieces) in
    let some : 512 ≤ length places = omega arith in
    let first : ℕ → ℕ = scattered m (take 512 places) (block_bytes (byte_of_block disk) lba) in
    let at : 512 * i + 512 ≡ 512 * (i + 1) = omega arith in
    let memory : scattered first (drop (512 * (i + 1)) (places_of pieces)) rest ≡ scattered m places (joined (take (suc n) (drop lba disk))) =
    ap (λ (bs : List ℕ). scattered (scattered m (take 512 places) bs) (drop (512 * (i + 1)) (places_of pieces)) rest) (block_bytes-list disk lba here)
    ∙ ap (λ (k : ℕ). scattered (scattered m (take 512 places) block) (drop k (places_of pieces)) rest) (sym at)
    ∙ ap (λ (ps : List Place). scattered (scattered m (take 512 places) block) ps rest) (sym (drop-drop 512 (512 * i) (places_of pieces)))
    ∙ scattered-split m places block rest here some
    ∙ ap (scattered m places) (sym (joined-more disk lba n below)) in
    read-all n (i + 1) (lba + 1) first disk (marked kept lba (kept lba || fua)) pieces fua (omega arith) sized (omega arith)
    ∙ moved _ _ (byte_of_block disk) (byte_of_block disk) _ _ false false memory refl refl refl

-- blocks that were read into the buffer all at once are moved units
pub read-moved_all : (memory new : List ℕ) (disk : List (List ℕ)) (kept marks : List Bool) (places : List Place) (start count : ℕ) (fua : Bool)
    → start + count ≤ length disk → ((k : ℕ) → k < length disk → length (slice_index_or disk k []) ≡ 512)
    → 512 * count ≤ length places
    → byte_in new ≡ scattered (byte_in memory) places (joined (take count (drop start disk)))
    → mark_of marks ≡ raised fua start count (mark_of kept)
    → (pieces : List Piece) → places ≡ places_of pieces
    → moved_of (flat new disk marks) false ≡ units_moved (units_from 0 start count) (block_work Read pieces fua) (moved_of (flat memory disk kept) false)
unfolding moved_of
read-moved_all memory new disk kept marks places start count fua within sized enough scatter mark pieces at =
    let same : length places ≡ length (places_of pieces) = ap length at in
    moved (byte_in new) _ (byte_of_block disk) (byte_of_block disk) (mark_of marks) _ false false
    (scatter ∙ ap (λ (ps : List Place). scattered (byte_in memory) ps (joined (take count (drop start disk)))) at) refl mark refl
    ∙ sym (read-all count 0 start (byte_in memory) disk (mark_of kept) pieces fua within sized (omega arith))

-- ---- blocks that are compared

-- the bytes of the first block's places and of those behind them
compared-more : (m : ℕ → ℕ) (places : List Place) (n : ℕ) (block rest : List ℕ) (differed : Bool) → length block ≡ 512
    → 512 ≤ length places
    → ((differed || differs (gathered m (take 512 places)) block) || differs (gathered m (take (512 * n) (drop 512 places))) rest)
    ≡ (differed || differs (gathered m (take (512 * suc n) places)) (block ++ rest))
compared-more m places n block rest differed sized enough =
    let one : List ℕ = gathered m (take 512 places) in
    let more : List ℕ = gathered m (take (512 * n) (drop 512 places)) in
    let len : length one ≡ length block = length-gathered m (take 512 places) ∙ length-take-le 512 places enough ∙ sym sized in
    let sum : 512 + 512 * n ≡ 512 * suc n = omega arith in
    let all : one ++ more ≡ gathered m (take (512 * suc n) places) =
    sym (gathered-append m (take 512 places) (take (512 * n) (drop 512 places)))
    ∙ ap (gathered m) (sym (take-add 512 (512 * n) places) ∙ ap (λ (k : ℕ). take k places) sum) in
    sym (or-assoc differed (differs one block) (differs more rest))
    ∙ ap (λ (b : Bool). differed || b) (sym (differs-append one block more rest len) ∙ ap (λ (l : List ℕ). differs l (block ++ rest)) all)

-- the units of a Compare compare the bytes of its blocks with those of the places in order
pub compare-all : (n i lba : ℕ) (m : ℕ → ℕ) (disk : List (List ℕ)) (kept : ℕ → Bool) (pieces : List Piece) (fua differed : Bool)
    → lba + n ≤ length disk → ((k : ℕ) → k < length disk → length (slice_index_or disk k []) ≡ 512)
    → 512 * (i + n) ≤ length (places_of pieces)
    → units_moved (units_from i lba n) (block_work Compare pieces fua) (record { memory = m; disk = byte_of_block disk; kept = kept; differed = differed })
    ≡ record {
      memory = m;
      disk = byte_of_block disk;
      kept = raised fua lba n kept;
      differed = differed || differs (gathered m (take (512 * n) (drop (512 * i) (places_of pieces)))) (joined (take n (drop lba disk)));
    }
unfolding units_from units_moved raised differs gathered
compare-all zero i lba m disk kept pieces fua differed within sized enough =
    moved m m (byte_of_block disk) _ kept _ differed _ refl refl refl (sym (or-false differed))
compare-all (suc n) i lba m disk kept pieces fua differed within sized enough =
    let places : List Place = drop (512 * i) (places_of pieces) in
    let block : List ℕ = slice_index_or disk lba [] in
    let rest : List ℕ = joined (take n (drop (lba + 1) disk)) in
    let below : lba < length disk = omega arith in
    let here : length block ≡ 512 = sized lba below in
    let count = length-drop (512 * i) (places_of pieces) in
    let some : 512 ≤ length places = omega arith in
    let at : 512 * i + 512 ≡ 512 * (i + 1) = omega arith in
    let first : Bool = differed || differs (gathered m (take 512 places)) (block_bytes (byte_of_block disk) lba) in
    let whole : (first || differs (gathered m (take (512 * n) (drop (512 * (i + 1)) (places_of pieces)))) rest)
    ≡ (differed || differs (gathered m (take (512 * suc n) places)) (joined (take (suc n) (drop lba disk)))) =
    ap (λ (bs : List ℕ). (differed || differs (gathered m (take 512 places)) bs) || differs (gathered m (take (512 * n) (drop (512 * (i + 1)) (places_of pieces)))) rest)
    (block_bytes-list disk lba here)
    ∙ ap (λ (ps : List Place). (differed || differs (gathered m (take 512 places)) block) || differs (gathered m (take (512 * n) ps)) rest)
    (sym (drop-drop 512 (512 * i) (places_of pieces) ∙ ap (λ (k : ℕ). drop k (places_of pieces)) at))
    ∙ compared-more m places n block rest differed here some
    ∙ ap (λ (bs : List ℕ). differed || differs (gathered m (take (512 * suc n) places)) bs) (sym (joined-more disk lba n below)) in
    compare-all n (i + 1) (lba + 1) m disk (marked kept lba (kept lba || fua)) pieces fua first (omega arith) sized (omega arith)
    ∙ moved m m (byte_of_block disk) (byte_of_block disk) _ _ _ _ refl refl refl whole

-- blocks that were compared with the buffer all at once are moved units
pub compare-moved_all : (memory : List ℕ) (disk : List (List ℕ)) (kept marks : List Bool) (places : List Place) (start count : ℕ) (fua unlike : Bool)
    → start + count ≤ length disk → ((k : ℕ) → k < length disk → length (slice_index_or disk k []) ≡ 512)
    → 512 * count ≤ length places
    → unlike ≡ differs (gathered (byte_in memory) (take (512 * count) places)) (joined (take count (drop start disk)))
    → mark_of marks ≡ raised fua start count (mark_of kept)
    → (pieces : List Piece) → places ≡ places_of pieces
    → moved_of (flat memory disk marks) unlike ≡ units_moved (units_from 0 start count) (block_work Compare pieces fua) (moved_of (flat memory disk kept) false)
unfolding moved_of
compare-moved_all memory disk kept marks places start count fua unlike within sized enough compared mark pieces at =
    let same : length places ≡ length (places_of pieces) = ap length at in
    moved (byte_in memory) (byte_in memory) (byte_of_block disk) (byte_of_block disk) (mark_of marks) _ unlike _
    refl refl mark
    (compared ∙ ap (λ (ps : List Place). differs (gathered (byte_in memory) (take (512 * count) ps)) (joined (take count (drop start disk)))) at)
    ∙ sym (compare-all count 0 start (byte_in memory) disk (mark_of kept) pieces fua false within sized (omega arith))

-- ---- marks

-- one more mark
pub raised-more : (fua : Bool) (lba left n : ℕ) (kept : ℕ → Bool) → left ≡ suc n
    → raised fua lba left kept ≡ raised fua (lba + 1) n (marked kept lba (kept lba || fua))
unfolding raised
raised-more fua lba left n kept e = rw e refl

-- no more marks
pub raised-none : (fua : Bool) (lba left : ℕ) (kept : ℕ → Bool) → left ≡ 0 → raised fua lba left kept ≡ kept
unfolding raised
raised-none fua lba left kept e = rw e refl

-- where the FUA bit is clear, the marks stay
pub raised-same : (lba n : ℕ) (kept : List Bool) → raised false lba n (mark_of kept) ≡ mark_of kept
unfolding raised
raised-same lba zero kept = refl
raised-same lba (suc n) kept = ap (raised false (lba + 1) n) (sym (marks-same kept lba)) ∙ raised-same (lba + 1) n kept
