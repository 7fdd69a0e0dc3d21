-- A unit of a command in the device, by the command's opcode
use Rattle.std.proofs.Common.{◌≡◌, ℕ, ◌+◌, ◌*◌, ◌^◌, ◌<◌, ◌≤◌, ◌==◌, ◌||◌, Bool, true, false}
use Rattle.std.proofs.Common.{List, [], ◌∷◌, length, Option, Some, None, refl, sym, ap, subst, ◌∙◌, arith, eqb-true}
use Rattle.std.specs.Prelude.{All}
use Rattle.std.specs.List.{list_any, range_with_len}
use Rattle.std.proofs.lemmas.List.Elements.{All-head, All-tail}
use Rattle.nv_entry.specs.Layout.{bits}
use Rattle.nv_entry.specs.Opcode.{io_opcode}
use Rattle.nv_entry.specs.Range.{blocks_of, start_of}
use Rattle.nv_entry.specs.Submission.{nlb_of, nr_of, opcode_of, slba_of}
use Rattle.nv_entry.specs.declared.opcode.IoOpcode.{IoOpcode}
use Rattle.nv_entry.specs.declared.opcode.IoOpcode.TheVariants.{Flush, Write, Read, Compare, WriteZeroes, DatasetManagement}
use Rattle.nv_mem.specs.Places.{places_of}
use Rattle.nv_mem.specs.declared.piece.Piece.{Piece}
use Rattle.nv_model.specs.Carried.{block_work, moved_on, units_moved}
use Rattle.nv_model.specs.Carrying.{cleared, cleared_one}
use Rattle.nv_model.specs.Judge.{KeepAll, MoveBlock, clear_units, count_of, deallocates, is_fua, one_range_units}
use Rattle.nv_model.specs.Private.{Moved}
use Rattle.nv_model.proofs.UnitWords.{units_moved-cleared, units_moved-left}
use Rattle.nv_model.specs.Memory.{byte_in}
use Rattle.nv_disk.specs.Flat.{flat, moved_of}
use Rattle.nv_world_model.specs.Device.{Held, device_unit, moved_by, range_at, unit_count}
use Rattle.nv_device.specs.Moving.{IsReady, moves_blocks, unit_of}
use Rattle.nv_device.specs.Physical.{IsHeld, len_of, names_blocks}

-- ---- numbers of units

-- one of some numbers that are below an end
any-below : (n end : ℕ) (ks : List ℕ) → All (λ k. k < end) ks → list_any (λ k. k == n) ks ≡ true → n < end
any-below n end [] all is = absurd (cc)
any-below n end (k ∷ ks) all is = by_head (k == n) refl (any-below n end ks (All-tail (λ (j : ℕ). j < end) k ks all))
  where
    by_head : (b : Bool) → (k == n) ≡ b → (list_any (λ k. k == n) ks ≡ true → n < end) → n < end
    by_head true same rest = (let e : k ≡ n = eqb-true k n same in let here : k < end = All-head (λ (j : ℕ). j < end) k ks all in omega arith)
    by_head false other rest = rest (sym (ap (λ (b : Bool). b || list_any (λ k. k == n) ks) other) ∙ is)

-- the unit that is left is one of the command's
pub number-below : (blocks : ℕ) (host : List ℕ) (number : ℕ) (h : Held) (o : Option IoOpcode) → io_opcode (opcode_of h.entry) ≡ o
    → IsReady blocks host number h → number < unit_count o h.entry
number-below blocks host number h o is ready =
    let U : Option IoOpcode → Type 0 = λ o. All (λ k. k < unit_count o h.entry) h.left in
    any-below number (unit_count o h.entry) h.left (subst U is ready.held.units) ready.left

-- where its blocks and places are
pub blocks-there : (blocks : ℕ) (host : List ℕ) (number : ℕ) (h : Held) (o : Option IoOpcode) → io_opcode (opcode_of h.entry) ≡ o
    → IsReady blocks host number h → names_blocks o ≡ true → slba_of h.entry + count_of h.entry ≤ blocks
blocks-there blocks host number h o is ready names =
    let B : Option IoOpcode → Type 0 = λ o. names_blocks o ≡ true → slba_of h.entry + count_of h.entry ≤ blocks in
    (subst B is ready.held.blocks) names

pub places-there : (blocks : ℕ) (host : List ℕ) (number : ℕ) (h : Held) (o : Option IoOpcode) → io_opcode (opcode_of h.entry) ≡ o
    → IsReady blocks host number h → length (places_of h.pieces) ≡ len_of o h.entry
places-there blocks host number h o is ready =
    let P : Option IoOpcode → Type 0 = λ o. length (places_of h.pieces) ≡ len_of o h.entry in
    subst P is ready.held.places

-- NLB has 16 bits, and NR 8
nlb-fits : (entry : List ℕ) → nlb_of entry < 2 ^ 16
unfolding bits
nlb-fits entry = omega arith

nr-fits : (entry : List ℕ) → nr_of entry < 2 ^ 8
unfolding bits
nr-fits entry = omega arith

-- a range has its places
pub range-there : (blocks : ℕ) (number : ℕ) (h : Held) → io_opcode (opcode_of h.entry) ≡ Some DatasetManagement
    → list_any (λ k. k == number) h.left ≡ true → IsHeld blocks h → (16 * number + 16 ≤ length (places_of h.pieces)) × (number < 2 ^ 8)
range-there blocks number h is left held =
    let U : Option IoOpcode → Type 0 = λ o. All (λ k. k < unit_count o h.entry) h.left in
    let P : Option IoOpcode → Type 0 = λ o. length (places_of h.pieces) ≡ len_of o h.entry in
    let below = any-below number (unit_count (Some DatasetManagement) h.entry) h.left (subst U is held.units) left in
    let places : length (places_of h.pieces) ≡ len_of (Some DatasetManagement) h.entry = subst P is held.places in
    let few = nr-fits h.entry in
    (omega arith, omega arith)

-- a block that is cleared is on the disk
pub clear-there : (blocks : ℕ) (host : List ℕ) (number : ℕ) (h : Held) → io_opcode (opcode_of h.entry) ≡ Some WriteZeroes
    → IsReady blocks host number h → slba_of h.entry + number < blocks
clear-there blocks host number h is ready =
    let below = number-below blocks host number h (Some WriteZeroes) is ready in
    let on_disk = blocks-there blocks host number h (Some WriteZeroes) is ready refl in
    omega arith

-- a block that moves is on the disk, and has its places
pub transfer-there : (blocks : ℕ) (host : List ℕ) (number : ℕ) (h : Held) (o : Option IoOpcode) → io_opcode (opcode_of h.entry) ≡ o
    → moves_blocks o ≡ true → IsReady blocks host number h
    → (slba_of h.entry + number < blocks) × (512 * number + 512 ≤ length (places_of h.pieces)) × (number < 2 ^ 16)
transfer-there blocks host number h None is moves ready = absurd (cc)
transfer-there blocks host number h (Some Flush) is moves ready = absurd (cc)
transfer-there blocks host number h (Some WriteZeroes) is moves ready = absurd (cc)
transfer-there blocks host number h (Some DatasetManagement) is moves ready = absurd (cc)
transfer-there blocks host number h (Some Read) is moves ready =
    let below = number-below blocks host number h (Some Read) is ready in
    let on_disk = blocks-there blocks host number h (Some Read) is ready refl in
    let places = places-there blocks host number h (Some Read) is ready in
    let few = nlb-fits h.entry in
    (omega arith, omega arith, omega arith)
transfer-there blocks host number h (Some Write) is moves ready =
    let below = number-below blocks host number h (Some Write) is ready in
    let on_disk = blocks-there blocks host number h (Some Write) is ready refl in
    let places = places-there blocks host number h (Some Write) is ready in
    let few = nlb-fits h.entry in
    (omega arith, omega arith, omega arith)
transfer-there blocks host number h (Some Compare) is moves ready =
    let below = number-below blocks host number h (Some Compare) is ready in
    let on_disk = blocks-there blocks host number h (Some Compare) is ready refl in
    let places = places-there blocks host number h (Some Compare) is ready in
    let few = nlb-fits h.entry in
    (omega arith, omega arith, omega arith)

-- ---- what a unit does

-- whether it has differed
pub differed-of : (host : List ℕ) (disk : List (List ℕ)) (kept : List Bool) (differed : Bool) → (moved_of (flat host disk kept) differed).differed ≡ differed
unfolding moved_of
differed-of host disk kept differed = refl

-- its memory
pub memory-of : (host : List ℕ) (disk : List (List ℕ)) (kept : List Bool) (differed : Bool) → (moved_of (flat host disk kept) differed).memory ≡ byte_in host
unfolding moved_of
memory-of host disk kept differed = refl

-- by the opcode
unit-by : (number : ℕ) (h : Held) (host : List ℕ) (disk : List (List ℕ)) (kept : List Bool) (o : Option IoOpcode) → io_opcode (opcode_of h.entry) ≡ o
    → unit_of number h host disk kept ≡ moved_by o number (length disk) h (moved_of (flat host disk kept) h.differed)
unfolding device_unit moved_of
unit-by number h host disk kept o is = ap (λ (o : Option IoOpcode). moved_by o number (length disk) h (moved_of (flat host disk kept) h.differed)) is

-- a block that moves
pub transfer-unit : (number : ℕ) (h : Held) (host : List ℕ) (disk : List (List ℕ)) (kept : List Bool) (opcode : IoOpcode) → io_opcode (opcode_of h.entry) ≡ Some opcode
    → moves_blocks (Some opcode) ≡ true
    → unit_of number h host disk kept
    ≡ moved_on (MoveBlock number (slba_of h.entry + number)) (block_work opcode h.pieces (is_fua h.entry)) (moved_of (flat host disk kept) h.differed)
unfolding units_moved
transfer-unit number h host disk kept Flush is moves = absurd (cc)
transfer-unit number h host disk kept WriteZeroes is moves = absurd (cc)
transfer-unit number h host disk kept DatasetManagement is moves = absurd (cc)
transfer-unit number h host disk kept Read is moves = unit-by number h host disk kept (Some Read) is
transfer-unit number h host disk kept Write is moves = unit-by number h host disk kept (Some Write) is
transfer-unit number h host disk kept Compare is moves = unit-by number h host disk kept (Some Compare) is

-- a block that is cleared
pub clear-unit : (number : ℕ) (h : Held) (host : List ℕ) (disk : List (List ℕ)) (kept : List Bool) → io_opcode (opcode_of h.entry) ≡ Some WriteZeroes
    → cleared_one (slba_of h.entry + number) (is_fua h.entry) (moved_of (flat host disk kept) h.differed) ≡ unit_of number h host disk kept
unfolding units_moved clear_units cleared
clear-unit number h host disk kept is =
    let m : Moved = moved_of (flat host disk kept) h.differed in
    sym (unit-by number h host disk kept (Some WriteZeroes) is
    ∙ units_moved-cleared (is_fua h.entry) ((slba_of h.entry + number) ∷ []) (block_work WriteZeroes h.pieces (is_fua h.entry)) m)

-- a range that is deallocated, and one that is not
pub deallocate-unit : (number : ℕ) (h : Held) (host : List ℕ) (disk : List (List ℕ)) (kept : List Bool) (range : List ℕ) → io_opcode (opcode_of h.entry) ≡ Some DatasetManagement
    → deallocates h.entry ≡ true → range ≡ range_at number h.pieces (moved_of (flat host disk kept) h.differed).memory
    → cleared (range_with_len (start_of range) (blocks_of range)) false (moved_of (flat host disk kept) h.differed) ≡ unit_of number h host disk kept
deallocate-unit number h host disk kept range is deallocate at =
    let m : Moved = moved_of (flat host disk kept) h.differed in
    sym (unit-by number h host disk kept (Some DatasetManagement) is
    ∙ ap (λ (b : Bool). units_moved (one_range_units b (range_at number h.pieces m.memory)) (block_work DatasetManagement h.pieces false) m) deallocate
    ∙ ap (λ (r : List ℕ). units_moved (one_range_units true r) (block_work DatasetManagement h.pieces false) m) (sym at)
    ∙ units_moved-cleared false (range_with_len (start_of range) (blocks_of range)) (block_work DatasetManagement h.pieces false) m)

pub leave-unit : (number : ℕ) (h : Held) (host : List ℕ) (disk : List (List ℕ)) (kept : List Bool) → io_opcode (opcode_of h.entry) ≡ Some DatasetManagement
    → deallocates h.entry ≡ false → moved_of (flat host disk kept) h.differed ≡ unit_of number h host disk kept
leave-unit number h host disk kept is keep =
    let m : Moved = moved_of (flat host disk kept) h.differed in
    let range : List ℕ = range_at number h.pieces m.memory in
    sym (unit-by number h host disk kept (Some DatasetManagement) is
    ∙ ap (λ (b : Bool). units_moved (one_range_units b range) (block_work DatasetManagement h.pieces false) m) keep
    ∙ units_moved-left (range_with_len (start_of range) (blocks_of range)) (block_work DatasetManagement h.pieces false) m)

-- all blocks
pub keep-unit : (number : ℕ) (h : Held) (host : List ℕ) (disk : List (List ℕ)) (kept : List Bool) → io_opcode (opcode_of h.entry) ≡ Some Flush
    → moved_on (KeepAll (length disk)) (block_work Flush h.pieces false) (moved_of (flat host disk kept) h.differed) ≡ unit_of number h host disk kept
unfolding units_moved
keep-unit number h host disk kept is = sym (unit-by number h host disk kept (Some Flush) is)

-- nothing
pub no-unit : (number : ℕ) (h : Held) (host : List ℕ) (disk : List (List ℕ)) (kept : List Bool) → io_opcode (opcode_of h.entry) ≡ None
    → moved_of (flat host disk kept) h.differed ≡ unit_of number h host disk kept
no-unit number h host disk kept is = sym (unit-by number h host disk kept None is)

-- the same block by equal numbers and marks
pub same-move : (opcode : IoOpcode) (number lba block : ℕ) (pieces : List Piece) (fua mark : Bool) (m : Moved) → lba ≡ block → fua ≡ mark
    → moved_on (MoveBlock number lba) (block_work opcode pieces fua) m ≡ moved_on (MoveBlock number block) (block_work opcode pieces mark) m
same-move opcode number lba block pieces fua mark m blocks marks =
    ap (λ (l : ℕ). moved_on (MoveBlock number l) (block_work opcode pieces fua) m) blocks
    ∙ ap (λ (f : Bool). moved_on (MoveBlock number block) (block_work opcode pieces f) m) marks

pub same-clear : (lba block : ℕ) (fua mark : Bool) (m : Moved) → lba ≡ block → fua ≡ mark → cleared_one lba fua m ≡ cleared_one block mark m
same-clear lba block fua mark m blocks marks =
    ap (λ (l : ℕ). cleared_one l fua m) blocks ∙ ap (λ (f : Bool). cleared_one block f m) marks
