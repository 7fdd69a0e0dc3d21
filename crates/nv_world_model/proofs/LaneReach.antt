-- Which bytes of the host the physical controller reads and writes
use Rattle.std.proofs.Common.{◌≡◌, ℕ, ◌+◌, ◌*◌, ◌^◌, ◌<◌, ◌≤◌, ◌⊎◌, ◌==◌, ◌||◌, Bool, true, false, cond, ◌&&◌, replicate, List, [], ◌∷◌, drop, take, Option}
use Rattle.std.proofs.Common.{Some, None, refl, sym, ap, subst, ◌∙◌, arith}
use Rattle.std.specs.Prelude.{slice_set}
use Rattle.std.specs.List.{range_with_len}
use Rattle.nv_entry.specs.Completion.{IsCompletion, completion, dnr_of, sc_of, status_of}
use Rattle.nv_entry.specs.Opcode.{io_opcode}
use Rattle.nv_entry.specs.Range.{blocks_of, start_of}
use Rattle.nv_entry.specs.Status.{StatusField, bit, status}
use Rattle.nv_entry.specs.Submission.{cid_of, opcode_of, prp1_of, prp2_of, slba_of}
use Rattle.nv_entry.specs.declared.opcode.IoOpcode.{IoOpcode}
use Rattle.nv_entry.specs.declared.opcode.IoOpcode.TheVariants.{Flush, Write, Read, Compare, WriteZeroes, DatasetManagement}
use Rattle.nv_entry.proofs.CompletionLemmas.{IsCompletion-completion, length-completion}
use Rattle.nv_mem.specs.Places.{places_of}
use Rattle.nv_mem.specs.declared.piece.Piece.{Piece}
use Rattle.nv_model.specs.Carried.{block_work, units_moved}
use Rattle.nv_model.specs.Carrying.{cleared, cleared_one}
use Rattle.nv_model.specs.Dialogue.{asked, in_memory}
use Rattle.nv_model.specs.Judge.{Work, deallocates, has_blocks, is_fua, one_range_units, transfer_len}
use Rattle.nv_model.specs.Laws.{AgreeAt, AgreeOn}
use Rattle.nv_model.specs.Memory.{bytes_from, gathered, stored}
use Rattle.nv_model.specs.Private.{Moved, block_bytes, block_written, differs, marked}
use Rattle.nv_model.specs.Prp.{read_prp}
use Rattle.nv_model.specs.Queue.{next_slot}
use Rattle.nv_model.proofs.Agreeing.{bytes_from-agree, in_memory-agree}
use Rattle.nv_model.proofs.MemoryAlike.{scattered-at}
use Rattle.nv_model.proofs.MemoryLemmas.{bytes_from-stored, stored-outside}
use Rattle.nv_model.proofs.UnitsElsewhere.{scattered-elsewhere}
use Rattle.nv_model.proofs.UnitWords.{units_moved-cleared, units_moved-left}
use Rattle.nv_world_model.specs.Area.{completion_slot, queue_pair, ring_size, submission_slot}
use Rattle.nv_world_model.specs.Device.{DeviceLane, Held, completion_written, device_unit, entry_taken, front_entry, held_of, host_pieces, moved_by, pieces_spelled, range_at, unit_count}
use Rattle.nv_world_model.specs.LaneRuns.{IsNotAmong, IsSameEffect, list_named, unit_places}

-- ---- a completion

-- its 16 bytes stand in the slot
pub completion-there : (mediator lane identifier : ℕ) (st : StatusField) (d : DeviceLane) (host : ℕ → ℕ)
    → bytes_from (completion_written mediator lane identifier st d host) (completion_slot mediator lane d.posted) 16
    ≡ completion 0 d.head (queue_pair lane) identifier d.phase st
unfolding completion_written
completion-there mediator lane identifier st d host =
    let bytes : List ℕ = completion 0 d.head (queue_pair lane) identifier d.phase st in
    let slot : ℕ = completion_slot mediator lane d.posted in
    ap (bytes_from (stored host slot bytes) slot) (sym (length-completion 0 d.head (queue_pair lane) identifier d.phase st))
    ∙ bytes_from-stored host slot bytes

-- with each field
pub completion-fields : (mediator lane identifier : ℕ) (st : StatusField) (d : DeviceLane) (host : ℕ → ℕ)
    → d.head < 2 ^ 16 → lane + 1 < 2 ^ 16 → identifier < 2 ^ 16 → st.sct < 8 → st.sc < 256
    → IsCompletion 0 d.head (lane + 1) identifier d.phase st
    (bytes_from (completion_written mediator lane identifier st d host) (completion_slot mediator lane d.posted) 16)
completion-fields mediator lane identifier st d host head queue cid sct sc =
    let P : List ℕ → Type 0 = IsCompletion 0 d.head (lane + 1) identifier d.phase st in
    subst P (sym (completion-there mediator lane identifier st d host))
    (IsCompletion-completion 0 d.head (lane + 1) identifier d.phase st (omega arith) head queue cid sct sc)

bit-is : (b : Bool) → (bit b == 1) ≡ b
bit-is true = refl
bit-is false = refl

-- and so with the status
pub completion-status : (dw0 head queue cid : ℕ) (phase : Bool) (st : StatusField) (entry : List ℕ)
    → IsCompletion dw0 head queue cid phase st entry → status_of entry ≡ st
completion-status dw0 head queue cid phase st entry is =
    ap (λ (n : ℕ). status n (sc_of entry) (dnr_of entry == 1)) is.status_code_type
    ∙ ap (λ (n : ℕ). status st.sct n (dnr_of entry == 1)) is.status_code
    ∙ ap (status st.sct st.sc) (ap (λ (n : ℕ). n == 1) is.do_not_retry ∙ bit-is st.dnr)

-- nothing is written elsewhere
pub completion-elsewhere : (mediator lane identifier at : ℕ) (st : StatusField) (d : DeviceLane) (host : ℕ → ℕ)
    → (at < completion_slot mediator lane d.posted) ⊎ (completion_slot mediator lane d.posted + 16 ≤ at)
    → completion_written mediator lane identifier st d host at ≡ host at
unfolding completion_written
completion-elsewhere mediator lane identifier at st d host outside =
    let bytes : List ℕ = completion 0 d.head (queue_pair lane) identifier d.phase st in
    let slot : ℕ = completion_slot mediator lane d.posted in
    let P : ℕ → Type 0 = λ n. (at < slot) ⊎ (slot + n ≤ at) in
    stored-outside host slot bytes at (subst P (sym (length-completion 0 d.head (queue_pair lane) identifier d.phase st)) outside)

-- ---- a take

-- the front entry
pub front-agree : (mediator lane : ℕ) (d : DeviceLane) (host other : ℕ → ℕ)
    → AgreeAt host other (submission_slot mediator lane d.head, 64)
    → front_entry mediator lane d other ≡ front_entry mediator lane d host
front-agree mediator lane d host other agree = sym (bytes_from-agree host other (submission_slot mediator lane d.head) 64 agree)

-- the pieces that a list spells depend on what is asked for there
pieces-agree : (o : Option IoOpcode) (entry : List ℕ) (host other : ℕ → ℕ)
    → AgreeOn host other (list_named o entry host)
    → host_pieces o entry other ≡ host_pieces o entry host
pieces-agree None entry host other agree = refl
pieces-agree (Some opcode) entry host other agree = by_len (transfer_len opcode entry == 0) agree
  where
    asks : List (ℕ × ℕ)
    asks = asked host (read_prp (λ _. true) (prp1_of entry) (prp2_of entry) (transfer_len opcode entry))

    read : (ℕ → ℕ) → List Piece
    read memory = pieces_spelled (in_memory memory (read_prp (λ _. true) (prp1_of entry) (prp2_of entry) (transfer_len opcode entry)))

    by_len : (none : Bool) → AgreeOn host other (cond none [] asks) → cond none [] (read other) ≡ cond none [] (read host)
    by_len true agree = refl
    by_len false agree =
        ap pieces_spelled (in_memory-agree host other (read_prp (λ _. true) (prp1_of entry) (prp2_of entry) (transfer_len opcode entry)) agree)

-- and so does the command
held-agree : (entry : List ℕ) (host other : ℕ → ℕ)
    → AgreeOn host other (list_named (io_opcode (opcode_of entry)) entry host)
    → held_of entry other ≡ held_of entry host
unfolding held_of
held-agree entry host other agree =
    ap (λ (ps : List Piece). let h : Held = record {
      entry = entry;
      pieces = ps;
      left = range_with_len 0 (unit_count (io_opcode (opcode_of entry)) entry);
      differed = false;
    } in h) (pieces-agree (io_opcode (opcode_of entry)) entry host other agree)

pub taken-agree : (entry : List ℕ) (d : DeviceLane) (host other : ℕ → ℕ)
    → AgreeOn host other (list_named (io_opcode (opcode_of entry)) entry host)
    → entry_taken entry other d ≡ entry_taken entry host d
taken-agree entry d host other agree =
    ap (λ (h : Held). let l : DeviceLane = record d {
      head = next_slot ring_size d.head;
      held = slice_set d.held (cid_of entry) (Some h);
    } in l) (held-agree entry host other agree)

-- ---- a unit

-- blocks that are cleared leave the memory
cleared-memory : (lbas : List ℕ) (mark : Bool) (m : Moved) → (cleared lbas mark m).memory ≡ m.memory
unfolding cleared
cleared-memory [] mark m = refl
cleared-memory (lba ∷ lbas) mark m = cleared-memory lbas mark (cleared_one lba mark m)

managed-memory : (deallocate : Bool) (range : List ℕ) (work : Work) (m : Moved)
    → (units_moved (one_range_units deallocate range) work m).memory ≡ m.memory
managed-memory true range work m =
    ap (λ (n : Moved). n.memory) (units_moved-cleared false (range_with_len (start_of range) (blocks_of range)) work m)
    ∙ cleared-memory (range_with_len (start_of range) (blocks_of range)) false m
managed-memory false range work m =
    ap (λ (n : Moved). n.memory) (units_moved-left (range_with_len (start_of range) (blocks_of range)) work m)

-- what it writes
moved-elsewhere : (o : Option IoOpcode) (number disk_blocks at : ℕ) (h : Held) (m : Moved)
    → IsNotAmong at (unit_places o number h.pieces)
    → (moved_by o number disk_blocks h m).memory at ≡ m.memory at
unfolding units_moved
moved-elsewhere None number disk_blocks at h m none = refl
moved-elsewhere (Some Read) number disk_blocks at h m none =
    scattered-elsewhere m.memory (take 512 (drop (512 * number) (places_of h.pieces))) (block_bytes m.disk (slba_of h.entry + number)) at none
moved-elsewhere (Some Write) number disk_blocks at h m none = refl
moved-elsewhere (Some Compare) number disk_blocks at h m none = refl
moved-elsewhere (Some WriteZeroes) number disk_blocks at h m none = refl
moved-elsewhere (Some DatasetManagement) number disk_blocks at h m none =
    ap (λ (f : ℕ → ℕ). f at) (managed-memory (deallocates h.entry) (range_at number h.pieces m.memory)
    (block_work DatasetManagement h.pieces (has_blocks DatasetManagement && is_fua h.entry)) m)
moved-elsewhere (Some Flush) number disk_blocks at h m none = refl

pub unit-elsewhere : (number disk_blocks at : ℕ) (h : Held) (host : ℕ → ℕ) (disk : ℕ → ℕ → ℕ) (kept : ℕ → Bool)
    → IsNotAmong at (unit_places (io_opcode (opcode_of h.entry)) number h.pieces)
    → (device_unit number disk_blocks h host disk kept).memory at ≡ host at
unfolding device_unit
unit-elsewhere number disk_blocks at h host disk kept none =
    moved-elsewhere (io_opcode (opcode_of h.entry)) number disk_blocks at h
    (record { memory = host; disk = disk; kept = kept; differed = h.differed }) none

-- what it does elsewhere than in memory
same-effect : (m n : Moved) → m.disk ≡ n.disk → m.kept ≡ n.kept → m.differed ≡ n.differed → IsSameEffect m n
same-effect m n disk kept differed = record { disk = disk; kept = kept; differed = differed }

cleared-same : (lbas : List ℕ) (mark : Bool) (m n : Moved) → IsSameEffect m n
    → IsSameEffect (cleared lbas mark m) (cleared lbas mark n)
unfolding cleared
cleared-same [] mark m n same = same
cleared-same (lba ∷ lbas) mark m n same =
    cleared-same lbas mark (cleared_one lba mark m) (cleared_one lba mark n) (record {
      disk = ap (λ (d : ℕ → ℕ → ℕ). block_written d lba (replicate 512 0)) same.disk;
      kept = ap (λ (k : ℕ → Bool). marked k lba mark) same.kept;
      differed = same.differed;
    })

managed-same : (deallocate : Bool) (range : List ℕ) (work : Work) (m n : Moved) → IsSameEffect m n
    → IsSameEffect (units_moved (one_range_units deallocate range) work m) (units_moved (one_range_units deallocate range) work n)
managed-same true range work m n same =
    let lbas : List ℕ = range_with_len (start_of range) (blocks_of range) in
    let P : Moved → Type 0 = λ r. IsSameEffect r (units_moved (one_range_units true range) work n) in
    let Q : Moved → Type 0 = λ r. IsSameEffect (cleared lbas false m) r in
    subst P (sym (units_moved-cleared false lbas work m))
    (subst Q (sym (units_moved-cleared false lbas work n)) (cleared-same lbas false m n same))
managed-same false range work m n same =
    let lbas : List ℕ = range_with_len (start_of range) (blocks_of range) in
    let P : Moved → Type 0 = λ r. IsSameEffect r (units_moved (one_range_units false range) work n) in
    let Q : Moved → Type 0 = λ r. IsSameEffect m r in
    subst P (sym (units_moved-left lbas work m)) (subst Q (sym (units_moved-left lbas work n)) same)

-- depends on the bytes that it reads
moved-agree : (o : Option IoOpcode) (number disk_blocks : ℕ) (h : Held) (host other : ℕ → ℕ) (disk : ℕ → ℕ → ℕ)
    (kept : ℕ → Bool) (differed : Bool)
    → gathered host (unit_places o number h.pieces) ≡ gathered other (unit_places o number h.pieces)
    → IsSameEffect (moved_by o number disk_blocks h (record { memory = host; disk = disk; kept = kept; differed = differed }))
    (moved_by o number disk_blocks h (record { memory = other; disk = disk; kept = kept; differed = differed }))
unfolding units_moved
moved-agree None number disk_blocks h host other disk kept differed same = record { disk = refl; kept = refl; differed = refl }
moved-agree (Some Read) number disk_blocks h host other disk kept differed same = record { disk = refl; kept = refl; differed = refl }
moved-agree (Some Write) number disk_blocks h host other disk kept differed same =
    record { disk = ap (block_written disk (slba_of h.entry + number)) same; kept = refl; differed = refl }
moved-agree (Some Compare) number disk_blocks h host other disk kept differed same =
    record {
      disk = refl;
      kept = refl;
      differed = ap (λ (bytes : List ℕ). differed || differs bytes (block_bytes disk (slba_of h.entry + number))) same;
    }
moved-agree (Some WriteZeroes) number disk_blocks h host other disk kept differed same = record { disk = refl; kept = refl; differed = refl }
moved-agree (Some DatasetManagement) number disk_blocks h host other disk kept differed same =
    let work : Work = block_work DatasetManagement h.pieces (has_blocks DatasetManagement && is_fua h.entry) in
    let m : Moved = record { memory = host; disk = disk; kept = kept; differed = differed } in
    let n : Moved = record { memory = other; disk = disk; kept = kept; differed = differed } in
    let P : List ℕ → Type 0 = λ range. IsSameEffect (units_moved (one_range_units (deallocates h.entry) (range_at number h.pieces host)) work m)
    (units_moved (one_range_units (deallocates h.entry) range) work n) in
    subst P same (managed-same (deallocates h.entry) (range_at number h.pieces host) work m n (record { disk = refl; kept = refl; differed = refl }))
moved-agree (Some Flush) number disk_blocks h host other disk kept differed same = record { disk = refl; kept = refl; differed = refl }

pub unit-agree : (number disk_blocks : ℕ) (h : Held) (host other : ℕ → ℕ) (disk : ℕ → ℕ → ℕ) (kept : ℕ → Bool)
    → gathered host (unit_places (io_opcode (opcode_of h.entry)) number h.pieces)
    ≡ gathered other (unit_places (io_opcode (opcode_of h.entry)) number h.pieces)
    → IsSameEffect (device_unit number disk_blocks h host disk kept) (device_unit number disk_blocks h other disk kept)
unfolding device_unit
unit-agree number disk_blocks h host other disk kept same =
    moved-agree (io_opcode (opcode_of h.entry)) number disk_blocks h host other disk kept h.differed same

-- and what is written is the same
moved-same_byte : (o : Option IoOpcode) (number disk_blocks at : ℕ) (h : Held) (host other : ℕ → ℕ) (disk : ℕ → ℕ → ℕ)
    (kept : ℕ → Bool) (differed : Bool)
    → host at ≡ other at
    → (moved_by o number disk_blocks h (record { memory = host; disk = disk; kept = kept; differed = differed })).memory at
    ≡ (moved_by o number disk_blocks h (record { memory = other; disk = disk; kept = kept; differed = differed })).memory at
unfolding units_moved
moved-same_byte None number disk_blocks at h host other disk kept differed same = same
moved-same_byte (Some Read) number disk_blocks at h host other disk kept differed same =
    scattered-at host other (take 512 (drop (512 * number) (places_of h.pieces))) (block_bytes disk (slba_of h.entry + number)) at same
moved-same_byte (Some Write) number disk_blocks at h host other disk kept differed same = same
moved-same_byte (Some Compare) number disk_blocks at h host other disk kept differed same = same
moved-same_byte (Some WriteZeroes) number disk_blocks at h host other disk kept differed same = same
moved-same_byte (Some DatasetManagement) number disk_blocks at h host other disk kept differed same =
    let work : Work = block_work DatasetManagement h.pieces (has_blocks DatasetManagement && is_fua h.entry) in
    ap (λ (f : ℕ → ℕ). f at) (managed-memory (deallocates h.entry) (range_at number h.pieces host) work
    (record { memory = host; disk = disk; kept = kept; differed = differed }))
    ∙ same
    ∙ sym (ap (λ (f : ℕ → ℕ). f at) (managed-memory (deallocates h.entry) (range_at number h.pieces other) work
    (record { memory = other; disk = disk; kept = kept; differed = differed })))
moved-same_byte (Some Flush) number disk_blocks at h host other disk kept differed same = same

pub unit-same_byte : (number disk_blocks at : ℕ) (h : Held) (host other : ℕ → ℕ) (disk : ℕ → ℕ → ℕ) (kept : ℕ → Bool)
    → host at ≡ other at
    → (device_unit number disk_blocks h host disk kept).memory at ≡ (device_unit number disk_blocks h other disk kept).memory at
unfolding device_unit
unit-same_byte number disk_blocks at h host other disk kept same =
    moved-same_byte (io_opcode (opcode_of h.entry)) number disk_blocks at h host other disk kept h.differed same
