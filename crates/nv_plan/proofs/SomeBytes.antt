-- Each piece that a list spells has bytes.
use Rattle.std.proofs.Common.{ℕ, zero, suc, ◌+◌, ◌-◌, ◌*◌, ◌/◌, ◌<◌, min, Bool, true, false, ◌&&◌, ◌==◌, nat_lt, not, cond, All, List, [], ◌∷◌, ◌++◌}
use Rattle.std.proofs.Common.{Option, Some, None, ◌≡◌, refl, arith}
use Rattle.std.proofs.lemmas.Grind.{common_steps}
use Rattle.std.proofs.lemmas.List.Elements.{All-append, All-cons, All-nil}
use Rattle.nv_entry.specs.Descriptor.{address_of, length_of, kind_of}
use Rattle.nv_entry.specs.Layout.{number_at}
use Rattle.nv_entry.specs.Submission.{prp1_of, prp2_of, sgl_of}
use Rattle.nv_entry.specs.declared.data_pointer.DataPointer.{DataPointer}
use Rattle.nv_entry.specs.declared.data_pointer.DataPointer.TheVariants.{Prp, Reserved, Sgl}
use Rattle.nv_entry.specs.declared.descriptor_type.DescriptorType.{DescriptorType}
use Rattle.nv_entry.specs.declared.descriptor_type.DescriptorType.TheVariants.{DataBlock, BitBucket, Segment, LastSegment}
use Rattle.nv_entry.specs.declared.status_code.StatusCode.TheVariants.{SglLengthInvalid}
use Rattle.nv_mem.specs.Places.{total_len}
use Rattle.nv_mem.specs.declared.piece.Piece.{Piece}
use Rattle.nv_mem.specs.declared.piece.Piece.TheVariants as piece
use Rattle.nv_model.specs.Dialogue.{Dialogue, End, and_then}
use Rattle.nv_model.specs.Judge.{read_by, sized}
use Rattle.nv_model.specs.Limits.{page}
use Rattle.nv_model.specs.Prp.{entry_fault, first_len, pages_of, read_entries, read_page, read_prp, read_prp2, slots_of}
use Rattle.nv_model.specs.Reading.{Faulty, Reading, Spells, TooLong, run}
use Rattle.nv_model.specs.Sgl.{Array, array_by, behind_own, fault_by, pieces_by, read_array, read_descriptor, read_sgl}
use Rattle.nv_model.proofs.Endings.{EndsIn, EndsIn-and_then, EndsIn-if, EndsIn-unless_faulty, OfPieces, and-true, not-true}
use Rattle.nv_plan.specs.Parts.{HasBytes}

-- a list of one piece where it has bytes
one-if_any : (p : Piece) (none : Bool) → (none ≡ false → HasBytes p) → All HasBytes (cond none [] (p ∷ []))
one-if_any p true has = All-nil HasBytes
one-if_any p false has = All-cons HasBytes p [] (has refl) (All-nil HasBytes)

some-len : (len : ℕ) → (len == 0) ≡ false → 0 < len
some-len len some = grind (arith, common_steps)

run-has_bytes : (addr len : ℕ) → All HasBytes (run addr len)
run-has_bytes addr len = one-if_any (piece.Run addr len) (len == 0) (some-len len)

bucket-has_bytes : (dest : Bool) (len : ℕ) → All HasBytes (cond (dest && not (len == 0)) (piece.Bucket len ∷ []) [])
bucket-has_bytes dest len =
    elim (dest && not (len == 0)) as (λ b. (dest && not (len == 0)) ≡ b → All HasBytes (cond b (piece.Bucket len ∷ []) [])) [
      | true ↦ λ both. All-cons HasBytes (piece.Bucket len) [] (some-len len (not-true (len == 0) (and-true dest (not (len == 0)) both).1)) (All-nil HasBytes)
      | false ↦ λ neither. All-nil HasBytes
    ] refl

pieces_by-bytes : (kind : Option DescriptorType) (dest : Bool) (d : List ℕ) → All HasBytes (pieces_by kind dest d)
pieces_by-bytes None dest d = All-nil HasBytes
pieces_by-bytes (Some DataBlock) dest d = run-has_bytes (address_of d) (length_of d)
pieces_by-bytes (Some BitBucket) dest d = bucket-has_bytes dest (length_of d)
pieces_by-bytes (Some Segment) dest d = All-nil HasBytes
pieces_by-bytes (Some LastSegment) dest d = All-nil HasBytes

read_descriptor-bytes : (mapped : ℕ → Bool) (dest : Bool) (rest : Array) (pieces : List Piece) (follow : Array → List Piece → Dialogue Reading) (d : List ℕ)
    → All HasBytes pieces
    → ((a : Array) (ps : List Piece) → All HasBytes ps → EndsIn (OfPieces (λ ps. All HasBytes ps)) (follow a ps))
    → EndsIn (OfPieces (λ ps. All HasBytes ps)) (read_descriptor mapped dest rest pieces follow d)
read_descriptor-bytes mapped dest rest pieces follow d so_far goes =
    EndsIn-unless_faulty (λ ps. All HasBytes ps) (fault_by (kind_of d) mapped rest d) _
    (λ fine. goes (array_by (kind_of d) rest d) (pieces ++ pieces_by (kind_of d) dest d)
    (All-append HasBytes pieces (pieces_by (kind_of d) dest d) so_far (pieces_by-bytes (kind_of d) dest d)))

read_array-bytes : (mapped : ℕ → Bool) (dest : Bool) (budget left from : ℕ) (by_last : Bool) (pieces : List Piece)
    → All HasBytes pieces
    → EndsIn (OfPieces (λ ps. All HasBytes ps)) (read_array mapped dest budget left from by_last pieces)
unfolding read_array
read_array-bytes mapped dest budget zero from by_last pieces so_far = so_far
read_array-bytes mapped dest zero (suc left) from by_last pieces so_far = tt
read_array-bytes mapped dest (suc budget) (suc left) from by_last pieces so_far =
    λ d. read_descriptor-bytes mapped dest (record { from = from + 16; left = left; by_last = by_last }) pieces
    (λ a ps. read_array mapped dest budget a.left a.from a.by_last ps) d so_far
    (λ a ps there. read_array-bytes mapped dest budget a.left a.from a.by_last ps there)

read_sgl-bytes : (mapped : ℕ → Bool) (dest : Bool) (limit : ℕ) (own : List ℕ)
    → EndsIn (OfPieces (λ ps. All HasBytes ps)) (read_sgl mapped dest limit own)
unfolding read_sgl
read_sgl-bytes mapped dest zero own = tt
read_sgl-bytes mapped dest (suc budget) own =
    read_descriptor-bytes mapped dest behind_own []
    (λ a ps. read_array mapped dest budget a.left a.from a.by_last ps) own (All-nil HasBytes)
    (λ a ps there. read_array-bytes mapped dest budget a.left a.from a.by_last ps there)

-- ---- physical region pages

read_page-bytes : (mapped : ℕ → Bool) (bytes : ℕ) (pieces : List Piece) (follow : List Piece → Dialogue Reading) (addr : ℕ)
    → All HasBytes pieces
    → ((ps : List Piece) → All HasBytes ps → EndsIn (OfPieces (λ ps. All HasBytes ps)) (follow ps))
    → EndsIn (OfPieces (λ ps. All HasBytes ps)) (read_page mapped bytes pieces follow addr)
read_page-bytes mapped bytes pieces follow addr so_far goes =
    EndsIn-unless_faulty (λ ps. All HasBytes ps) (entry_fault mapped page addr (min bytes page)) _
    (λ fine. goes (pieces ++ run addr (min bytes page)) (All-append HasBytes pieces (run addr (min bytes page)) so_far (run-has_bytes addr (min bytes page))))

read_entries-bytes : (mapped : ℕ → Bool) (pages slots from bytes : ℕ) (pieces : List Piece)
    → All HasBytes pieces
    → EndsIn (OfPieces (λ ps. All HasBytes ps)) (read_entries mapped pages slots from bytes pieces)
unfolding read_entries
read_entries-bytes mapped zero slots from bytes pieces so_far = so_far
read_entries-bytes mapped (suc pages) slots from bytes pieces so_far =
    EndsIn-if (OfPieces (λ ps. All HasBytes ps)) (slots == 1 && nat_lt 0 pages) _ _
    (λ _. λ slot. EndsIn-unless_faulty (λ ps. All HasBytes ps) (entry_fault mapped page (number_at slot 0 8) (8 * min (page / 8) (suc pages))) _
    (λ _. λ entry. read_page-bytes mapped bytes pieces _ (number_at entry 0 8) so_far
    (λ ps there. read_entries-bytes mapped pages (page / 8 - 1) (number_at slot 0 8 + 8) (bytes - page) ps there)))
    (λ _. λ entry. read_page-bytes mapped bytes pieces _ (number_at entry 0 8) so_far
    (λ ps there. read_entries-bytes mapped pages (slots - 1) (from + 8) (bytes - page) ps there))

read_prp2-bytes : (mapped : ℕ → Bool) (pages prp2 bytes : ℕ) (pieces : List Piece)
    → All HasBytes pieces → EndsIn (OfPieces (λ ps. All HasBytes ps)) (read_prp2 mapped pages prp2 bytes pieces)
read_prp2-bytes mapped zero prp2 bytes pieces so_far = so_far
read_prp2-bytes mapped (suc zero) prp2 bytes pieces so_far =
    read_page-bytes mapped bytes pieces (λ ps. End (Spells ps)) prp2 so_far (λ ps there. there)
read_prp2-bytes mapped (suc (suc pages)) prp2 bytes pieces so_far =
    EndsIn-unless_faulty (λ ps. All HasBytes ps) (entry_fault mapped 8 prp2 (8 * min (slots_of prp2) (suc (suc pages)))) _
    (λ _. read_entries-bytes mapped (suc (suc pages)) (slots_of prp2) prp2 bytes pieces so_far)

read_prp-bytes : (mapped : ℕ → Bool) (prp1 prp2 len : ℕ)
    → EndsIn (OfPieces (λ ps. All HasBytes ps)) (read_prp mapped prp1 prp2 len)
read_prp-bytes mapped prp1 prp2 len =
    EndsIn-unless_faulty (λ ps. All HasBytes ps) (entry_fault mapped 4 prp1 (first_len prp1 len)) _
    (λ _. read_prp2-bytes mapped (pages_of (len - first_len prp1 len)) prp2 (len - first_len prp1 len) (run prp1 (first_len prp1 len)) (run-has_bytes prp1 (first_len prp1 len)))

-- ---- whatever the data pointer holds

read_by-bytes : (pointer : DataPointer) (mapped : ℕ → Bool) (dest : Bool) (limit len : ℕ) (entry : List ℕ)
    → EndsIn (OfPieces (λ pieces. All HasBytes pieces)) (read_by pointer mapped limit dest len entry)
read_by-bytes Prp mapped dest limit len entry = read_prp-bytes mapped (prp1_of entry) (prp2_of entry) len
read_by-bytes Sgl mapped dest limit len entry = read_sgl-bytes mapped dest limit (sgl_of entry)
read_by-bytes Reserved mapped dest limit len entry = tt

sized-bytes : (len : ℕ) (reading : Reading) → OfPieces (λ pieces. All HasBytes pieces) reading → OfPieces (λ pieces. All HasBytes pieces) (sized len reading)
sized-bytes len (Faulty code) has = tt
sized-bytes len TooLong has = tt
sized-bytes len (Spells pieces) has =
    (elim (total_len pieces == len) as (λ b. OfPieces (λ ps. All HasBytes ps) (cond b (Spells pieces) (Faulty SglLengthInvalid))) [ true ↦ has | false ↦ tt ])

-- so it is of a list of the transfer's length
pub list-bytes : (pointer : DataPointer) (mapped : ℕ → Bool) (dest : Bool) (limit len : ℕ) (entry : List ℕ)
    → EndsIn (OfPieces (λ pieces. All HasBytes pieces)) (and_then (read_by pointer mapped limit dest len entry) (λ reading. End (sized len reading)))
list-bytes pointer mapped dest limit len entry =
    EndsIn-and_then (OfPieces (λ pieces. All HasBytes pieces)) (OfPieces (λ pieces. All HasBytes pieces)) (read_by pointer mapped limit dest len entry)
    (λ reading. End (sized len reading)) (read_by-bytes pointer mapped dest limit len entry) (sized-bytes len)
