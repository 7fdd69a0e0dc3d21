-- A source names no bucket: each piece that its list spells is a run.
use Rattle.std.proofs.Common.{ℕ, zero, suc, ◌+◌, ◌-◌, ◌*◌, ◌/◌, min, Bool, true, false, ◌&&◌, ◌==◌, nat_lt, cond, All, List, [], ◌∷◌, ◌++◌, Option, Some, None}
use Rattle.std.proofs.lemmas.List.Elements.{All-append, All-cons, All-nil}
use Rattle.nv_entry.specs.Descriptor.{address_of, length_of, kind_of}
use Rattle.nv_entry.specs.Layout.{number_at}
use Rattle.nv_entry.specs.Submission.{prp1_of, prp2_of, sgl_of}
use Rattle.nv_entry.specs.declared.data_pointer.DataPointer.{DataPointer}
use Rattle.nv_entry.specs.declared.data_pointer.DataPointer.TheVariants.{Prp, Reserved, Sgl}
use Rattle.nv_entry.specs.declared.descriptor_type.DescriptorType.{DescriptorType}
use Rattle.nv_entry.specs.declared.descriptor_type.DescriptorType.TheVariants.{DataBlock, BitBucket, Segment, LastSegment}
use Rattle.nv_mem.specs.declared.piece.Piece.{Piece}
use Rattle.nv_mem.specs.declared.piece.Piece.TheVariants as piece
use Rattle.nv_model.specs.Dialogue.{Dialogue, End}
use Rattle.nv_model.specs.Judge.{read_by}
use Rattle.nv_model.specs.Limits.{page}
use Rattle.nv_model.specs.Prp.{entry_fault, first_len, pages_of, read_entries, read_page, read_prp, read_prp2, slots_of}
use Rattle.nv_model.specs.Reading.{Reading, Spells, run}
use Rattle.nv_model.specs.Sgl.{Array, array_by, behind_own, fault_by, pieces_by, read_array, read_descriptor, read_sgl}
use Rattle.nv_model.proofs.Endings.{EndsIn, EndsIn-if, EndsIn-unless_faulty, OfPieces}

-- a piece is a run
unfoldable pub IsRunPiece : Piece → Type 0
IsRunPiece (piece.Run addr len) = Unit {0}
IsRunPiece (piece.Bucket len) = ⊥

run-is-run : (addr len : ℕ) → All IsRunPiece (run addr len)
unfolding IsRunPiece
run-is-run addr len =
    (elim (len == 0) as (λ b. All IsRunPiece (cond b [] (piece.Run addr len ∷ []))) [
      | true ↦ All-nil IsRunPiece
      | false ↦ All-cons IsRunPiece (piece.Run addr len) [] tt (All-nil IsRunPiece)
    ])

pieces_by-runs : (kind : Option DescriptorType) (d : List ℕ) → All IsRunPiece (pieces_by kind false d)
pieces_by-runs None d = All-nil IsRunPiece
pieces_by-runs (Some DataBlock) d = run-is-run (address_of d) (length_of d)
pieces_by-runs (Some BitBucket) d = All-nil IsRunPiece
pieces_by-runs (Some Segment) d = All-nil IsRunPiece
pieces_by-runs (Some LastSegment) d = All-nil IsRunPiece

read_descriptor-runs : (mapped : ℕ → Bool) (rest : Array) (pieces : List Piece) (follow : Array → List Piece → Dialogue Reading) (d : List ℕ)
    → All IsRunPiece pieces
    → ((a : Array) (ps : List Piece) → All IsRunPiece ps → EndsIn (OfPieces (λ ps. All IsRunPiece ps)) (follow a ps))
    → EndsIn (OfPieces (λ ps. All IsRunPiece ps)) (read_descriptor mapped false rest pieces follow d)
read_descriptor-runs mapped rest pieces follow d so_far goes =
    EndsIn-unless_faulty (λ ps. All IsRunPiece ps) (fault_by (kind_of d) mapped rest d) _
    (λ fine. goes (array_by (kind_of d) rest d) (pieces ++ pieces_by (kind_of d) false d)
    (All-append IsRunPiece pieces (pieces_by (kind_of d) false d) so_far (pieces_by-runs (kind_of d) d)))

read_array-runs : (mapped : ℕ → Bool) (budget left from : ℕ) (by_last : Bool) (pieces : List Piece)
    → All IsRunPiece pieces
    → EndsIn (OfPieces (λ ps. All IsRunPiece ps)) (read_array mapped false budget left from by_last pieces)
unfolding read_array
read_array-runs mapped budget zero from by_last pieces so_far = so_far
read_array-runs mapped zero (suc left) from by_last pieces so_far = tt
read_array-runs mapped (suc budget) (suc left) from by_last pieces so_far =
    λ d. read_descriptor-runs mapped (record { from = from + 16; left = left; by_last = by_last }) pieces
    (λ a ps. read_array mapped false budget a.left a.from a.by_last ps) d so_far
    (λ a ps there. read_array-runs mapped budget a.left a.from a.by_last ps there)

read_sgl-runs : (mapped : ℕ → Bool) (limit : ℕ) (own : List ℕ)
    → EndsIn (OfPieces (λ ps. All IsRunPiece ps)) (read_sgl mapped false limit own)
unfolding read_sgl
read_sgl-runs mapped zero own = tt
read_sgl-runs mapped (suc budget) own =
    read_descriptor-runs mapped behind_own []
    (λ a ps. read_array mapped false budget a.left a.from a.by_last ps) own (All-nil IsRunPiece)
    (λ a ps there. read_array-runs mapped budget a.left a.from a.by_last ps there)

-- ---- physical region pages
read_page-runs : (mapped : ℕ → Bool) (bytes : ℕ) (pieces : List Piece) (follow : List Piece → Dialogue Reading) (addr : ℕ)
    → All IsRunPiece pieces
    → ((ps : List Piece) → All IsRunPiece ps → EndsIn (OfPieces (λ ps. All IsRunPiece ps)) (follow ps))
    → EndsIn (OfPieces (λ ps. All IsRunPiece ps)) (read_page mapped bytes pieces follow addr)
read_page-runs mapped bytes pieces follow addr so_far goes =
    EndsIn-unless_faulty (λ ps. All IsRunPiece ps) (entry_fault mapped page addr (min bytes page)) _
    (λ fine. goes (pieces ++ run addr (min bytes page)) (All-append IsRunPiece pieces (run addr (min bytes page)) so_far (run-is-run addr (min bytes page))))

read_entries-runs : (mapped : ℕ → Bool) (pages slots from bytes : ℕ) (pieces : List Piece)
    → All IsRunPiece pieces
    → EndsIn (OfPieces (λ ps. All IsRunPiece ps)) (read_entries mapped pages slots from bytes pieces)
unfolding read_entries
read_entries-runs mapped zero slots from bytes pieces so_far = so_far
read_entries-runs mapped (suc pages) slots from bytes pieces so_far =
    EndsIn-if (OfPieces (λ ps. All IsRunPiece ps)) (slots == 1 && nat_lt 0 pages) _ _
    (λ _. λ slot. EndsIn-unless_faulty (λ ps. All IsRunPiece ps) (entry_fault mapped page (number_at slot 0 8) (8 * min (page / 8) (suc pages))) _
    (λ _. λ entry. read_page-runs mapped bytes pieces _ (number_at entry 0 8) so_far
    (λ ps there. read_entries-runs mapped pages (page / 8 - 1) (number_at slot 0 8 + 8) (bytes - page) ps there)))
    (λ _. λ entry. read_page-runs mapped bytes pieces _ (number_at entry 0 8) so_far
    (λ ps there. read_entries-runs mapped pages (slots - 1) (from + 8) (bytes - page) ps there))

read_prp2-runs : (mapped : ℕ → Bool) (pages prp2 bytes : ℕ) (pieces : List Piece)
    → All IsRunPiece pieces → EndsIn (OfPieces (λ ps. All IsRunPiece ps)) (read_prp2 mapped pages prp2 bytes pieces)
read_prp2-runs mapped zero prp2 bytes pieces so_far = so_far
read_prp2-runs mapped (suc zero) prp2 bytes pieces so_far =
    read_page-runs mapped bytes pieces (λ ps. End (Spells ps)) prp2 so_far (λ ps there. there)
read_prp2-runs mapped (suc (suc pages)) prp2 bytes pieces so_far =
    EndsIn-unless_faulty (λ ps. All IsRunPiece ps) (entry_fault mapped 8 prp2 (8 * min (slots_of prp2) (suc (suc pages)))) _
    (λ _. read_entries-runs mapped (suc (suc pages)) (slots_of prp2) prp2 bytes pieces so_far)

read_prp-runs : (mapped : ℕ → Bool) (prp1 prp2 len : ℕ)
    → EndsIn (OfPieces (λ ps. All IsRunPiece ps)) (read_prp mapped prp1 prp2 len)
read_prp-runs mapped prp1 prp2 len =
    EndsIn-unless_faulty (λ ps. All IsRunPiece ps) (entry_fault mapped 4 prp1 (first_len prp1 len)) _
    (λ _. read_prp2-runs mapped (pages_of (len - first_len prp1 len)) prp2 (len - first_len prp1 len) (run prp1 (first_len prp1 len)) (run-is-run prp1 (first_len prp1 len)))

-- ---- whatever the data pointer holds

pub read_by-runs : (pointer : DataPointer) (mapped : ℕ → Bool) (limit len : ℕ) (entry : List ℕ)
    → EndsIn (OfPieces (λ pieces. All IsRunPiece pieces)) (read_by pointer mapped limit false len entry)
read_by-runs Prp mapped limit len entry = read_prp-runs mapped (prp1_of entry) (prp2_of entry) len
read_by-runs Sgl mapped limit len entry = read_sgl-runs mapped limit (sgl_of entry)
read_by-runs Reserved mapped limit len entry = tt
