-- What the pieces that a list spells have in common: each run is mapped, and those of a PRP list are as long as the transfer.
use Rattle.std.proofs.Common.{◌≡◌, ℕ, zero, suc, ◌+◌, ◌-◌, ◌*◌, ◌/◌, ◌%◌, ◌≤◌, min, Bool}
use Rattle.std.proofs.Common.{true, false, cond, not, ◌&&◌, ◌==◌, nat_lt, List, [], ◌∷◌, ◌++◌, All}
use Rattle.std.proofs.Common.{Option, Some, None, arith, refl, sym, ap, ◌∙◌, eq-eqb, eqb-true, zero-add}
use Rattle.std.proofs.lemmas.List.Elements.{All-nil, All-cons, All-append}
use Rattle.std.proofs.lemmas.List.Sums.{sum_by-append}
use Rattle.nv_entry.specs.Layout.{number_at}
use Rattle.nv_entry.specs.Descriptor.{address_of, length_of, kind_of}
use Rattle.nv_entry.specs.declared.descriptor_type.DescriptorType.{DescriptorType}
use Rattle.nv_entry.specs.declared.descriptor_type.DescriptorType.TheVariants.{DataBlock, BitBucket, Segment, LastSegment}
use Rattle.nv_entry.specs.declared.status_code.StatusCode.TheVariants.{DataTransferError, PrpOffsetInvalid, SglLengthInvalid}
use Rattle.nv_mem.specs.GuestMap.{everywhere}
use Rattle.nv_mem.specs.Places.{total_len, piece_len}
use Rattle.nv_mem.specs.declared.piece.Piece.{Piece}
use Rattle.nv_mem.specs.declared.piece.Piece.TheVariants.{Run, Bucket}
use Rattle.nv_model.specs.Dialogue.{Dialogue, End, Ask, and_then}
use Rattle.nv_model.specs.Reading.{Reading, Faulty, TooLong, Spells, run}
use Rattle.nv_model.specs.Judge.{sized}
use Rattle.nv_model.specs.Sgl.{Array, array_by, behind_own, fault_by, pieces_by, read_array, read_descriptor, read_sgl}
use Rattle.nv_model.specs.Prp.{entry_fault, first_len, pages_of, read_entries, read_page, read_prp, read_prp2, slots_of}
use Rattle.nv_model.specs.Limits.{page}
use Rattle.nv_model.specs.Laws.{IsMappedPiece}
use Rattle.nv_model.proofs.Endings.{EndsIn, EndsIn-if, EndsIn-unless_faulty, OfPieces, first_failing-none, not-false}

-- the pieces are mapped
abbrev AreMapped : (ℕ → Bool) → List Piece → Type 0
AreMapped mapped pieces = All (IsMappedPiece mapped) pieces

-- a run of mapped bytes
AreMapped-run : (mapped : ℕ → Bool) (addr len : ℕ) → everywhere mapped addr len ≡ true → AreMapped mapped (run addr len)
AreMapped-run mapped addr len is =
    (elim (len == 0) as (λ b. AreMapped mapped (cond b [] (Run addr len ∷ []))) [
      | true ↦ All-nil (IsMappedPiece mapped)
      | false ↦ All-cons (IsMappedPiece mapped) (Run addr len) [] is (All-nil (IsMappedPiece mapped))
    ])

-- ---- scatter gather lists

-- the pieces of a descriptor without a fault
AreMapped-pieces_by : (mapped : ℕ → Bool) (dest : Bool) (kind : Option DescriptorType) (rest : Array) (d : List ℕ)
    → fault_by kind mapped rest d ≡ None → AreMapped mapped (pieces_by kind dest d)
AreMapped-pieces_by mapped dest None rest d fine = All-nil (IsMappedPiece mapped)
AreMapped-pieces_by mapped dest (Some DataBlock) rest d fine =
    AreMapped-run mapped (address_of d) (length_of d)
    (not-false _ (first_failing-none (not (everywhere mapped (address_of d) (length_of d))) DataTransferError [] fine).0)
AreMapped-pieces_by mapped dest (Some BitBucket) rest d fine =
    (elim (dest && not (length_of d == 0)) as (λ b. AreMapped mapped (cond b (Bucket (length_of d) ∷ []) [])) [
      | true ↦ All-cons (IsMappedPiece mapped) (Bucket (length_of d)) [] tt (All-nil (IsMappedPiece mapped))
      | false ↦ All-nil (IsMappedPiece mapped)
    ])
AreMapped-pieces_by mapped dest (Some Segment) rest d fine = All-nil (IsMappedPiece mapped)
AreMapped-pieces_by mapped dest (Some LastSegment) rest d fine = All-nil (IsMappedPiece mapped)

-- a descriptor, and what follows
read_descriptor-mapped : (mapped : ℕ → Bool) (dest : Bool) (rest : Array) (pieces : List Piece) (follow : Array → List Piece → Dialogue Reading) (d : List ℕ)
    → AreMapped mapped pieces
    → ((a : Array) (ps : List Piece) → AreMapped mapped ps → EndsIn (OfPieces (AreMapped mapped)) (follow a ps))
    → EndsIn (OfPieces (AreMapped mapped)) (read_descriptor mapped dest rest pieces follow d)
read_descriptor-mapped mapped dest rest pieces follow d so_far goes =
    EndsIn-unless_faulty (AreMapped mapped) (fault_by (kind_of d) mapped rest d) _
    (λ fine. goes (array_by (kind_of d) rest d) (pieces ++ pieces_by (kind_of d) dest d)
    (All-append (IsMappedPiece mapped) pieces (pieces_by (kind_of d) dest d) so_far (AreMapped-pieces_by mapped dest (kind_of d) rest d fine)))

-- arrays
read_array-mapped : (mapped : ℕ → Bool) (dest : Bool) (budget left from : ℕ) (by_last : Bool) (pieces : List Piece)
    → AreMapped mapped pieces
    → EndsIn (OfPieces (AreMapped mapped)) (read_array mapped dest budget left from by_last pieces)
unfolding read_array
read_array-mapped mapped dest budget zero from by_last pieces so_far = so_far
read_array-mapped mapped dest zero (suc left) from by_last pieces so_far = tt
read_array-mapped mapped dest (suc budget) (suc left) from by_last pieces so_far =
    λ d. read_descriptor-mapped mapped dest (record { from = from + 16; left = left; by_last = by_last }) pieces
    (λ a ps. read_array mapped dest budget a.left a.from a.by_last ps) d so_far
    (λ a ps there. read_array-mapped mapped dest budget a.left a.from a.by_last ps there)

-- each run that a scatter gather list spells is mapped
pub read_sgl-mapped : (mapped : ℕ → Bool) (dest : Bool) (limit : ℕ) (own : List ℕ)
    → EndsIn (OfPieces (λ pieces. All (IsMappedPiece mapped) pieces)) (read_sgl mapped dest limit own)
unfolding read_sgl
read_sgl-mapped mapped dest zero own = tt
read_sgl-mapped mapped dest (suc budget) own =
    read_descriptor-mapped mapped dest behind_own []
    (λ a ps. read_array mapped dest budget a.left a.from a.by_last ps) own (All-nil (IsMappedPiece mapped))
    (λ a ps there. read_array-mapped mapped dest budget a.left a.from a.by_last ps there)

-- ---- physical region pages

-- how long a run is
total_len-run : (addr len : ℕ) → total_len (run addr len) ≡ len
total_len-run addr len =
    (elim (len == 0) as (λ b. (len == 0) ≡ b → total_len (cond b [] (Run addr len ∷ [])) ≡ len) [
      | true ↦ λ is. sym (eqb-true len 0 is)
      | false ↦ λ is. zero-add len
    ]) refl

total_len-append : (ps qs : List Piece) → total_len (ps ++ qs) ≡ total_len ps + total_len qs
total_len-append ps qs = sum_by-append piece_len ps qs

-- the pieces are mapped, and have that length
pub record AreOfLen (mapped : ℕ → Bool) (len : ℕ) (pieces : List Piece) : Type 0 where
  pub mapped_each : All (IsMappedPiece mapped) pieces
  pub total : total_len pieces ≡ len

-- an entry without a fault is mapped
entry_fault-none : (mapped : ℕ → Bool) (alignment addr len : ℕ) → entry_fault mapped alignment addr len ≡ None
    → everywhere mapped addr len ≡ true
entry_fault-none mapped alignment addr len fine =
    let behind = (first_failing-none (not (addr % alignment == 0)) PrpOffsetInvalid ((not (everywhere mapped addr len), DataTransferError) ∷ []) fine).1 in
    not-false _ (first_failing-none (not (everywhere mapped addr len)) DataTransferError [] behind).0

-- one more run
AreOfLen-run : (mapped : ℕ → Bool) (len : ℕ) (pieces : List Piece) (addr more : ℕ)
    → AreOfLen mapped len pieces → everywhere mapped addr more ≡ true
    → AreOfLen mapped (len + more) (pieces ++ run addr more)
AreOfLen-run mapped len pieces addr more so_far is =
    record {
      mapped_each = All-append (IsMappedPiece mapped) pieces (run addr more) so_far.mapped_each (AreMapped-run mapped addr more is);
      total = total_len-append pieces (run addr more) ∙ ap (λ (n : ℕ). n + total_len (run addr more)) so_far.total ∙ ap (λ (n : ℕ). len + n) (total_len-run addr more);
    }

-- a page entry, and what follows
read_page-of_len : (mapped : ℕ → Bool) (len bytes : ℕ) (pieces : List Piece) (follow : List Piece → Dialogue Reading) (addr so_far_len : ℕ)
    → AreOfLen mapped so_far_len pieces
    → ((ps : List Piece) → AreOfLen mapped (so_far_len + min bytes page) ps → EndsIn (OfPieces (AreOfLen mapped len)) (follow ps))
    → EndsIn (OfPieces (AreOfLen mapped len)) (read_page mapped bytes pieces follow addr)
read_page-of_len mapped len bytes pieces follow addr so_far_len so_far goes =
    EndsIn-unless_faulty (AreOfLen mapped len) (entry_fault mapped page addr (min bytes page)) _
    (λ fine. goes (pieces ++ run addr (min bytes page))
    (AreOfLen-run mapped so_far_len pieces addr (min bytes page) so_far (entry_fault-none mapped page addr (min bytes page) fine)))

-- the entries of the last pages
read_entries-of_len : (mapped : ℕ → Bool) (len pages slots from bytes : ℕ) (pieces : List Piece) (so_far_len : ℕ)
    → AreOfLen mapped so_far_len pieces → so_far_len + bytes ≡ len → bytes ≤ pages * 4096
    → EndsIn (OfPieces (AreOfLen mapped len)) (read_entries mapped pages slots from bytes pieces)
unfolding read_entries
read_entries-of_len mapped len zero slots from bytes pieces so_far_len so_far sum fit =
    let whole : so_far_len ≡ len = omega arith in
    record { mapped_each = so_far.mapped_each; total = so_far.total ∙ whole }
read_entries-of_len mapped len (suc pages) slots from bytes pieces so_far_len so_far sum fit =
    EndsIn-if (OfPieces (AreOfLen mapped len)) (slots == 1 && nat_lt 0 pages) _ _
    (λ _. λ slot. EndsIn-unless_faulty (AreOfLen mapped len) (entry_fault mapped page (number_at slot 0 8) (8 * min (page / 8) (suc pages))) _
    (λ _. λ entry. read_page-of_len mapped len bytes pieces _ (number_at entry 0 8) so_far_len so_far
    (λ ps there. read_entries-of_len mapped len pages (page / 8 - 1) (number_at slot 0 8 + 8) (bytes - page) ps (so_far_len + min bytes page) there (omega arith) (omega arith))))
    (λ _. λ entry. read_page-of_len mapped len bytes pieces _ (number_at entry 0 8) so_far_len so_far
    (λ ps there. read_entries-of_len mapped len pages (slots - 1) (from + 8) (bytes - page) ps (so_far_len + min bytes page) there (omega arith) (omega arith)))

-- what PRP2 says
read_prp2-of_len : (mapped : ℕ → Bool) (len pages prp2 bytes : ℕ) (pieces : List Piece) (so_far_len : ℕ)
    → AreOfLen mapped so_far_len pieces → so_far_len + bytes ≡ len → bytes ≤ pages * 4096
    → EndsIn (OfPieces (AreOfLen mapped len)) (read_prp2 mapped pages prp2 bytes pieces)
read_prp2-of_len mapped len zero prp2 bytes pieces so_far_len so_far sum fit =
    let whole : so_far_len ≡ len = omega arith in
    record { mapped_each = so_far.mapped_each; total = so_far.total ∙ whole }
read_prp2-of_len mapped len (suc zero) prp2 bytes pieces so_far_len so_far sum fit =
    read_page-of_len mapped len bytes pieces (λ ps. End (Spells ps)) prp2 so_far_len so_far
    (λ ps there. let whole : so_far_len + min bytes page ≡ len = omega arith in record { mapped_each = there.mapped_each; total = there.total ∙ whole })
read_prp2-of_len mapped len (suc (suc pages)) prp2 bytes pieces so_far_len so_far sum fit =
    EndsIn-unless_faulty (AreOfLen mapped len) (entry_fault mapped 8 prp2 (8 * min (slots_of prp2) (suc (suc pages)))) _
    (λ _. read_entries-of_len mapped len (suc (suc pages)) (slots_of prp2) prp2 bytes pieces so_far_len so_far sum fit)

-- the pages hold the bytes
pub pages_of-fit : (bytes : ℕ) → bytes ≤ pages_of bytes * 4096
pages_of-fit bytes = omega arith

-- each run that PRP1 and PRP2 spell is mapped, and they are as long as the transfer
pub read_prp-of_len : (mapped : ℕ → Bool) (prp1 prp2 len : ℕ)
    → EndsIn (OfPieces (AreOfLen mapped len)) (read_prp mapped prp1 prp2 len)
read_prp-of_len mapped prp1 prp2 len =
    let none : AreOfLen mapped 0 [] = record { mapped_each = All-nil (IsMappedPiece mapped); total = refl } in
    EndsIn-unless_faulty (AreOfLen mapped len) (entry_fault mapped 4 prp1 (first_len prp1 len)) _
    (λ fine. read_prp2-of_len mapped len (pages_of (len - first_len prp1 len)) prp2 (len - first_len prp1 len) (run prp1 (first_len prp1 len)) (0 + first_len prp1 len)
    (AreOfLen-run mapped 0 [] prp1 (first_len prp1 len) none (entry_fault-none mapped 4 prp1 (first_len prp1 len) fine))
    (omega arith) (pages_of-fit (len - first_len prp1 len)))

-- ---- another length than the transfer's

-- functions that agree at each argument
functions-agree : {A B : Type 0} (f g : A → B) → ((a : A) → f a ≡ g a) → f ≡ g
functions-agree f g same = λ i. λ a. same a i

-- where each end has the transfer's length, none is faulty for its length
sized-kept : (len : ℕ) (d : Dialogue Reading) → EndsIn (OfPieces (λ pieces. total_len pieces ≡ len)) d
    → and_then d (λ reading. End (sized len reading)) ≡ d
unfolding and_then
sized-kept len (End (Faulty code)) ends = refl
sized-kept len (End TooLong) ends = refl
sized-kept len (End (Spells pieces)) ends =
    ap (λ (b : Bool). End (cond b (Spells pieces) (Faulty SglLengthInvalid))) (eq-eqb (total_len pieces) len ends)
sized-kept len (Ask addr unit left next) ends =
    ap (λ (f : List ℕ → Dialogue Reading). Ask addr unit left f)
    (functions-agree (λ bytes. and_then (next bytes) (λ reading. End (sized len reading))) next (λ bytes. sized-kept len (next bytes) (ends bytes)))

-- what holds of the ends holds of them in other words
EndsIn-weaker : {A : Type 0} (P Q : A → Type 0) (d : Dialogue A) → ((value : A) → P value → Q value) → EndsIn P d
    → EndsIn Q d
EndsIn-weaker P Q (End value) so ends = so value ends
EndsIn-weaker P Q (Ask addr unit left next) so ends = λ bytes. EndsIn-weaker P Q (next bytes) so (ends bytes)

OfPieces-total : (mapped : ℕ → Bool) (len : ℕ) (reading : Reading) → OfPieces (AreOfLen mapped len) reading
    → OfPieces (λ pieces. total_len pieces ≡ len) reading
OfPieces-total mapped len (Faulty code) of_len = tt
OfPieces-total mapped len TooLong of_len = tt
OfPieces-total mapped len (Spells pieces) of_len = of_len.total

-- so it is with PRP1 and PRP2
pub read_prp-sized : (mapped : ℕ → Bool) (prp1 prp2 len : ℕ)
    → and_then (read_prp mapped prp1 prp2 len) (λ reading. End (sized len reading)) ≡ read_prp mapped prp1 prp2 len
read_prp-sized mapped prp1 prp2 len =
    sized-kept len (read_prp mapped prp1 prp2 len)
    (EndsIn-weaker (OfPieces (AreOfLen mapped len)) (OfPieces (λ pieces. total_len pieces ≡ len)) (read_prp mapped prp1 prp2 len) (OfPieces-total mapped len) (read_prp-of_len mapped prp1 prp2 len))
