-- What is known of the pieces that a command's list spells
use Rattle.std.proofs.Common.{◌≡◌, ℕ, zero, suc, ◌+◌, ◌<◌, Bool, true, false, ◌==◌, cond, All, List, []}
use Rattle.std.proofs.Common.{◌∷◌, ◌++◌, length, replicate, append-nil, refl, sym, ap, subst, ◌∙◌, arith, eqb-true}
use Rattle.std.proofs.lemmas.Bool.Decides.{nat_tests}
use Rattle.std.proofs.lemmas.List.Elements.{All-append, All-cons, All-head, All-nil, All-tail}
use Rattle.nv_entry.specs.Opcode.{data_pointer}
use Rattle.nv_entry.specs.Submission.{prp1_of, prp2_of, psdt_of, sgl_of}
use Rattle.nv_entry.specs.declared.data_pointer.DataPointer.{DataPointer}
use Rattle.nv_entry.specs.declared.data_pointer.DataPointer.TheVariants.{Prp, Reserved, Sgl}
use Rattle.nv_model.specs.Prp.{read_prp}
use Rattle.nv_entry.specs.declared.status_code.StatusCode.TheVariants.{SglLengthInvalid}
use Rattle.nv_judge.specs.declared.need.Need.{Need}
use Rattle.nv_mem.specs.GuestMap.{mapped}
use Rattle.nv_mem.specs.Places.{At, Bucket, addresses, places_of, places_of_piece, total_len}
use Rattle.nv_mem.specs.declared.piece.Piece.{Piece}
use Rattle.nv_mem.specs.declared.piece.Piece.TheVariants as piece
use Rattle.nv_mem.proofs.PlaceLists.{length-places_of}
use Rattle.nv_model.specs.Dialogue.{Dialogue, End, Ask, in_memory}
use Rattle.nv_model.specs.Judge.{read_by, read_source, sized}
use Rattle.nv_model.specs.Laws.{IsMappedPiece}
use Rattle.std.proofs.lemmas.List.{append_assoc}
use Rattle.nv_model.specs.Memory.{byte_in, bytes_from, gathered}
use Rattle.nv_model.specs.Reading.{Reading, Faulty, TooLong, Spells}
use Rattle.nv_model.proofs.Endings.{EndsIn, OfPieces, in_memory-ends}
use Rattle.nv_model.proofs.DialogueLemmas.{in_memory-and_then}
use Rattle.nv_model.proofs.Judged.{everywhere-at}
use Rattle.nv_model.proofs.MemoryLemmas.{gathered-addresses, gathered-append}
use Rattle.nv_model.proofs.RunPieces.{IsRunPiece, read_by-runs}
use Rattle.nv_model.proofs.Spelled.{AreOfLen, read_prp-of_len, read_sgl-mapped}
use Rattle.nv_disk.specs.Buffer.{AreBelow, IsBelow}
use Rattle.nv_flat.specs.Flat.{identity_map}
use Rattle.nv_disk.specs.Flat.{Flat}
use Rattle.nv_flat.specs.Listed.{list_reading}

-- ---- in the memory

-- consecutive addresses that are each below the size
addresses-are-below : (size addr len : ℕ) → ((i : ℕ) → i < len → addr + i < size) → AreBelow size (addresses addr len)
unfolding addresses
addresses-are-below size addr zero each = All-nil (IsBelow size)
addresses-are-below size addr (suc len) each =
    let first : addr < size = (let f = each 0 (omega arith) in omega arith) in
    All-cons (IsBelow size) (At addr) (addresses (addr + 1) len) first
    (addresses-are-below size (addr + 1) len (λ i below. let f = each (suc i) (omega arith) in omega arith))

buckets-are-below : (size n : ℕ) → AreBelow size (replicate n Bucket)
buckets-are-below size zero = All-nil (IsBelow size)
buckets-are-below size (suc n) = All-cons (IsBelow size) Bucket (replicate n Bucket) tt (buckets-are-below size n)

-- a mapped piece lies in a memory whose addresses are the guest's own
piece-is-below : (size : ℕ) (p : Piece) → IsMappedPiece (mapped (identity_map size).regions) p
    → AreBelow size (places_of_piece p)
piece-is-below size (piece.Run addr len) is =
    addresses-are-below size addr len (λ i below. inside size (addr + i) (everywhere-at (mapped (identity_map size).regions) addr len i is below))
  where
    inside : (size at : ℕ) → mapped (identity_map size).regions at ≡ true → at < size
    inside size at is = grind (arith, nat_tests)
piece-is-below size (piece.Bucket len) is = buckets-are-below size len

pub pieces-are-below : (size : ℕ) (pieces : List Piece)
    → All (IsMappedPiece (mapped (identity_map size).regions)) pieces → AreBelow size (places_of pieces)
pieces-are-below size [] each = All-nil (IsBelow size)
pieces-are-below size (p ∷ pieces) each =
    All-append (IsBelow size) (places_of_piece p) (places_of pieces)
    (piece-is-below size p (All-head (IsMappedPiece (mapped (identity_map size).regions)) p pieces each))
    (pieces-are-below size pieces (All-tail (IsMappedPiece (mapped (identity_map size).regions)) p pieces each))

-- ---- of the transfer's length

sized-spells : (len : ℕ) (reading : Reading) (pieces : List Piece) → sized len reading ≡ Spells pieces
    → (reading ≡ Spells pieces) × (total_len pieces ≡ len)
sized-spells len (Faulty code) pieces e = (cc)
sized-spells len TooLong pieces e = (cc)
sized-spells len (Spells ps) pieces e = by_test (total_len ps == len) refl e
  where
    by_test : (same : Bool) → (total_len ps == len) ≡ same
        → cond same (Spells ps) (Faulty SglLengthInvalid) ≡ Spells pieces
        → (Spells ps ≡ Spells pieces) × (total_len pieces ≡ len)
    by_test true is e =
        let same : ps ≡ pieces = (cc) in
        (e, ap total_len (sym same) ∙ eqb-true (total_len ps) len is)
    by_test false is e = (cc)

-- what has this at each end has what follows from it
EndsIn-weaker : {A : Type 0} (P Q : A → Type 0) (d : Dialogue A) → ((a : A) → P a → Q a) → EndsIn P d → EndsIn Q d
EndsIn-weaker P Q (End value) weaker ends = weaker value ends
EndsIn-weaker P Q (Ask addr unit left next) weaker ends = λ bytes. EndsIn-weaker P Q (next bytes) weaker (ends bytes)

-- ---- whatever the data pointer holds

read_by-mapped : (pointer : DataPointer) (mapped : ℕ → Bool) (limit : ℕ) (dest : Bool) (len : ℕ) (entry : List ℕ)
    → EndsIn (OfPieces (λ pieces. All (IsMappedPiece mapped) pieces)) (read_by pointer mapped limit dest len entry)
read_by-mapped Prp mapped limit dest len entry =
    EndsIn-weaker (OfPieces (AreOfLen mapped len)) (OfPieces (λ pieces. All (IsMappedPiece mapped) pieces)) (read_prp mapped (prp1_of entry) (prp2_of entry) len)
    weaker (read_prp-of_len mapped (prp1_of entry) (prp2_of entry) len)
  where
    weaker : (r : Reading) → OfPieces (AreOfLen mapped len) r → OfPieces (λ pieces. All (IsMappedPiece mapped) pieces) r
    weaker (Faulty code) of = tt
    weaker TooLong of = tt
    weaker (Spells pieces) of = of.mapped_each
read_by-mapped Sgl mapped limit dest len entry = read_sgl-mapped mapped dest limit (sgl_of entry)
read_by-mapped Reserved mapped limit dest len entry = tt

-- the pieces that a list spells lie in the memory, are as long as the transfer, and those of a source are runs
pub record AreUsable (f : Flat) (need : Need) (pieces : List Piece) : Type 0 where
  pub below : AreBelow (length f.memory) (places_of pieces)
  pub total : length (places_of pieces) ≡ need.bytes
  pub runs : need.dest ≡ false → All IsRunPiece pieces

pub spelled-usable : (f : Flat) (entry : List ℕ) (need : Need) (pieces : List Piece)
    → list_reading f entry need ≡ Spells pieces → AreUsable f need pieces
unfolding in_memory
spelled-usable f entry need pieces spelled =
    let map : ℕ → Bool = mapped (identity_map (length f.memory)).regions in
    let pointer : DataPointer = data_pointer (psdt_of entry) in
    let list : Dialogue Reading = read_by pointer map 1024 need.dest need.bytes entry in
    let both = sized-spells need.bytes (in_memory (byte_in f.memory) list) pieces (sym (in_memory-and_then (byte_in f.memory) list (λ r. End (sized need.bytes r))) ∙ spelled) in
    let P : Reading → Type 0 = λ r. OfPieces (λ ps. All (IsMappedPiece map) ps) r in
    let Q : Reading → Type 0 = λ r. OfPieces (λ ps. All IsRunPiece ps) r in
    record {
      below = pieces-are-below (length f.memory) pieces
          (subst P both.0 (in_memory-ends (OfPieces (λ ps. All (IsMappedPiece map) ps)) (byte_in f.memory) list
          (read_by-mapped pointer map 1024 need.dest need.bytes entry)));
      total = length-places_of pieces ∙ both.1;
      runs = λ source.
          let R : Bool → Type 0 = λ d. EndsIn (OfPieces (λ ps. All IsRunPiece ps)) (read_by pointer map 1024 d need.bytes entry) in
          subst Q both.0 (in_memory-ends (OfPieces (λ ps. All IsRunPiece ps)) (byte_in f.memory) list (subst R (sym source) (read_by-runs pointer map 1024 need.bytes entry)));
    }

-- the bytes of a source are those at its places
pub read_source-gathered : (m : ℕ → ℕ) (pieces : List Piece) (bytes : List ℕ) → All IsRunPiece pieces
    → in_memory m (read_source pieces bytes) ≡ bytes ++ gathered m (places_of pieces)
unfolding read_source in_memory IsRunPiece gathered
read_source-gathered m [] bytes each = sym (append-nil bytes)
read_source-gathered m (piece.Run addr len ∷ pieces) bytes each =
    read_source-gathered m pieces (bytes ++ bytes_from m addr len) (All-tail IsRunPiece (piece.Run addr len) pieces each)
    ∙ append_assoc bytes (bytes_from m addr len) (gathered m (places_of pieces))
    ∙ ap (λ (front : List ℕ). bytes ++ (front ++ gathered m (places_of pieces))) (sym (gathered-addresses m addr len))
    ∙ ap (λ (all : List ℕ). bytes ++ all) (sym (gathered-append m (addresses addr len) (places_of pieces)))
read_source-gathered m (piece.Bucket len ∷ pieces) bytes each =
    absurd (All-head IsRunPiece (piece.Bucket len) pieces each)
