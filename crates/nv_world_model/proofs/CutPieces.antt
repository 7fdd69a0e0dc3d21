-- A buffer that is cut: its places, its bytes, and that it is mapped where the whole is.
use Rattle.std.proofs.Common.{◌≡◌, ℕ, zero, suc, ◌+◌, ◌-◌, ◌<◌, ◌≤◌, min, Bool, true, ◌&&◌, List, [], ◌∷◌, ◌++◌, drop, length, map, refl, ap, sym, ◌∙◌, arith}
use Rattle.std.specs.List.{All, range_with_len}
use Rattle.std.proofs.lemmas.List.{length-drop, length-take}
use Rattle.std.proofs.lemmas.List.Elements.{All-cons, All-head, All-nil, All-tail}
use Rattle.std.proofs.lemmas.List.Sums.{sum_by-cons}
use Rattle.nv_mem.specs.GuestMap.{everywhere}
use Rattle.nv_mem.specs.Places.{At, Bucket, Place, addresses, piece_len, places_of, places_of_piece, total_len}
use Rattle.nv_mem.specs.declared.piece.Piece.{Piece}
use Rattle.nv_mem.specs.declared.piece.Piece.TheVariants as piece
use Rattle.nv_mem.proofs.PlaceLists.{length-places_of, length-places_of_piece}
use Rattle.nv_model.specs.Laws.{IsMappedPiece}
use Rattle.nv_model.proofs.Judged.{everywhere-at}
use Rattle.nv_model.proofs.RunPieces.{IsRunPiece}
use Rattle.nv_world_model.specs.Share.{cut_piece, cut_pieces}
use Rattle.nv_world_model.proofs.Windows.{window, window-append, window-map, window-none, window-range, window-replicate}

places-cut_piece : (skip len : ℕ) (p : Piece) → places_of_piece (cut_piece skip len p) ≡ window skip len (places_of_piece p)
unfolding addresses
places-cut_piece skip len (piece.Run addr bytes) =
    sym (window-map At skip len (range_with_len addr bytes) ∙ ap (map At) (window-range addr bytes skip len))
places-cut_piece skip len (piece.Bucket bytes) = sym (window-replicate Bucket bytes skip len)

-- the places of what is cut out are those places
pub places_of-cut_pieces : (skip len : ℕ) (pieces : List Piece) → places_of (cut_pieces skip len pieces) ≡ window skip len (places_of pieces)
places_of-cut_pieces skip len [] = sym (window-none skip len)
places_of-cut_pieces skip len (p ∷ ps) =
    let head = places-cut_piece skip len p in
    let size = length-places_of_piece p in
    let tail = places_of-cut_pieces (skip - piece_len p) (len - (piece_len p - skip)) ps in
    let both = window-append (places_of_piece p) (places_of ps) skip len in
    ap (λ (xs : List Place). xs ++ places_of (cut_pieces (skip - piece_len p) (len - (piece_len p - skip)) ps)) head
    ∙ ap (λ (xs : List Place). window skip len (places_of_piece p) ++ xs) tail
    ∙ sym (both ∙ ap (λ (n : ℕ). window skip len (places_of_piece p) ++ window (skip - n) (len - (n - skip)) (places_of ps)) size)

-- all of it is as it was
cut_piece-all : (len : ℕ) (p : Piece) → piece_len p ≤ len → cut_piece 0 len p ≡ p
cut_piece-all len (piece.Run addr bytes) enough =
    let at : addr + 0 ≡ addr = omega arith in
    let count : min len (bytes - 0) ≡ bytes = omega arith in
    ap (λ (a : ℕ). piece.Run a (min len (bytes - 0))) at ∙ ap (piece.Run addr) count
cut_piece-all len (piece.Bucket bytes) enough = let count : min len (bytes - 0) ≡ bytes = omega arith in ap piece.Bucket count

pub cut_pieces-all : (len : ℕ) (pieces : List Piece) → total_len pieces ≤ len → cut_pieces 0 len pieces ≡ pieces
cut_pieces-all len [] enough = refl
cut_pieces-all len (p ∷ ps) enough =
    let sum = sum_by-cons piece_len p ps in
    let none : 0 - piece_len p ≡ 0 = omega arith in
    let head = cut_piece-all len p (omega arith) in
    let tail = ap (λ (skip : ℕ). cut_pieces skip (len - (piece_len p - 0)) ps) none ∙ cut_pieces-all (len - (piece_len p - 0)) ps (omega arith) in
    cc

-- how many bytes are cut out
pub cut-total : (skip len : ℕ) (pieces : List Piece) → total_len (cut_pieces skip len pieces) ≡ min len (total_len pieces - skip)
cut-total skip len pieces =
    let size = length-places_of pieces in
    let own = length-places_of (cut_pieces skip len pieces) in
    let taken = length-take len (drop skip (places_of pieces)) in
    let dropped = length-drop skip (places_of pieces) in
    let same = ap length (places_of-cut_pieces skip len pieces) in
    omega (arith, size, own, taken, dropped, same)

-- ---- what each piece keeps

-- what is kept of each piece is kept of all
all-cut : (P : Piece → Type 0) → ((skip len : ℕ) (p : Piece) → P p → P (cut_piece skip len p)) → (skip len : ℕ) (pieces : List Piece)
    → All P pieces → All P (cut_pieces skip len pieces)
all-cut P kept skip len [] each = All-nil P
all-cut P kept skip len (p ∷ ps) each =
    All-cons P (cut_piece skip len p) (cut_pieces (skip - piece_len p) (len - (piece_len p - skip)) ps) (kept skip len p (All-head P p ps each))
    (all-cut P kept (skip - piece_len p) (len - (piece_len p - skip)) ps (All-tail P p ps each))

both : (a b : Bool) → a ≡ true → b ≡ true → (a && b) ≡ true
both a b first second = cc

everywhere-from : (test : ℕ → Bool) (addr len : ℕ) → ((i : ℕ) → i < len → test (addr + i) ≡ true) → everywhere test addr len ≡ true
unfolding everywhere
everywhere-from test addr zero each = refl
everywhere-from test addr (suc len) each =
    both (test (addr + len)) (everywhere test addr len) (each len (omega arith))
    (everywhere-from test addr len (λ i below. each i (omega (arith, below))))

-- that it is mapped
cut-mapped : (test : ℕ → Bool) (skip len : ℕ) (p : Piece) → IsMappedPiece test p → IsMappedPiece test (cut_piece skip len p)
cut-mapped test skip len (piece.Run addr bytes) is =
    everywhere-from test (addr + skip) (min len (bytes - skip)) (λ i below.
    (let at : addr + skip + i ≡ addr + (skip + i) = omega arith in
    ap test at ∙ everywhere-at test addr bytes (skip + i) is (omega (arith, below))))
cut-mapped test skip len (piece.Bucket bytes) is = tt

pub cut_pieces-mapped : (test : ℕ → Bool) (skip len : ℕ) (pieces : List Piece) → All (IsMappedPiece test) pieces
    → All (IsMappedPiece test) (cut_pieces skip len pieces)
cut_pieces-mapped test skip len pieces each = all-cut (IsMappedPiece test) (cut-mapped test) skip len pieces each

-- that it is a run
cut-run : (skip len : ℕ) (p : Piece) → IsRunPiece p → IsRunPiece (cut_piece skip len p)
unfolding IsRunPiece
cut-run skip len (piece.Run addr bytes) is = tt
cut-run skip len (piece.Bucket bytes) is = absurd is

pub cut_pieces-runs : (skip len : ℕ) (pieces : List Piece) → All IsRunPiece pieces → All IsRunPiece (cut_pieces skip len pieces)
cut_pieces-runs skip len pieces each = all-cut IsRunPiece cut-run skip len pieces each
