-- Lemmas on the places that pieces name.
use Rattle.std.proofs.Common.{◌≡◌, ℕ, zero, suc, ◌+◌, ◌<◌, ◌≤◌, List, [], ◌∷◌, ◌++◌, length, drop, get_or, refl, ap, ◌∙◌, arith}
use Rattle.std.proofs.Math.Seq.{drop-cons}
use Rattle.std.proofs.lemmas.List.{length-append, length-replicate}
use Rattle.std.proofs.lemmas.List.Sums.{sum_by-cons}
use Rattle.std.proofs.lemmas.List.FromFn.{length-map-range_with_len}
use Rattle.nv_mem.specs.declared.piece.Piece.{Piece}
use Rattle.nv_mem.specs.declared.piece.Piece.TheVariants as piece
use Rattle.nv_mem.specs.Places.{Place, At, Bucket, addresses, piece_len, places_of_piece, places_of, total_len}

-- a run names as many addresses as it has bytes
pub length-addresses : (addr len : ℕ) → length (addresses addr len) ≡ len
unfolding addresses
length-addresses addr len = length-map-range_with_len At addr len

-- a piece names as many places as it has bytes
pub length-places_of_piece : (p : Piece) → length (places_of_piece p) ≡ piece_len p
length-places_of_piece (piece.Run addr len) = length-addresses addr len
length-places_of_piece (piece.Bucket len) = length-replicate len Bucket

-- pieces name as many places as they have bytes
pub length-places_of : (ps : List Piece) → length (places_of ps) ≡ total_len ps
length-places_of [] = refl
length-places_of (p ∷ ps) =
    let head = length-places_of_piece p in
    let rest = length-places_of ps in
    rw (length-append (places_of_piece p) (places_of ps), sum_by-cons piece_len p ps) (omega (arith, head, rest))

-- consecutive addresses in two parts
pub addresses-append : (addr n k : ℕ) → addresses addr (n + k) ≡ addresses addr n ++ addresses (addr + n) k
unfolding addresses
addresses-append addr zero k =
    let none : zero + k ≡ k = omega arith in
    let same : addr ≡ addr + zero = omega arith in
    ap (addresses addr) none ∙ ap (λ (a : ℕ). addresses a k) same
addresses-append addr (suc n) k =
    let more : suc n + k ≡ suc (n + k) = omega arith in
    let e : addr + 1 + n ≡ addr + suc n = omega arith in
    ap (addresses addr) more
    ∙ ap (λ (places : List Place). At addr ∷ places) (addresses-append (addr + 1) n k ∙ ap (λ (a : ℕ). addresses (addr + 1) n ++ addresses a k) e)

-- the pieces from an index on
pub pieces_from : (pieces : List Piece) (i : ℕ) (d : Piece) → i < length pieces → drop i pieces ≡ get_or pieces i d ∷ drop (i + 1) pieces
pieces_from pieces i d below =
    let next : suc i ≡ i + 1 = omega arith in
    drop-cons pieces i d below ∙ ap (λ (k : ℕ). get_or pieces i d ∷ drop k pieces) next

-- and their bytes
pub total_len-from : (pieces : List Piece) (i : ℕ) (d : Piece) → i < length pieces
    → total_len (drop i pieces) ≡ piece_len (get_or pieces i d) + total_len (drop (i + 1) pieces)
total_len-from pieces i d below =
    ap total_len (pieces_from pieces i d below) ∙ sum_by-cons piece_len (get_or pieces i d) (drop (i + 1) pieces)

-- no pieces are left behind the last
pub pieces_from-past : (pieces : List Piece) (i : ℕ) → length pieces ≤ i → drop i pieces ≡ []
pieces_from-past [] zero past = refl
pieces_from-past [] (suc i) past = refl
pieces_from-past (p ∷ pieces) zero past = absurd (omega arith)
pieces_from-past (p ∷ pieces) (suc i) past = pieces_from-past pieces i (omega arith)
