-- A buffer in memory
use Rattle.std.specs.Prelude.{◌≡◌, ℕ, ◌<◌, ◌≤◌, List, ◌++◌, All}
use Rattle.nv_mem.specs.Places.{Place, At, Bucket, piece_len, places_of_piece}
use Rattle.nv_mem.specs.declared.piece.Piece.{Piece}

-- a place is an address below this, or a bucket
abbrev pub IsBelow : (size : ℕ) → Place → Type 0
IsBelow size (At addr) = addr < size
IsBelow size Bucket = Unit {0}

-- each place of a buffer is an address below this, or a bucket
abbrev pub AreBelow : (size : ℕ) → List Place → Type 0
AreBelow size places = All (IsBelow size) places

-- a piece is the front of these places, at least one of them and `most` at most, and the others are left
pub record IsFront (places : List Place) (most : ℕ) (piece : Piece) (left : List Place) : Type 0 where
  pub whole : places ≡ places_of_piece piece ++ left
  pub some : 0 < piece_len piece
  pub at_most : piece_len piece ≤ most
