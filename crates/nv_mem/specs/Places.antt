-- Where the bytes of a transfer go or come from, byte by byte: a guest address, or nowhere (a Bit Bucket of an SGL; NVM Express Base Specification 2.0, "Scatter Gather List").
use Rattle.std.specs.Prelude.{ℕ, List, map, flat_map, replicate, sum_by}
use Rattle.std.specs.List.{range_with_len}
use Rattle.nv_mem.specs.declared.piece.Piece.{Piece}
use Rattle.nv_mem.specs.declared.piece.Piece.TheVariants as piece

-- the place of one byte
pub data Place : Type 0 where
  At : ℕ → Place
  Bucket : Place

-- the addresses of `len` bytes from `addr` on, in order
unfoldable pub addresses : ℕ → ℕ → List Place
addresses addr len = map At (range_with_len addr len)

-- how many bytes a piece names
abbrev pub piece_len : Piece → ℕ
piece_len (piece.Run addr len) = len
piece_len (piece.Bucket len) = len

-- the places that a piece names: a run its addresses in order, a bucket its length in buckets
abbrev pub places_of_piece : Piece → List Place
places_of_piece (piece.Run addr len) = addresses addr len
places_of_piece (piece.Bucket len) = replicate len Bucket

-- the places that a list of pieces names, in order
abbrev pub places_of : List Piece → List Place
places_of pieces = flat_map places_of_piece pieces

-- how many bytes a list of pieces names
abbrev pub total_len : List Piece → ℕ
total_len pieces = sum_by piece_len pieces
