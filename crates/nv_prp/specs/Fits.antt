-- Which host addresses a PRP transfer can name: Base Specification 2.0, "Physical Region Page Entry and List". PRP1 is a multiple of 4. After it
-- the bytes are contiguous, except that each page end may be followed by any page start. There is at least one byte.
use Rattle.std.specs.Prelude.{ℕ, ◌+◌, ◌%◌, Bool, true, false, ◌&&◌, ◌||◌, ◌==◌, List, [], ◌∷◌, Option, Some, None, is_some, option_to_list}
use Rattle.std.specs.List.{flat_map, list_all}
use Rattle.nv_mem.specs.GuestMap.{host_of}
use Rattle.nv_mem.specs.Places.{Place, At, Bucket, places_of}
use Rattle.nv_mem.specs.declared.piece.Piece.{Piece}
use Rattle.nv_mem.specs.declared.piece.Piece.TheVariants as piece
use Rattle.nv_mem.specs.declared.region.Region.{Region}
use Rattle.nv_model.specs.Limits.{page}

-- ---- the host addresses of places

-- the host address of a place, where it has one
abbrev pub host_address : List Region → Place → List ℕ
host_address regions (At addr) = option_to_list (host_of regions addr)
host_address regions Bucket = []

-- the host addresses of these places, in order
unfoldable pub hosts_of : List Region → List Place → List ℕ
hosts_of regions places = flat_map (host_address regions) places

-- the host addresses of the bytes that these pieces name, in order
abbrev pub host_addresses : List Region → List Piece → List ℕ
host_addresses regions pieces = hosts_of regions (places_of pieces)

-- ---- which of them fit

-- whether a byte at `addr` may be the first, or follow bytes that end before `end`
abbrev pub may_follow : (end : Option ℕ) → (addr : ℕ) → Bool
may_follow None addr = addr % 4 == 0
may_follow (Some end) addr = addr == end || end % page == 0 && addr % page == 0

-- whether these fit after bytes that end before `end`, or are the first, of which there is at least one
unfoldable pub fit_behind : (end : Option ℕ) → List ℕ → Bool
fit_behind end [] = is_some end
fit_behind end (addr ∷ addresses) = may_follow end addr && fit_behind (Some (addr + 1)) addresses

-- whether they fit PRP
abbrev pub fit_prp : List ℕ → Bool
fit_prp addresses = fit_behind None addresses

-- whether a piece is a run
abbrev pub is_run : Piece → Bool
is_run (piece.Run addr len) = true
is_run (piece.Bucket len) = false

-- whether these pieces name no bucket and the host addresses of their bytes fit after bytes that end before `end`
abbrev pub places_fit_behind : List Region → (end : Option ℕ) → List Piece → Bool
places_fit_behind regions end pieces = list_all is_run pieces && fit_behind end (host_addresses regions pieces)

-- whether a transfer can name these places by PRP
abbrev pub places_fit : List Region → List Piece → Bool
places_fit regions pieces = places_fit_behind regions None pieces
