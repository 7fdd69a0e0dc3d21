-- A guest's memory: the byte at each of its addresses that are there. What lies at the others has no meaning.
use Rattle.std.specs.Prelude.{ℕ, zero, suc, ◌+◌, ◌-◌, ◌&&◌, nat_le, nat_lt, if◌then◌else◌, List, [], ◌∷◌, length, map, slice_index, Option, Some, None}
use Rattle.nv_mem.specs.GuestMap.{guest_of, host_of}
use Rattle.nv_mem.specs.declared.region.Region.{Region}
use Rattle.nv_mem.specs.Places.{Place, At, Bucket}

-- the `len` bytes from an address on
unfoldable pub bytes_from : (ℕ → ℕ) → ℕ → ℕ → List ℕ
bytes_from memory addr zero = []
bytes_from memory addr (suc len) = memory addr ∷ bytes_from memory (suc addr) len

-- the memory with these bytes from an address on, and all others as they were
unfoldable pub stored : (ℕ → ℕ) → ℕ → List ℕ → ℕ → ℕ
stored memory addr bytes at =
    if nat_le addr at && nat_lt at (addr + length bytes) then slice_index bytes (at - addr) else memory at

-- the byte at a place; a source names no bucket
abbrev pub byte_at_place : (ℕ → ℕ) → Place → ℕ
byte_at_place memory (At addr) = memory addr
byte_at_place memory Bucket = 0

-- the bytes at the places, in order
unfoldable pub gathered : (ℕ → ℕ) → List Place → List ℕ
gathered memory places = map (byte_at_place memory) places

-- the memory with the bytes given to the places in order: a bucket discards its byte, and an address named twice keeps the last
unfoldable pub scattered : (ℕ → ℕ) → List Place → List ℕ → ℕ → ℕ
scattered memory [] bytes = memory
scattered memory (place ∷ places) [] = memory
scattered memory (At addr ∷ places) (byte ∷ bytes) = scattered (stored memory addr (byte ∷ [])) places bytes
scattered memory (Bucket ∷ places) (byte ∷ bytes) = scattered memory places bytes

-- ---- a memory that is a list of bytes

-- the byte at an address
unfoldable pub byte_in : List ℕ → ℕ → ℕ
byte_in memory addr = slice_index memory addr

-- ---- a part of the host's memory

-- the byte at a host address, where there is one
abbrev pub byte_at_host : (ℕ → ℕ) → Option ℕ → ℕ
byte_at_host host None = 0
byte_at_host host (Some addr) = host addr

-- the image of a map's regions: the host's bytes as the guest's memory
unfoldable pub image : List Region → (host : ℕ → ℕ) → ℕ → ℕ
image regions host addr = byte_at_host host (host_of regions addr)

-- the byte of a guest's memory, or this one where no guest address is named
abbrev pub byte_or : (otherwise : ℕ) → (memory : ℕ → ℕ) → Option ℕ → ℕ
byte_or otherwise memory None = otherwise
byte_or otherwise memory (Some addr) = memory addr

-- the host's bytes with a guest's memory written back to the map's regions
unfoldable pub put_image : List Region → (memory host : ℕ → ℕ) → ℕ → ℕ
put_image regions memory host at = byte_or (host at) memory (guest_of regions at)
