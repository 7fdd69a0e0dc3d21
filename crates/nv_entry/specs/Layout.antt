-- How a field lies in an entry: an entry is its bytes, a field is a run of them read as a little-endian number, or some
-- bits of such a number. NVM Express Base Specification 2.0, "Byte, Word, and Dword Relationships": numbers are little endian,
-- a dword is four bytes.
use Rattle.std.specs.Prelude.{ℕ, zero, suc, ◌+◌, ◌-◌, ◌*◌, ◌/◌, ◌%◌, ◌^◌, ◌<◌, ◌≡◌, List, [], ◌∷◌, length, slice_index}
use Rattle.std.specs.List.{flat_map}
use Rattle.byteorder.specs.Endian.{little_bytes, little_from}

-- the little-endian number in `count` bytes of an entry from byte `first` on
unfoldable pub number_at : List ℕ → ℕ → ℕ → ℕ
number_at entry first count = little_from first count entry

-- the `count` bytes of a number, the lowest first
abbrev pub number_bytes : (count number : ℕ) → List ℕ
number_bytes count number = little_bytes count number

-- dword i of an entry: bytes 4 i to 4 i + 3
unfoldable pub dword : List ℕ → ℕ → ℕ
dword entry i = number_at entry (4 * i) 4

-- dwords i and i + 1 of an entry as one number: bytes 4 i to 4 i + 7
unfoldable pub qword : List ℕ → ℕ → ℕ
qword entry i = number_at entry (4 * i) 8

-- bits `high` to `low` of a number, as a number
unfoldable pub bits : ℕ → ℕ → ℕ → ℕ
bits number high low = number / 2 ^ low % 2 ^ (high + 1 - low)

-- the bytes of an entry that is kept as dwords
unfoldable pub bytes_of_dwords : List ℕ → List ℕ
bytes_of_dwords dwords = flat_map (little_bytes 4) dwords

-- n dwords of an entry from dword i on
unfoldable pub dwords_from : ℕ → ℕ → List ℕ → List ℕ
dwords_from i zero entry = []
dwords_from i (suc n) entry = dword entry i ∷ dwords_from (suc i) n entry

-- each number fits 32 bits
pub record FitDwords (numbers : List ℕ) : Type 0 where
  pub each : (i : ℕ) → slice_index numbers i < 2 ^ 32

-- there are n dwords
pub record AreDwords (n : ℕ) (dwords : List ℕ) : Type 0 where
  pub count : length dwords ≡ n
  pub fit : FitDwords dwords
