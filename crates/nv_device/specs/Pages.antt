-- Reading PRPs in a host: Base Specification 2.0, "Physical Region Page Entry and List"
use Rattle.std.specs.Prelude.{◌≡◌, ℕ, ◌+◌, ◌*◌, ◌<◌, ◌≤◌, min, Bool, true, false, nat_lt, All, List, drop, length, take}
use Rattle.nv_mem.specs.GuestMap.{everywhere}
use Rattle.nv_mem.specs.Places.{piece_len}
use Rattle.nv_mem.specs.declared.piece.Piece.{Piece}
use Rattle.nv_mem.specs.declared.piece.Piece.TheVariants.{Bucket, Run}
use Rattle.nv_model.specs.Dialogue.{in_memory}
use Rattle.nv_model.specs.Prp.{read_entries, read_prp, read_prp2}
use Rattle.nv_model.specs.Reading.{Reading, Faulty, Spells, TooLong}
use Rattle.nv_model.specs.Memory.{byte_in}

-- the addresses of a host of that length
abbrev pub in_host : (host_len : ℕ) → ℕ → Bool
in_host host_len addr = nat_lt addr host_len

-- whether the bytes of a piece lie in a host of that length; those of a bucket lie nowhere
abbrev pub piece_in : (host_len : ℕ) → Piece → Bool
piece_in host_len (Run addr len) = everywhere (in_host host_len) addr len
piece_in host_len (Bucket len) = true

-- what PRP1, PRP2 and a list say where the host's addresses are those that are there
unfoldable pub host_reading : (host : List ℕ) → (prp1 prp2 len : ℕ) → Reading
host_reading host prp1 prp2 len = in_memory (byte_in host) (read_prp (in_host (length host)) prp1 prp2 len)

-- what is read after PRP1's page, where so many pages are left, after these pieces
unfoldable pub behind_reading : (host : List ℕ) → (pages prp2 bytes : ℕ) → List Piece → Reading
behind_reading host pages prp2 bytes pieces = in_memory (byte_in host) (read_prp2 (in_host (length host)) pages prp2 bytes pieces)

-- what is read of a list's entries for the last pages, after these pieces
unfoldable pub entries_reading : (host : List ℕ) → (pages slots from bytes : ℕ) → List Piece → Reading
entries_reading host pages slots from bytes pieces =
    in_memory (byte_in host) (read_entries (in_host (length host)) pages slots from bytes pieces)

-- whether a reading spells places
abbrev pub spells : Reading → Bool
spells (Faulty code) = false
spells TooLong = false
spells (Spells pieces) = true

-- where the entry of the next page is, with so many slots to the end of its list page: reading goes on from there, and the slots that are needed
-- are in the host
pub record IsEntryAt (host : List ℕ) (pages slots from entry_slots entry : ℕ) : Type 0 where
  pub same : (bytes : ℕ) (pieces r : List Piece) → entries_reading host pages slots from bytes pieces ≡ Spells r
      → entries_reading host pages entry_slots entry bytes pieces ≡ Spells r
  pub there : (bytes : ℕ) (pieces r : List Piece) → entries_reading host pages slots from bytes pieces ≡ Spells r
      → entry + 8 * min entry_slots pages ≤ length host
  pub some : 0 < entry_slots
  pub no_pointer : 1 < pages → 1 < entry_slots

-- the same where it need not spell anything: it spells places where reading on from there does
pub record IsNextEntry (host : List ℕ) (pages slots from entry_slots entry : ℕ) : Type 0 where
  pub same : (bytes : ℕ) (pieces : List Piece) → spells (entries_reading host pages slots from bytes pieces)
      ≡ spells (entries_reading host pages entry_slots entry bytes pieces)
  pub there : entry + 8 * min entry_slots pages ≤ length host
  pub some : 0 < entry_slots
  pub no_pointer : 1 < pages → 1 < entry_slots

-- a piece is a page long
abbrev pub IsPage : Piece → Type 0
IsPage piece = piece_len piece ≡ 4096

-- all pieces between the first and the last are a page long, as PRP has them
abbrev pub ArePaged : List Piece → Type 0
ArePaged pieces = (k : ℕ) → 1 + k < length pieces → All IsPage (take k (drop 1 pieces))
