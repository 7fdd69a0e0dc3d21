-- What the mediator has its host do in memory, as a list: bytes are stored, or copied, at addresses of the host. NVM Express knows no such list: it is
-- the mediator's own way to say what a controller's stores to memory are (profile).
use Rattle.std.specs.Prelude.{◌≡◌, ℕ, suc, ◌+◌, Bool, true, false, ◌==◌, ◌&&◌, nat_le, nat_lt, List, [], ◌∷◌, ◌++◌, drop, length, take, Option, None, Some}
use Rattle.std.specs.List.{filter_map, range_with_len}
use Rattle.nv_mem.specs.GuestMap.{host_of}
use Rattle.nv_mem.specs.Places.{At, Bucket, Place}
use Rattle.nv_mem.specs.declared.region.Region.{Region}
use Rattle.nv_model.specs.Memory.{stored}

-- these bytes are stored from an address on, in one piece; or the byte of one address is copied to another
pub data Effect : Type 0 where
  Store : (to : ℕ) → (bytes : List ℕ) → Effect
  Copy : (from to : ℕ) → Effect

-- the host's memory after an effect, and after several in order
abbrev pub effect_on : Effect → (host : ℕ → ℕ) → ℕ → ℕ
effect_on (Store to bytes) host = stored host to bytes
effect_on (Copy from to) host = stored host to (host from ∷ [])

unfoldable pub effects_on : List Effect → (host : ℕ → ℕ) → ℕ → ℕ
effects_on [] host = host
effects_on (effect ∷ effects) host = effects_on effects (effect_on effect host)

-- ---- where they write and read

-- whether an effect stores a byte at a host address
abbrev pub writes_to : Effect → (at : ℕ) → Bool
writes_to (Store to bytes) at = nat_le to at && nat_lt at (to + length bytes)
writes_to (Copy from to) at = nat_le to at && nat_lt at (to + 1)

-- whether it reads the byte there
abbrev pub reads_from : Effect → (at : ℕ) → Bool
reads_from (Store to bytes) at = false
reads_from (Copy from to) at = from == at

-- it writes in a part of the host's memory alone, or reads in it alone
abbrev pub WritesIn : (part : ℕ → Type 0) → Effect → Type 0
WritesIn part effect = (at : ℕ) → writes_to effect at ≡ true → part at

abbrev pub ReadsIn : (part : ℕ → Type 0) → Effect → Type 0
ReadsIn part effect = (at : ℕ) → reads_from effect at ≡ true → part at

-- ---- a guest's memory

-- the host addresses of so many bytes of a guest's memory, in order
abbrev pub hosts_from : List Region → (addr len : ℕ) → List ℕ
hosts_from regions addr len = filter_map (host_of regions) (range_with_len addr len)

-- where a place lies in the host; a bucket lies nowhere
abbrev pub host_of_place : List Region → Place → Option ℕ
host_of_place regions (At addr) = host_of regions addr
host_of_place regions Bucket = None

-- bytes that are stored from a host address on, where there is one
abbrev pub store_at : Option ℕ → (bytes : List ℕ) → List Effect
store_at None bytes = []
store_at (Some to) bytes = Store to bytes ∷ []

-- bytes that are stored at places, one after another: a bucket discards its byte
abbrev pub stores : List Region → List Place → (bytes : List ℕ) → List Effect
stores regions [] bytes = []
stores regions (place ∷ places) [] = []
stores regions (place ∷ places) (byte ∷ bytes) = store_at (host_of_place regions place) (byte ∷ []) ++ stores regions places bytes

-- a byte that is copied to a place
abbrev pub copy_to : (from : ℕ) → Option ℕ → List Effect
copy_to from None = []
copy_to from (Some to) = Copy from to ∷ []

-- the bytes from a host address on, copied to places, one after another
abbrev pub copies_to : List Region → (from : ℕ) → List Place → List Effect
copies_to regions from [] = []
copies_to regions from (place ∷ places) = copy_to from (host_of_place regions place) ++ copies_to regions (suc from) places

-- a byte that is copied from a place; a source names no bucket, and mapped addresses alone
abbrev pub copy_from : (to : ℕ) → Option ℕ → Effect
copy_from to None = Store to (0 ∷ [])
copy_from to (Some from) = Copy from to

-- the bytes of places, copied one after another to a host address and those behind it
abbrev pub copies_from : List Region → List Place → (to : ℕ) → List Effect
copies_from regions [] to = []
copies_from regions (place ∷ places) to = copy_from to (host_of_place regions place) ∷ copies_from regions places (suc to)

-- a completion of 16 bytes at a guest address: the dword with the phase tag is stored last (Base Specification 2.0, "Completion Queue Entry")
abbrev pub completion_stores : List Region → (addr : ℕ) → (entry : List ℕ) → List Effect
completion_stores regions addr entry =
    store_at (host_of regions addr) (take 12 entry) ++ store_at (host_of regions (addr + 12)) (drop 12 entry)
