-- The flat controller as it is: the map of its guest, its parts, and its limits
use Rattle.std.specs.Prelude.{◌≡◌, ℕ, ◌%◌, ◌<◌, ◌≤◌, Bool, List, [], ◌∷◌, length}
use Rattle.nv_mem.specs.GuestMap.{Mapping}
use Rattle.nv_model.specs.Limits.{largest_memory, largest_namespace, page}

-- the map of a guest whose addresses are those of a memory of that size
abbrev pub identity_map : (size : ℕ) → Mapping
identity_map size = record { host_len = size; regions = record { guest = 0; host = 0; len = size } ∷ [] }

-- the parts of a flat controller fit: the map is the memory's own, and each block has a mark
pub record IsWhole (memory : List ℕ) (map : Mapping) (disk : List (List ℕ)) (kept : List Bool) : Type 0 where
  pub mapped : map ≡ identity_map (length memory)
  pub marked : length kept ≡ length disk

-- a flat controller may have this much memory and so many blocks (profile)
pub record FitsLimits (memory_len blocks : ℕ) : Type 0 where
  pub pages : memory_len % page ≡ 0
  pub some_memory : 0 < memory_len
  pub most_memory : memory_len ≤ largest_memory
  pub some_blocks : 0 < blocks
  pub most_blocks : blocks ≤ largest_namespace
