-- Memory in chunks of one size.
use Rattle.std.specs.Prelude.{◌≡◌, ℕ, ◌+◌, ◌*◌, ◌≤◌, ◌⊎◌, List, [], ◌∷◌, ◌++◌, length, take, drop, replicate}
use Rattle.std.specs.List.{All}

-- the `len` bytes of the memory from `at` on
abbrev pub bytes_at : List ℕ → ℕ → ℕ → List ℕ
bytes_at memory at len = take len (drop at memory)

-- the memory with these bytes from `at` on, and all others as they were
abbrev pub after_store : List ℕ → ℕ → List ℕ → List ℕ
after_store memory at bytes = take at memory ++ bytes ++ drop (at + length bytes) memory

-- what a chunk shows: zeros where it has no bytes yet
unfoldable pub laid : ℕ → List ℕ → List ℕ
laid size [] = replicate size 0
laid size (byte ∷ rest) = byte ∷ rest

-- a chunk has all of its bytes or none, and room for them
pub record IsChunk (size capacity : ℕ) (bytes : List ℕ) : Type 0 where
  pub whole : (bytes ≡ []) ⊎ (length bytes ≡ size)
  pub room : size ≤ capacity

-- the chunks, one after the other
unfoldable pub joined : List (List ℕ) → List ℕ
joined [] = []
joined (chunk ∷ rest) = chunk ++ joined rest

-- the memory: the first bytes of its chunks
unfoldable pub memory_of : ℕ → List (List ℕ) → List ℕ
memory_of len chunks = take len (joined chunks)

-- chunks of one size, which are as many as the memory wants
pub record IsMemory (size len : ℕ) (chunks : List (List ℕ)) : Type 0 where
  pub each : All (λ chunk. length chunk ≡ size) chunks
  pub enough : len ≤ size * length chunks
