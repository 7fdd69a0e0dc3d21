-- A memory is the list of its bytes, from address 0 on.
use Rattle.std.specs.Prelude.{ℕ, ◌+◌, ◌<◌, ◌≤◌}
-- the bytes of a memory from an address on, and the memory with bytes stored there
pub use Rattle.nv_zeroed.specs.Chunks.{after_store, bytes_at}

-- `len` bytes from `addr` on lie in a memory of `size` bytes; no bytes always do
abbrev pub InMemory : ℕ → ℕ → ℕ → Type 0
InMemory size addr len = 0 < len → addr + len ≤ size
