-- The sizes that a script's set-up names
use Rattle.std.specs.Prelude.{ℕ, ◌%◌, ◌==◌, ◌&&◌, nat_le, Bool, List, Result, Ok, Err, if◌then◌else◌}
use Rattle.nv_model.specs.Limits.{largest_memory, largest_namespace, page}
use Rattle.nv_once_script.specs.declared.once.fault.FaultKind.{FaultKind}
use Rattle.nv_once_script.specs.declared.once.fault.FaultKind.TheVariants.{BadNumber}
use Rattle.nv_once_script.specs.OnceFault.{◌>>=◌}
use Rattle.nv_once_script.specs.OnceNumber.{number_of}

-- whether a memory may have this size: whole pages, at least one
abbrev pub is_memory_size : ℕ → Bool
is_memory_size size = nat_le page size && nat_le size largest_memory && size % page == 0

-- whether there may be so many blocks: at least one
abbrev pub is_block_count : ℕ → Bool
is_block_count count = nat_le 1 count && nat_le count largest_namespace

-- the size of the memory that a word writes
abbrev pub memory_size : List ℕ → Result ℕ FaultKind
memory_size word = do
  size ← number_of word
  if is_memory_size size then Ok size else Err BadNumber

-- the number of blocks that a word writes
abbrev pub block_count : List ℕ → Result ℕ FaultKind
block_count word = do
  count ← number_of word
  if is_block_count count then Ok count else Err BadNumber
