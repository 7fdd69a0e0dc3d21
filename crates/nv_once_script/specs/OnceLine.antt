-- One line of a script, after its set-up
use Rattle.std.specs.Prelude.{ℕ, ◌+◌, ◌==◌, ◌||◌, nat_le, nat_lt, Bool, true, List, [], ◌∷◌, length, Result, Ok, Err, if◌then◌else◌}
use Rattle.nv_once_script.specs.declared.once.fault.FaultKind.{FaultKind}
use Rattle.nv_once_script.specs.declared.once.fault.FaultKind.TheVariants.{OutOfPlace, OutOfRange}
use Rattle.nv_once_script.specs.declared.once.sizes.Sizes.{Sizes}
use Rattle.nv_once_script.specs.declared.once.line.Line.{Line}
use Rattle.nv_once_script.specs.declared.once.line.Line.TheVariants as line
use Rattle.nv_once_script.specs.declared.once.vocabulary.Keyword.{Keyword}
use Rattle.nv_once_script.specs.declared.once.vocabulary.Keyword.TheVariants as keyword
use Rattle.nv_once_script.specs.OnceFault.{◌>>=◌}
use Rattle.nv_once_script.specs.OnceLimits.{longest_fill}
use Rattle.nv_once_script.specs.OnceNumber.{bytes_of, entry_of, number_of, number_up_to}

-- what a line does: bytes are put into the memory, a block is made of equal bytes, a command is done, bytes or a block are shown
pub data LineValue : Type 0 where
  Store : ℕ → List ℕ → LineValue
  Fill : ℕ → ℕ → ℕ → LineValue
  Paint : ℕ → ℕ → LineValue
  Command : List ℕ → LineValue
  Dump : ℕ → ℕ → LineValue
  Block : ℕ → LineValue

-- the value of a line that was read
abbrev pub value_of : Line → LineValue
value_of (line.Store addr bytes) = Store addr bytes.items
value_of (line.Fill addr len byte) = Fill addr len byte
value_of (line.Paint block byte) = Paint block byte
value_of (line.Command entry) = Command entry
value_of (line.Dump addr len) = Dump addr len
value_of (line.Block block) = Block block

-- whether so many bytes from an address on lie in the memory; for no bytes any address will do
abbrev pub lies_in : (memory addr len : ℕ) → Bool
lies_in memory addr len = len == 0 || nat_le (addr + len) memory

-- whether the bytes and the block that a line names are there
abbrev pub is_there : Sizes → LineValue → Bool
is_there sizes (Store addr bytes) = lies_in sizes.memory addr (length bytes)
is_there sizes (Fill addr len byte) = lies_in sizes.memory addr len
is_there sizes (Paint block byte) = nat_lt block sizes.blocks
is_there sizes (Command entry) = true
is_there sizes (Dump addr len) = lies_in sizes.memory addr len
is_there sizes (Block block) = nat_lt block sizes.blocks

-- the line, where what it names is there
abbrev pub if_there : Sizes → LineValue → Result LineValue FaultKind
if_there sizes line = if is_there sizes line then Ok line else Err OutOfRange

-- the line that a keyword and the words after it make
abbrev pub line_of : Sizes → Keyword → List (List ℕ) → Result LineValue FaultKind
line_of sizes keyword.Store (addr ∷ digits ∷ []) = do
  a ← number_of addr
  bytes ← bytes_of digits
  if_there sizes (Store a bytes)
line_of sizes keyword.Fill (addr ∷ len ∷ byte ∷ []) = do
  a ← number_of addr
  n ← number_up_to longest_fill len
  b ← number_up_to 255 byte
  if_there sizes (Fill a n b)
line_of sizes keyword.Paint (block ∷ byte ∷ []) = do
  n ← number_of block
  b ← number_up_to 255 byte
  if_there sizes (Paint n b)
line_of sizes keyword.Cmd (digits ∷ []) = do
  entry ← entry_of digits
  Ok (Command entry)
line_of sizes keyword.Dump (addr ∷ len ∷ []) = do
  a ← number_of addr
  n ← number_of len
  if_there sizes (Dump a n)
line_of sizes keyword.Block (block ∷ []) = do
  n ← number_of block
  if_there sizes (Block n)
line_of sizes keyword words = Err OutOfPlace
