-- What a list of a command says, and the first check that fails
use Rattle.std.specs.Prelude.{ℕ, Bool, ◌==◌, if◌then◌else◌, List, [], ◌∷◌, Option, Some, None}
use Rattle.nv_entry.specs.declared.status_code.StatusCode.{StatusCode}
use Rattle.nv_mem.specs.declared.piece.Piece.{Piece}
use Rattle.nv_mem.specs.declared.piece.Piece.TheVariants.{Run}
use Rattle.nv_model.specs.Dialogue.{Dialogue, End}

-- a list is faulty, has too many descriptors, or spells where the bytes of the transfer lie, in the pieces that it names
pub data Reading : Type 0 where
  Faulty : StatusCode → Reading
  TooLong : Reading
  Spells : List Piece → Reading

-- the code of the first check that fails, of checks in their order
abbrev pub first_failing : List (Bool × StatusCode) → Option StatusCode
first_failing [] = None
first_failing (check ∷ checks) = if check.0 then Some check.1 else first_failing checks

-- a faulty list ends there; any other goes on
abbrev pub unless_faulty : Option StatusCode → Dialogue Reading → Dialogue Reading
unless_faulty (Some code) more = End (Faulty code)
unless_faulty None more = more

-- a run of bytes as a piece, where it has bytes
abbrev pub run : ℕ → ℕ → List Piece
run addr len = if len == 0 then [] else Run addr len ∷ []
