-- A buffer of one page that PRP1 and PRP2 name: Base Specification 2.0, "Physical Region Page Entry and List".
use Rattle.std.specs.Prelude.{◌≡◌, ℕ, ◌-◌, ◌≤◌, Bool, true, List, ◌++◌, Result, Ok, Err}
use Rattle.nv_entry.specs.declared.status_code.StatusCode.{StatusCode}
use Rattle.nv_mem.specs.GuestMap.{everywhere}
use Rattle.nv_mem.specs.declared.piece.Piece.{Piece}
use Rattle.nv_model.specs.Limits.{page}
use Rattle.nv_model.specs.Reading.{Reading, Faulty, Spells, run}
use Rattle.nv_admin.specs.declared.page_buffer.PageBuffer.{PageBuffer}

-- the pieces of a buffer
abbrev pub pieces : PageBuffer → List Piece
pieces b = run b.prp1 b.first ++ run b.prp2 (page - b.first)

-- what PRP1 and PRP2 say: where the buffer lies, or which check fails first
abbrev pub reading_of : Result PageBuffer StatusCode → Reading
reading_of (Ok b) = Spells (pieces b)
reading_of (Err why) = Faulty why

-- the bytes of a buffer are mapped
pub record IsInMap (mapped : ℕ → Bool) (b : PageBuffer) : Type 0 where
  pub within : b.first ≤ page
  pub first : everywhere mapped b.prp1 b.first ≡ true
  pub second : everywhere mapped b.prp2 (page - b.first) ≡ true
