-- What a parse of a list means: the dialogue that it still has to go through. The reading of the list is in nv_model: Base Specification 2.0,
-- "Physical Region Page Entry and List".
use Rattle.std.specs.Prelude.{ℕ, ◌+◌, ◌*◌, ◌==◌, if◌then◌else◌, List, Option, Some, None}
use Rattle.nv_entry.specs.declared.status_code.StatusCode.{StatusCode}
use Rattle.nv_mem.specs.declared.piece.Piece.{Piece}
use Rattle.nv_mem.specs.declared.region.Region.{Region}
use Rattle.nv_mem.specs.GuestMap.{mapped}
use Rattle.nv_model.specs.Dialogue.{Dialogue}
use Rattle.nv_model.specs.Prp.{read_entries}
use Rattle.nv_model.specs.Reading.{Reading, unless_faulty}

-- a parse: the guest's regions, the fault of what was read last if it has one, how many pages are left, how many slots there are to the end of the
-- list page and where the next slot is, the bytes of the pages left, and the runs that were read
pub record Parse : Type 0 where
  pub regions : List Region
  pub fault : Option StatusCode
  pub pages : ℕ
  pub slots : ℕ
  pub from : ℕ
  pub bytes : ℕ
  pub runs : List Piece

-- what is still read, and how it ends
unfoldable pub dialogue_of : Parse → Dialogue Reading
dialogue_of p = unless_faulty p.fault (read_entries (mapped p.regions) p.pages p.slots p.from p.bytes p.runs)

-- no more slots than these are still read: an entry for each page left, and a pointer before it
abbrev pub slots_left : Option StatusCode → (pages slots : ℕ) → ℕ
slots_left (Some code) pages slots = 0
slots_left None pages slots = 2 * pages + (if slots == 1 then 1 else 0)

-- so many are still read by a parse, at most
abbrev pub slots_ahead : Parse → ℕ
slots_ahead p = slots_left p.fault p.pages p.slots
