-- The position of a parse between two slots of a list: Base Specification 2.0, "Physical Region Page Entry and List" (PRP list: the last slot of a
-- list page points to the next list page where more than one page is left)
use Rattle.std.specs.Prelude.{ℕ, ◌+◌, ◌-◌, ◌*◌, ◌/◌, ◌^◌, ◌<◌, ◌≤◌, min, Bool, ◌&&◌, ◌==◌, nat_lt, if◌then◌else◌, is_none, List, length}
use Rattle.nv_mem.specs.declared.piece.Piece.{Piece}
use Rattle.nv_mem.specs.declared.region.Region.{Region}
use Rattle.nv_model.specs.Dialogue.{Dialogue}
use Rattle.nv_model.specs.Prp.{entry_fault, read_entries, read_page}
use Rattle.nv_model.specs.Limits.{most_pages, page}
use Rattle.nv_model.specs.Reading.{Reading, unless_faulty}
use Rattle.nv_prp.specs.Parse.{Parse, slots_left}
use Rattle.nv_prp.specs.declared.cursor.Cursor.{Cursor}

-- whether the next slot is asked for
abbrev pub is_asking : Cursor → Bool
is_asking c = is_none c.fault && nat_lt 0 c.pages

-- how many slots are still read, at most
abbrev pub ahead : Cursor → ℕ
ahead c = slots_left c.fault c.pages c.slots

-- what is read from there on, after these runs
unfoldable pub reading_from : (ℕ → Bool) → Cursor → List Piece → Dialogue Reading
reading_from mapped c runs = unless_faulty c.fault (read_entries mapped c.pages c.slots c.from c.bytes runs)

-- whether the next slot is a pointer to the next list page
abbrev pub is_at_pointer : Cursor → Bool
is_at_pointer c = c.slots == 1 && nat_lt 0 (c.pages - 1)

-- what is read where the next slot is a pointer
abbrev pub read_pointer : (ℕ → Bool) → Cursor → List Piece → ℕ → Dialogue Reading
read_pointer mapped c runs pointer =
    unless_faulty (entry_fault mapped page pointer (8 * min (page / 8) c.pages)) (read_entries mapped c.pages (page / 8) pointer c.bytes runs)

-- what is read where it is the entry of the next page
abbrev pub read_entry : (ℕ → Bool) → Cursor → List Piece → ℕ → Dialogue Reading
read_entry mapped c runs entry =
    read_page mapped c.bytes runs (λ rs. read_entries mapped (c.pages - 1) (c.slots - 1) (c.from + 8) (c.bytes - page) rs) entry

-- what is read where the next slot holds this number
unfoldable pub read_slot : (ℕ → Bool) → Cursor → List Piece → ℕ → Dialogue Reading
read_slot mapped c runs value = if is_at_pointer c then read_pointer mapped c runs value else read_entry mapped c runs value

-- the list page ends at 2 to the 64 at the latest, the pages left hold the bytes left, and there is room for their runs
pub record IsInRange (c : Cursor) (runs : List Piece) : Type 0 where
  pub list : c.from + 8 * c.slots ≤ 2 ^ 64
  pub slots : c.slots ≤ page / 8
  pub slot : 0 < c.pages → 0 < c.slots
  pub bytes : c.bytes ≤ page * c.pages
  pub pages : page * c.pages < c.bytes + page
  pub room : length runs + c.pages ≤ most_pages

-- the parse at that position
abbrev pub parse_at : List Region → Cursor → List Piece → Parse
parse_at regions c runs =
    record { regions = regions; fault = c.fault; pages = c.pages; slots = c.slots; from = c.from; bytes = c.bytes; runs = runs }
