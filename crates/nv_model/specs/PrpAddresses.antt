-- Where each byte of a transfer by physical region pages is. Base Specification 2.0, "Physical Region Page Entry and List": PRP1 names the first
-- byte; each memory page after it has an entry. Where one page is after it, PRP2 is its entry. Where there are more, PRP2 points to a list of them,
-- in which the last slot of a memory page points to the next list page, if entries are left that it can't hold.
use Rattle.std.specs.Prelude.{ℕ, zero, suc, ◌+◌, ◌-◌, ◌*◌, ◌/◌, ◌%◌, ◌||◌, ◌==◌, nat_le, nat_lt, if◌then◌else◌}
use Rattle.nv_entry.specs.Layout.{number_at}
use Rattle.nv_model.specs.Memory.{bytes_from}
use Rattle.nv_model.specs.Prp.{slots_of}
use Rattle.nv_model.specs.Limits.{page}

-- what is in the slot at an address
abbrev pub slot_at : (ℕ → ℕ) → ℕ → ℕ
slot_at memory addr = number_at (bytes_from memory addr 8) 0 8

-- where the slot of entry i is, counted from 0, in a list of `entries` entries that begins at `pointer`. As many entries as there are slots to the
-- end of the pointer's page are there; of more, the last slot is the pointer to the others. (A list of n entries goes on at most n times, which
-- `times` counts.)
unfoldable pub slot_of : (ℕ → ℕ) → (times pointer entries i : ℕ) → ℕ
slot_of memory zero pointer entries i = pointer + 8 * i
slot_of memory (suc times) pointer entries i =
    let here = slots_of pointer - 1 in
    if nat_le entries (slots_of pointer) || nat_lt i here then pointer + 8 * i
    else slot_of memory times (slot_at memory (pointer + 8 * here)) (entries - here) (i - here)

-- the entry of page k, counted from PRP1's page as 0, of a transfer whose last page is page `last`
abbrev pub entry_of : (ℕ → ℕ) → (prp2 last k : ℕ) → ℕ
entry_of memory prp2 last k = if last == 1 then prp2 else slot_at memory (slot_of memory last prp2 last (k - 1))

-- the last page of a transfer of `len` bytes, at least one
abbrev pub last_page : (prp1 len : ℕ) → ℕ
last_page prp1 len = (prp1 % page + len - 1) / page

-- the address of byte i of a transfer of `len` bytes
unfoldable pub byte_address : (ℕ → ℕ) → (prp1 prp2 len i : ℕ) → ℕ
byte_address memory prp1 prp2 len i =
    if nat_lt (prp1 % page + i) page then prp1 + i
    else entry_of memory prp2 (last_page prp1 len) ((prp1 % page + i) / page) + (prp1 % page + i) % page
