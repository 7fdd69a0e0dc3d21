-- The entries that a transfer by physical region pages meets, in order. Base Specification 2.0, "Physical Region Page Entry and List": PRP1; then
-- PRP2, as the entry of the second page, or as the pointer to a list; then the entries of the list, page by page, and after those of a list page
-- that can't hold all, the pointer to the next.
use Rattle.std.specs.Prelude.{◌≡◌, ℕ, zero, suc, ◌+◌, ◌-◌, ◌*◌, ◌%◌, ◌==◌, nat_le, min, Bool, if◌then◌else◌, List, [], ◌∷◌, ◌++◌, Option, None}
use Rattle.nv_entry.specs.declared.status_code.StatusCode.{StatusCode}
use Rattle.nv_model.specs.Prp.{entry_fault, slots_of}
use Rattle.nv_model.specs.Limits.{page}
use Rattle.nv_model.specs.PrpAddresses.{last_page, slot_at}

-- an entry or a list pointer: what it must be a multiple of, the address in it, and how many bytes are needed there
pub record PrpEntry : Type 0 where
  pub alignment : ℕ
  pub addr : ℕ
  pub needed : ℕ

-- the first check that it fails
abbrev pub entry_fault_of : (ℕ → Bool) → PrpEntry → Option StatusCode
entry_fault_of mapped e = entry_fault mapped e.alignment e.addr e.needed

-- it fails none
abbrev pub IsFaultlessEntry : (ℕ → Bool) → PrpEntry → Type 0
IsFaultlessEntry mapped e = entry_fault_of mapped e ≡ None

-- the entry of a memory page in which the next of `bytes` bytes lie
abbrev pub page_entry : (addr bytes : ℕ) → PrpEntry
page_entry addr bytes = record { alignment = page; addr = addr; needed = min bytes page }

-- the pointer to a list of so many entries, of which it needs those on its page
abbrev pub list_pointer : (alignment addr entries : ℕ) → PrpEntry
list_pointer alignment addr entries = record { alignment = alignment; addr = addr; needed = 8 * min (slots_of addr) entries }

-- the n entries from a slot on, for `bytes` bytes
unfoldable pub entries_at : (ℕ → ℕ) → (slot n bytes : ℕ) → List PrpEntry
entries_at memory slot zero bytes = []
entries_at memory slot (suc n) bytes = page_entry (slot_at memory slot) bytes ∷ entries_at memory (slot + 8) n (bytes - page)

-- those of a list of so many that begins at a pointer, and goes on at most `times` times
unfoldable pub list_entries : (ℕ → ℕ) → (times pointer entries bytes : ℕ) → List PrpEntry
list_entries memory zero pointer entries bytes = entries_at memory pointer entries bytes
list_entries memory (suc times) pointer entries bytes =
    if nat_le entries (slots_of pointer) then entries_at memory pointer entries bytes else
    let here = slots_of pointer - 1 in
    let next = slot_at memory (pointer + 8 * here) in
    entries_at memory pointer here bytes
    ++ list_pointer page next (entries - here)
    ∷ list_entries memory times next (entries - here) (bytes - page * here)

-- those after PRP1, for so many pages after its page and `bytes` bytes in them
abbrev pub entries_behind : (ℕ → ℕ) → (prp2 pages bytes : ℕ) → List PrpEntry
entries_behind memory prp2 pages bytes =
    if pages == 0 then [] else
    if pages == 1 then page_entry prp2 bytes ∷ [] else
    list_pointer 8 prp2 pages ∷ list_entries memory pages prp2 pages bytes

-- all those of a transfer of `len` bytes, at least one
abbrev pub transfer_entries : (ℕ → ℕ) → (prp1 prp2 len : ℕ) → List PrpEntry
transfer_entries memory prp1 prp2 len =
    let first = min len (page - prp1 % page) in
    record { alignment = 4; addr = prp1; needed = first } ∷ entries_behind memory prp2 (last_page prp1 len) (len - first)
