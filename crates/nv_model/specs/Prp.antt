-- Physical region pages: Base Specification 2.0, "Physical Region Page Entry and List". Memory pages are 4 KiB. Each entry is
-- checked for its offset, then for its bytes, in the order in which the transfer meets them (profile: the order, and the status
-- of bytes outside the guest's memory).
use Rattle.std.specs.Prelude.{ℕ, zero, suc, ◌+◌, ◌-◌, ◌*◌, ◌/◌, ◌%◌, min, Bool, not, ◌&&◌, ◌==◌, nat_lt, if◌then◌else◌, List, [], ◌∷◌, ◌++◌, Option}
use Rattle.nv_entry.specs.Layout.{number_at}
use Rattle.nv_entry.specs.declared.status_code.StatusCode.{StatusCode}
use Rattle.nv_entry.specs.declared.status_code.StatusCode.TheVariants.{DataTransferError, PrpOffsetInvalid}
use Rattle.nv_mem.specs.GuestMap.{everywhere}
use Rattle.nv_mem.specs.declared.piece.Piece.{Piece}
use Rattle.nv_model.specs.Dialogue.{Dialogue, End, Ask}
use Rattle.nv_model.specs.Reading.{Reading, Spells, first_failing, unless_faulty, run}
use Rattle.nv_model.specs.Limits.{page}

-- how many pages hold this many bytes from a page's start on
abbrev pub pages_of : ℕ → ℕ
pages_of bytes = (bytes + (page - 1)) / page

-- how many slots of a list lie from a pointer to the end of its page
abbrev pub slots_of : ℕ → ℕ
slots_of pointer = (page - pointer % page) / 8

-- the checks of an entry or pointer whose address must be a multiple of `alignment`, and which needs `len` bytes there
abbrev pub entry_fault : (ℕ → Bool) → ℕ → ℕ → ℕ → Option StatusCode
entry_fault mapped alignment addr len =
    first_failing ((not (addr % alignment == 0), PrpOffsetInvalid) ∷ (not (everywhere mapped addr len), DataTransferError) ∷ [])

-- a page entry for the next bytes of the transfer, and then what follows
abbrev pub read_page : (ℕ → Bool) → (bytes : ℕ) → List Piece → (List Piece → Dialogue Reading) → ℕ → Dialogue Reading
read_page mapped bytes pieces follow addr =
    unless_faulty (entry_fault mapped page addr (min bytes page)) (follow (pieces ++ run addr (min bytes page)))

-- the entries of the last `pages` pages, which hold the last `bytes` bytes; the next slot is at `from`, with `slots` slots to the end of its list
-- page. Where more pages remain than slots, the last slot is a pointer to the next list page, with offset 0.
unfoldable pub read_entries : (ℕ → Bool) → (pages slots from bytes : ℕ) → List Piece → Dialogue Reading
read_entries mapped zero slots from bytes pieces = End (Spells pieces)
read_entries mapped (suc pages) slots from bytes pieces =
    if slots == 1 && nat_lt 0 pages then
    Ask from 8 8 (λ slot.
    let pointer = number_at slot 0 8 in
    let needed = 8 * min (page / 8) (suc pages) in
    unless_faulty (entry_fault mapped page pointer needed) (
    Ask pointer 8 needed (λ entry.
    read_page mapped bytes pieces (λ ps. read_entries mapped pages (page / 8 - 1) (pointer + 8) (bytes - page) ps)
    (number_at entry 0 8))))
    else
    Ask from 8 (8 * min slots (suc pages)) (λ entry.
    read_page mapped bytes pieces (λ ps. read_entries mapped pages (slots - 1) (from + 8) (bytes - page) ps)
    (number_at entry 0 8))

-- what PRP2 is for the bytes after PRP1's page: unused, a page entry, or a pointer to a list, which may start within a page
abbrev pub read_prp2 : (ℕ → Bool) → (pages prp2 bytes : ℕ) → List Piece → Dialogue Reading
read_prp2 mapped zero prp2 bytes pieces = End (Spells pieces)
read_prp2 mapped (suc zero) prp2 bytes pieces = read_page mapped bytes pieces (λ ps. End (Spells ps)) prp2
read_prp2 mapped (suc (suc pages)) prp2 bytes pieces =
    unless_faulty (entry_fault mapped 8 prp2 (8 * min (slots_of prp2) (suc (suc pages))))
    (read_entries mapped (suc (suc pages)) (slots_of prp2) prp2 bytes pieces)

-- the bytes of PRP1's page that a transfer of `len` bytes covers
abbrev pub first_len : ℕ → ℕ → ℕ
first_len prp1 len = min len (page - prp1 % page)

-- a transfer of `len` bytes by PRP1 and PRP2
abbrev pub read_prp : (ℕ → Bool) → (prp1 prp2 len : ℕ) → Dialogue Reading
read_prp mapped prp1 prp2 len =
    unless_faulty (entry_fault mapped 4 prp1 (first_len prp1 len))
    (read_prp2 mapped (pages_of (len - first_len prp1 len)) prp2 (len - first_len prp1 len) (run prp1 (first_len prp1 len)))
