-- What is built: PRP1, PRP2 and a list that name host addresses: Base Specification 2.0, "Physical Region Page Entry and List". The list is in a
-- page of its own, from the first slot on (profile: PRP lets it begin at other slots, too).
use Rattle.std.specs.Prelude.{ℕ, ◌+◌, ◌-◌, ◌%◌, Bool, ◌==◌, List, [], ◌∷◌, ◌++◌, length, drop, replicate, slice_index}
use Rattle.std.specs.List.{filter}
use Rattle.nv_model.specs.Limits.{most_entries, page}
use Rattle.nv_prp.specs.declared.prps.Prps.{Prps}

-- ---- what names a transfer

-- whether a page starts at an address
abbrev pub starts_page : ℕ → Bool
starts_page addr = addr % page == 0

-- the page entries of a transfer: the page starts after its first address
abbrev pub entries_of : List ℕ → List ℕ
entries_of addresses = filter starts_page (drop 1 addresses)

-- PRP2: unused, the second page, or the list
abbrev pub prp2_by : (list_page : ℕ) → List ℕ → ℕ
prp2_by list_page [] = 0
prp2_by list_page (entry ∷ []) = entry
prp2_by list_page (entry ∷ next ∷ entries) = list_page

-- the entries that are in the list
abbrev pub listed : List ℕ → List ℕ
listed (entry ∷ next ∷ entries) = entry ∷ next ∷ entries
listed _ = []

-- the entries of the longest list: these numbers, and then zeros
abbrev pub padded : List ℕ → List ℕ
padded numbers = numbers ++ replicate (most_entries - length numbers) 0

-- what names a transfer that begins at `first` and has these page entries
abbrev pub prps_of : (list_page first : ℕ) → List ℕ → Prps
prps_of list_page first entries =
    record { prp1 = first; prp2 = prp2_by list_page entries; list = padded (listed entries); used = length (listed entries) }

-- what names these addresses
unfoldable pub built : (list_page : ℕ) → List ℕ → Prps
built list_page addresses = prps_of list_page (slice_index addresses 0) (entries_of addresses)
