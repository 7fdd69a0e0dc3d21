-- What was met of a transfer, address by address, while it is built: Base Specification 2.0, "Physical Region Page Entry and List"
-- (only the first entry may have an offset, so each later one is a page's start).
use Rattle.std.specs.Prelude.{◌≡◌, ℕ, ◌-◌, ◌≤◌, List, [], ◌∷◌, ◌++◌, drop, replicate, Option, Some, None, unwrap_or}
use Rattle.std.specs.List.{filter}
use Rattle.nv_model.specs.Limits.{most_entries}
use Rattle.nv_prp.specs.Built.{prps_of, starts_page}
use Rattle.nv_prp.specs.declared.prps.Prps.{Prps}

-- the first address, and the page starts after it
pub record Met : Type 0 where
  pub first : Option ℕ
  pub entries : List ℕ

-- before the first
abbrev pub nothing_met : Met
nothing_met = record { first = None; entries = [] }

-- after these addresses, the first of which is not the transfer's first
abbrev pub met_later : Met → List ℕ → Met
met_later m addresses = record { first = m.first; entries = m.entries ++ filter starts_page addresses }

-- after these addresses, where this is the first
abbrev pub met_by : Option ℕ → List ℕ → List ℕ → Met
met_by (Some first) entries addresses = record { first = Some first; entries = entries ++ filter starts_page addresses }
met_by None entries [] = record { first = None; entries = entries }
met_by None entries (addr ∷ addresses) = record { first = Some addr; entries = entries ++ filter starts_page addresses }

-- after these addresses
unfoldable pub met_more : Met → List ℕ → Met
met_more m addresses = met_by m.first m.entries addresses

-- what names the transfer that was met
abbrev pub prps_met : (list_page : ℕ) → Met → Prps
prps_met list_page m = prps_of list_page (unwrap_or m.first 0) m.entries

-- entries are at the front of an array for the longest list, followed by zeros
pub record IsFilled (used : ℕ) (list : List ℕ) : Type 0 where
  pub count : used ≤ most_entries
  pub zeros : drop used list ≡ replicate (most_entries - used) 0
