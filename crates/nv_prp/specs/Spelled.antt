-- What the PRPs that are built spell, once their list is in its page
use Rattle.std.specs.Prelude.{◌≡◌, ℕ, ◌+◌, true, List, [], ◌∷◌, map, take}
use Rattle.std.specs.Bool.{⊤}
use Rattle.nv_entry.specs.Layout.{number_at}
use Rattle.nv_mem.specs.Places.{At, places_of}
use Rattle.nv_model.specs.Dialogue.{in_memory}
use Rattle.nv_model.specs.Memory.{bytes_from}
use Rattle.nv_model.specs.Prp.{read_prp}
use Rattle.nv_model.specs.Reading.{Reading, Faulty, TooLong, Spells}
use Rattle.nv_prp.specs.declared.prps.Prps.{Prps}

-- these numbers are in the memory, one after the other
unfoldable pub HoldsNumbers : (ℕ → ℕ) → ℕ → List ℕ → Type 0
HoldsNumbers memory at [] = ⊤
HoldsNumbers memory at (number ∷ numbers) = (number_at (bytes_from memory at 8) 0 8 ≡ number) × HoldsNumbers memory (at + 8) numbers

-- the list is in its page
abbrev pub HoldsList : (ℕ → ℕ) → ℕ → Prps → Type 0
HoldsList memory list_page p = HoldsNumbers memory list_page (take p.used p.list)

-- a reading spells these addresses, in this order
abbrev pub SpellsAddresses : List ℕ → Reading → Type 0
SpellsAddresses addresses (Spells pieces) = places_of pieces ≡ map At addresses
SpellsAddresses addresses (Faulty code) = ⊥
SpellsAddresses addresses TooLong = ⊥

-- a transfer of `len` bytes by these PRPs, read in a memory all of whose addresses may be named
abbrev pub reading_of : (ℕ → ℕ) → Prps → (len : ℕ) → Reading
reading_of memory p len = in_memory memory (read_prp (λ _. true) p.prp1 p.prp2 len)
