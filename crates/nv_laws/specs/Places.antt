-- Bytes at places: where a guest's places lie in the host, which bytes a memory has at places, and places that name
-- no byte twice (profile).
use Rattle.std.specs.Prelude.{◌≡◌, ℕ, List, [], ◌∷◌, Some}
use Rattle.std.specs.Bool.{⊤}
use Rattle.std.specs.List.{AllPairs}
use Rattle.nv_mem.specs.GuestMap.{host_of}
use Rattle.nv_mem.specs.Places.{At, Bucket, Place}
use Rattle.nv_mem.specs.declared.region.Region.{Region}

-- the places of a guest's memory lie at these host addresses, one for each, in their order
abbrev pub LieAt : List Region → List Place → List ℕ → Type 0
LieAt regions [] [] = ⊤
LieAt regions [] (host ∷ hosts) = ⊥
LieAt regions (place ∷ places) [] = ⊥
LieAt regions (At addr ∷ places) (host ∷ hosts) = (host_of regions addr ≡ Some host) × LieAt regions places hosts
LieAt regions (Bucket ∷ places) (host ∷ hosts) = ⊥

-- a memory has these bytes at these places, one for each, in their order; at a bucket there is none
abbrev pub HasAt : (memory : ℕ → ℕ) → List Place → List ℕ → Type 0
HasAt memory [] [] = ⊤
HasAt memory [] (byte ∷ bytes) = ⊥
HasAt memory (place ∷ places) [] = ⊥
HasAt memory (At addr ∷ places) (byte ∷ bytes) = (memory addr ≡ byte) × HasAt memory places bytes
HasAt memory (Bucket ∷ places) (byte ∷ bytes) = HasAt memory places bytes

-- two places name no address in common
abbrev pub IsElse : Place → Place → Type 0
IsElse place other = (addr : ℕ) → place ≡ At addr → other ≡ At addr → ⊥

-- no two of these places name the same address
abbrev pub NameNoneTwice : List Place → Type 0
NameNoneTwice places = AllPairs IsElse places
