-- Which host addresses a share names: those of its guest's memory, or its tag's bounce pages.
use Rattle.std.proofs.Common.{◌≡◌, ℕ, zero, suc, ◌+◌, ◌<◌, ◌≤◌, ◌⊎◌, inl, inr, List, []}
use Rattle.std.proofs.Common.{◌∷◌, All, flat_map, map, Option, Some, None, option_to_list, arith, refl, sym, ◌∙◌, subst}
use Rattle.std.specs.Prelude.{◌≢◌}
use Rattle.std.specs.List.{AllPairs, range_with_len}
use Rattle.std.proofs.lemmas.List.Elements.{All-append, All-cons, All-map, All-nil, All-weaker}
use Rattle.nv_mem.specs.GuestMap.{IsApart, guest_of, host_of}
use Rattle.nv_mem.specs.Places.{At, Bucket, Place, places_of, total_len}
use Rattle.nv_mem.specs.declared.region.Region.{Region}
use Rattle.nv_mem.proofs.Images.{guest_of-host}
use Rattle.nv_model.specs.Judge.{Work}
use Rattle.nv_model.specs.Laws.{IsAnother}
use Rattle.nv_model.specs.Limits.{most_bytes}
use Rattle.nv_prp.specs.Fits.{host_address, hosts_of}
use Rattle.nv_world_model.specs.Area.{addresses_of}
use Rattle.nv_world_model.specs.Geometry.{Guest, regions_of}
use Rattle.nv_world_model.specs.Share.{Share}
use Rattle.nv_laws_sound.specs.Consistent.{IsPlanned}
use Rattle.nv_laws_sound.proofs.PlanSizes.{own-few, own_work, planned-kinds}

-- another host address
abbrev IsNot : (at : ℕ) → ℕ → Type 0
IsNot at addr = addr ≢ at

-- what holds of each host address holds of those of these places
option-all : (P : ℕ → Type 0) (regions : List Region) (addr : ℕ) (found : Option ℕ) → host_of regions addr ≡ found
    → ((guest host : ℕ) → host_of regions guest ≡ Some host → P host) → All P (option_to_list found)
option-all P regions addr None is each = All-nil P
option-all P regions addr (Some host) is each = All-cons P host [] (each addr host is) (All-nil P)

pub hosts-all : (P : ℕ → Type 0) (regions : List Region) (places : List Place) → ((guest host : ℕ) → host_of regions guest ≡ Some host → P host)
    → All P (hosts_of regions places)
unfolding hosts_of
hosts-all P regions [] each = All-nil P
hosts-all P regions (At addr ∷ places) each =
    All-append P (option_to_list (host_of regions addr)) (flat_map (host_address regions) places)
    (option-all P regions addr (host_of regions addr) refl each) (hosts-all P regions places each)
hosts-all P regions (Bucket ∷ places) each = hosts-all P regions places each

-- and what holds of each number of a row, of the row
pub row-all : (P : ℕ → Type 0) (from len : ℕ) → ((at : ℕ) → from ≤ at → at < from + len → P at) → All P (range_with_len from len)
row-all P from zero each = All-nil P
row-all P from (suc len) each =
    All-cons P from (range_with_len (from + 1) len) (each from (omega arith) (omega arith))
    (row-all P (from + 1) len (λ at low high. each at (omega (arith, low)) (omega (arith, high))))

-- no address of a guest's places is one that no guest address has
hosts-apart : (regions : List Region) (at : ℕ) (places : List Place) → AllPairs IsApart regions → guest_of regions at ≡ None
    → All (IsNot at) (hosts_of regions places)
hosts-apart regions at places apart outside = hosts-all (IsNot at) regions places (λ guest host is same. bad guest host is same)
  where
    bad : (guest host : ℕ) → host_of regions guest ≡ Some host → host ≡ at → ⊥
    bad guest host is same =
        let there = guest_of-host regions guest host apart is in
        let none : guest_of regions host ≡ None = subst (λ n. guest_of regions n ≡ None) (sym same) outside in
        let both : Some guest ≡ None = sym there ∙ none in
        cc

-- nor is a number of a row one outside of the row
row-apart : (from len at : ℕ) → (at < from) ⊎ (from + len ≤ at) → All (IsNot at) (range_with_len from len)
row-apart from len at (inl before) = row-all (IsNot at) from len (λ x low high same. absurd (omega (arith, low, same, before)))
row-apart from len at (inr behind) = row-all (IsNot at) from len (λ x low high same. absurd (omega (arith, high, same, behind)))

-- an address outside of the guest's memory and of the tag's bounce pages is none that a share names
pub addresses-apart : (guest : Guest) (entry : List ℕ) (share : Share) (bounce at : ℕ) → AllPairs IsApart (regions_of guest)
    → IsPlanned guest entry share → guest_of (regions_of guest) at ≡ None → (at < bounce) ⊎ (bounce + most_bytes ≤ at)
    → All (IsAnother (At at)) (map At (addresses_of share.plan guest bounce))
addresses-apart guest entry share bounce at apart is outside away =
    let own : Work = own_work guest entry share is in
    let beyond : (at < bounce) ⊎ (bounce + total_len own.pieces ≤ at) = further own (own-few guest entry share is) away in
    as_places (addresses_of share.plan guest bounce)
    (planned-kinds (λ p. All (IsNot at) (addresses_of p guest bounce)) guest entry share is
    (All-nil (IsNot at))
    (λ fits. hosts-apart (regions_of guest) at (places_of own.pieces) apart outside)
    (row-apart bounce (total_len own.pieces) at beyond))
  where
    further : (own : Work) → total_len own.pieces ≤ most_bytes → (at < bounce) ⊎ (bounce + most_bytes ≤ at)
        → (at < bounce) ⊎ (bounce + total_len own.pieces ≤ at)
    further own few (inl before) = inl before
    further own few (inr behind) = inr (omega (arith, few, behind))

    at-same : (a b : ℕ) → At a ≡ At b → a ≡ b
    at-same a b e = cc

    as_places : (addresses : List ℕ) → All (IsNot at) addresses → All (IsAnother (At at)) (map At addresses)
    as_places addresses each =
        All-map (IsAnother (At at)) At addresses
        (All-weaker (IsNot at) (λ a. IsAnother (At at) (At a)) (λ a other same. other (at-same a at same)) addresses each)
