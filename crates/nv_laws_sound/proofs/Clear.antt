-- A span of the host in which a guest has no address meets none of the guest's regions.
use Rattle.std.proofs.Common.{◌≡◌, ℕ, ◌+◌, ◌-◌, ◌<◌, ◌≤◌, Bool, true, false, cond, ◌||◌, max, List, [], ◌∷◌, Option, Some, None, arith, refl, sym, ap, ◌∙◌, ltb-true}
use Rattle.std.proofs.lemmas.Bool.Decides.{nat_tests}
use Rattle.std.specs.Prelude.{min}
use Rattle.nv_mem.specs.GuestMap.{covers_host, guest_of, span_met, spans_meet}
use Rattle.nv_mem.specs.declared.region.Region.{Region}

-- an address that no region has
no-address : (b : Bool) (x : ℕ) (o : Option ℕ) → cond b (Some x) o ≡ None → (b ≡ false) × (o ≡ None)
no-address true x o e = cc
no-address false x o e = (refl, e)

-- spans that meet have an address in common
met-at : (r : Region) (slot len : ℕ) → spans_meet r.host r.len slot len ≡ true → (at : ℕ) × ((slot ≤ at) × ((at < slot + len) × (covers_host r at ≡ true)))
met-at r slot len e =
    let less = ltb-true (max r.host slot) (min (r.host + r.len) (slot + len)) e in
    let at : ℕ = max r.host slot in
    (at, (omega (arith, less), (omega (arith, less), covers at (omega (arith, less)) (omega (arith, less)))))
  where
    covers : (at : ℕ) → r.host ≤ at → at < r.host + r.len → covers_host r at ≡ true
    covers at low high = grind (arith, nat_tests)

apart-by : (r : Region) (slot len : ℕ) → ((at : ℕ) → slot ≤ at → at < slot + len → covers_host r at ≡ false) → spans_meet r.host r.len slot len ≡ false
apart-by r slot len none = by_test (spans_meet r.host r.len slot len) refl
  where
    by_test : (b : Bool) → spans_meet r.host r.len slot len ≡ b → b ≡ false
    by_test true e =
        let m = met-at r slot len e in
        let bad : true ≡ false = sym m.1.1.1 ∙ none m.0 m.1.0 m.1.1.0 in cc
    by_test false e = refl

pub clear-span : (rs : List Region) (slot len : ℕ) → ((at : ℕ) → slot ≤ at → at < slot + len → guest_of rs at ≡ None) → span_met rs slot len ≡ false
clear-span [] slot len none = refl
clear-span (r ∷ rs) slot len none =
    let parts : (at : ℕ) → slot ≤ at → at < slot + len → (covers_host r at ≡ false) × (guest_of rs at ≡ None) =
    λ at low high. no-address (covers_host r at) (r.guest + (at - r.host)) (guest_of rs at) (none at low high) in
    ap (λ (b : Bool). b || span_met rs slot len) (apart-by r slot len (λ at low high. (parts at low high).0))
    ∙ clear-span rs slot len (λ at low high. (parts at low high).1)
