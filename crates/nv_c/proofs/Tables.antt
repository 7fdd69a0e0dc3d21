-- Tables that are gone through, one member at a time.
use Rattle.std.proofs.Common.{◌≡◌, ◌∙◌, ℕ, zero, suc, ◌+◌, ◌==◌, ◌<◌, nat_lt, false, true, List, [], ◌∷◌, ◌++◌, length, get_or, slice_get, take, ap, arith, refl, sym, eq-eqb, Some}
use Rattle.std.specs.Prelude.{flat_map}
use Rattle.std.proofs.lemmas.Bool.Decides.{nat_tests}
use Rattle.std.proofs.lemmas.List.{append-nil, flat_map_more, length-take-le, take_more}
use Rattle.nv_c.specs.Tables.{all_given, extents_of, given, if_own, own_extent, own_region, regions_of}
use Rattle.nv_c.specs.declared.setup.GuestExtent.{GuestExtent}
use Rattle.nv_c.specs.declared.setup.Region.{Region}
use Rattle.nv_mem.specs.declared.region.Region as mem
use Rattle.nv_ns.specs.BlockRange as ns
use Rattle.nv_world_model.specs.Geometry.{Guest}
use Rattle.nv_host.specs.Served.{serving_refusal_of, unless_crowded}
use Rattle.nv_world_model.specs.SetUp.{SetUp, TooManyGuests, host_refusal_of, most_guests, refusal_of}

-- one more member, of which something is put behind the rest, or nothing
flat_map_next : {A B : Type 0} (f : A → List B) (xs : List A) (i : ℕ) (d : A) → i < length xs
    → flat_map f (take i xs) ++ f (get_or xs i d) ≡ flat_map f (take (i + 1) xs)
flat_map_next f xs i d below = flat_map_more f [] (take i xs) (get_or xs i d) ∙ ap (flat_map f) (sym (take_more xs i d below))

-- what is the guest's own stands, and nothing of what isn't
own : {A : Type 0} (a b : ℕ) (x : A) → a ≡ b → if_own (a == b) x ≡ x ∷ []
own a b x is = ap (λ v. if_own v x) (eq-eqb a b is)

others : {A : Type 0} (a b : ℕ) (x : A) → (a ≡ b → ⊥) → if_own (a == b) x ≡ []
others a b x not = ap (λ v. if_own v x) (let differ : (a == b) ≡ false = grind (arith, nat_tests) in differ)

-- one more region: the guest's, or another's
pub own_region_next : (guest : ℕ) (rs : List Region) (i : ℕ) (d : Region) (now : List mem.Region) → i < length rs → (get_or rs i d).guest ≡ guest
    → now ≡ regions_of guest (take i rs)
    → now ++ record { guest = (get_or rs i d).address; host = (get_or rs i d).host; len = (get_or rs i d).bytes } ∷ [] ≡ regions_of guest (take (i + 1) rs)
unfolding regions_of
own_region_next guest rs i d now below is so_far =
    let r : Region = get_or rs i d in
    ap (λ rest. rest ++ record { guest = r.address; host = r.host; len = r.bytes } ∷ []) so_far
    ∙ ap (λ more. flat_map (own_region guest) (take i rs) ++ more) (sym (own r.guest guest (record { guest = r.address; host = r.host; len = r.bytes }) is))
    ∙ flat_map_next (own_region guest) rs i d below

pub others_region_next : (guest : ℕ) (rs : List Region) (i : ℕ) (d : Region) (now : List mem.Region) → i < length rs → ((get_or rs i d).guest ≡ guest → ⊥)
    → now ≡ regions_of guest (take i rs) → now ≡ regions_of guest (take (i + 1) rs)
unfolding regions_of
others_region_next guest rs i d now below not so_far =
    let r : Region = get_or rs i d in
    so_far ∙ sym (append-nil (flat_map (own_region guest) (take i rs)))
    ∙ ap (λ more. flat_map (own_region guest) (take i rs) ++ more) (sym (others r.guest guest (record { guest = r.address; host = r.host; len = r.bytes }) not))
    ∙ flat_map_next (own_region guest) rs i d below

-- one more extent: the guest's, or another's
pub own_extent_next : (guest : ℕ) (es : List GuestExtent) (i : ℕ) (d : GuestExtent) (now : List ns.Extent) → i < length es → (get_or es i d).guest ≡ guest
    → now ≡ extents_of guest (take i es)
    → now ++ record { base = (get_or es i d).base; blocks = (get_or es i d).blocks } ∷ [] ≡ extents_of guest (take (i + 1) es)
unfolding extents_of
own_extent_next guest es i d now below is so_far =
    let e : GuestExtent = get_or es i d in
    ap (λ rest. rest ++ record { base = e.base; blocks = e.blocks } ∷ []) so_far
    ∙ ap (λ more. flat_map (own_extent guest) (take i es) ++ more) (sym (own e.guest guest (record { base = e.base; blocks = e.blocks }) is))
    ∙ flat_map_next (own_extent guest) es i d below

pub others_extent_next : (guest : ℕ) (es : List GuestExtent) (i : ℕ) (d : GuestExtent) (now : List ns.Extent) → i < length es → ((get_or es i d).guest ≡ guest → ⊥)
    → now ≡ extents_of guest (take i es) → now ≡ extents_of guest (take (i + 1) es)
unfolding extents_of
others_extent_next guest es i d now below not so_far =
    let e : GuestExtent = get_or es i d in
    so_far ∙ sym (append-nil (flat_map (own_extent guest) (take i es)))
    ∙ ap (λ more. flat_map (own_extent guest) (take i es) ++ more) (sym (others e.guest guest (record { base = e.base; blocks = e.blocks }) not))
    ∙ flat_map_next (own_extent guest) es i d below

-- one more guest
given_behind : (host_bytes : ℕ) (regions : List Region) (extents : List GuestExtent) (from : ℕ) (limits : List ℕ) (limit number : ℕ) → from + length limits ≡ number
    → all_given host_bytes regions extents from (limits ++ limit ∷ []) ≡ all_given host_bytes regions extents from limits ++ given host_bytes regions extents number limit ∷ []
unfolding all_given
given_behind h rs es from [] limit number is = ap (λ (n : ℕ). given h rs es n limit ∷ []) (omega (arith, is))
given_behind h rs es from (l ∷ ls) limit number is = ap (λ (gs : List Guest). given h rs es from l ∷ gs) (given_behind h rs es (from + 1) ls limit number (omega (arith, is)))

pub given_next : (host_bytes : ℕ) (regions : List Region) (extents : List GuestExtent) (limits : List ℕ) (i d : ℕ) (now : List Guest) (guest : Guest) → i < length limits
    → now ≡ all_given host_bytes regions extents 0 (take i limits) → guest ≡ given host_bytes regions extents i (get_or limits i d)
    → now ++ guest ∷ [] ≡ all_given host_bytes regions extents 0 (take (i + 1) limits)
given_next h rs es limits i d now guest below so_far is =
    let many : length (take i limits) ≡ i = length-take-le i limits (omega arith) in
    ap (λ gs. gs ++ guest ∷ []) so_far
    ∙ ap (λ (g : Guest). all_given h rs es 0 (take i limits) ++ g ∷ []) is
    ∙ sym (given_behind h rs es 0 (take i limits) (get_or limits i d) i (omega (arith, many)))
    ∙ ap (all_given h rs es 0) (sym (take_more limits i d below))

-- the guest of a number is the one of its limit, and there are as many as limits
pub given_at : (host_bytes : ℕ) (regions : List Region) (extents : List GuestExtent) (from : ℕ) (limits : List ℕ) (i d number : ℕ) → i < length limits
    → from + i ≡ number → slice_get (all_given host_bytes regions extents from limits) i ≡ Some (given host_bytes regions extents number (get_or limits i d))
unfolding all_given
given_at h rs es from [] i d number below is = absurd (omega (arith, below))
given_at h rs es from (l ∷ ls) zero d number below is = ap (λ (n : ℕ). Some (given h rs es n l)) (omega (arith, is))
given_at h rs es from (l ∷ ls) (suc i) d number below is = given_at h rs es (from + 1) ls i d number (omega (arith, below)) (omega (arith, is))

pub given_count : (host_bytes : ℕ) (regions : List Region) (extents : List GuestExtent) (from : ℕ) (limits : List ℕ)
    → length (all_given host_bytes regions extents from limits) ≡ length limits
unfolding all_given
given_count h rs es from [] = refl
given_count h rs es from (l ∷ ls) = ap suc (given_count h rs es (from + 1) ls)

-- where they are more than 16 the set-up is refused, by either limits
too_many_hosted : (s : SetUp) → 16 < length s.geometry.guests → host_refusal_of s ≡ Some TooManyGuests
unfolding host_refusal_of
too_many_hosted s more =
    let is : nat_lt most_guests (length s.geometry.guests) ≡ true = grind (arith, nat_tests, more) in
    rw is refl

pub too_many_serving : (s : SetUp) → 16 < length s.geometry.guests → serving_refusal_of s ≡ Some TooManyGuests
too_many_serving s more = ap (unless_crowded s.geometry.guests) (too_many_hosted s more)

pub too_many : (s : SetUp) → 16 < length s.geometry.guests → refusal_of s ≡ Some TooManyGuests
unfolding refusal_of
too_many s more =
    let is : nat_lt most_guests (length s.geometry.guests) ≡ true = grind (arith, nat_tests, more) in
    rw is refl
