-- What a set-up that is not refused says.
use Rattle.std.proofs.Common.{◌≡◌, ℕ, zero, suc, ◌+◌, ◌%◌, ◌<◌, ◌≤◌, ◌⊎◌, inl, inr, Bool, true, false, cond, not, ◌&&◌, ◌||◌, ◌==◌}
use Rattle.std.proofs.Common.{nat_le, nat_lt, List, [], ◌∷◌, All, length, slice_get, Option, Some, None}
use Rattle.std.proofs.Common.{arith, refl, sym, ap, ◌∙◌, eqb-true, leb-true}
use Rattle.std.specs.Prelude.{◌≢◌}
use Rattle.std.specs.List.{Contains, list_all, list_any}
use Rattle.std.proofs.lemmas.Bool.{cases_lt}
use Rattle.std.proofs.lemmas.Bool.Decides.{nat_tests}
use Rattle.std.proofs.lemmas.List.Elements.{All-cons, All-contains, All-nil}
use Rattle.nv_mem.specs.GuestMap.{IsSound, guest_of}
use Rattle.nv_mem.proofs.Images.{host_of-guest}
use Rattle.nv_mem.proofs.Memory.{guest_of-clear, hosts_meet-image}
use Rattle.nv_model.specs.Limits.{page}
use Rattle.nv_model.proofs.Endings.{and-true, not-false}
use Rattle.nv_ns.specs.BlockRange.{Extent}
use Rattle.nv_ns.specs.Extents.{blocks_in, most_extents}
use Rattle.nv_world_model.specs.Geometry.{Guest, regions_of}
use Rattle.nv_world_model.specs.SetUp.{Limits, Refusal, SetUp, all_extents, any_two, area_bytes, between, blocks_meet, extent_fits, guest_fits}
use Rattle.nv_world_model.specs.SetUp.{host_fits, host_limits, host_refusal_of, maps_meet, meets_area, most_guests}
use Rattle.nv_world_model.specs.SetUp.{most_lanes, most_limit, most_namespace_blocks, most_regions, namespace_fits, refusal_of, refusal_within, script_limits, sizes_fit}
use Rattle.nv_world_model.specs.View.{in_extents}
use Rattle.nv_laws_sound.specs.LaidOut.{AreApart, IsGiven, IsLaidOut}
use Rattle.nv_laws_sound.proofs.ExtentsApart.{AreClear, clear-none, clear-none_back, extents-apart, or-none, two-one, two-others}

-- ---- tests of lists

-- what no member passes, one that is looked up does not
any-none : {X : Type 0} (p : X → Bool) (xs : List X) (i : ℕ) (x : X) → list_any p xs ≡ false → slice_get xs i ≡ Some x → p x ≡ false
any-none p [] i x e at = cc
any-none p (y ∷ ys) zero x e at =
    let same : y ≡ x = cc in
    ap p (sym same) ∙ (or-none (p y) (list_any p ys) e).0
any-none p (y ∷ ys) (suc i) x e at = any-none p ys i x (or-none (p y) (list_any p ys) e).1 at

-- what all pass, it does
pub all-one : {X : Type 0} (p : X → Bool) (xs : List X) (i : ℕ) (x : X) → list_all p xs ≡ true → slice_get xs i ≡ Some x → p x ≡ true
all-one p [] i x e at = cc
all-one p (y ∷ ys) zero x e at =
    let same : y ≡ x = cc in
    ap p (sym same) ∙ (and-true (p y) (list_all p ys) e).0
all-one p (y ∷ ys) (suc i) x e at = all-one p ys i x (and-true (p y) (list_all p ys) e).1 at

all-every : {X : Type 0} (p : X → Bool) (xs : List X) → list_all p xs ≡ true → All (λ x. p x ≡ true) xs
all-every p [] e = All-nil (λ x. p x ≡ true)
all-every p (x ∷ xs) e =
    let both = and-true (p x) (list_all p xs) e in All-cons (λ y. p y ≡ true) x xs both.0 (all-every p xs both.1)

-- where no two meet, an earlier one does not meet a later one
two-none : {X : Type 0} (meet : X → X → Bool) (xs : List X) (i j : ℕ) (x y : X) → any_two meet xs ≡ false → i < j
    → slice_get xs i ≡ Some x → slice_get xs j ≡ Some y → meet x y ≡ false
two-none meet [] i j x y e less at there = cc
two-none meet (z ∷ zs) i zero x y e less at there = absurd (omega arith)
two-none meet (z ∷ zs) zero (suc j) x y e less at there =
    let same : z ≡ x = cc in
    ap (λ k. meet k y) (sym same) ∙ any-none (meet z) zs j y (or-none (list_any (meet z) zs) (any_two meet zs) e).0 there
two-none meet (z ∷ zs) (suc i) (suc j) x y e less at there =
    two-none meet zs i j x y (or-none (list_any (meet z) zs) (any_two meet zs) e).1 (omega (arith, less)) at there

-- ---- a set-up that is not refused

pub record IsAccepted (limits : Limits) (s : SetUp) : Type 0 where
  pub ranges : any_two blocks_meet (all_extents s.geometry.guests) ≡ false
  pub maps : any_two maps_meet s.geometry.guests ≡ false
  pub area : list_any (meets_area s) s.geometry.guests ≡ false
  pub sizes : sizes_fit limits s ≡ true

if-none : (b : Bool) (r : Refusal) (rest : Option Refusal) → cond b (Some r) rest ≡ None → (b ≡ false) × (rest ≡ None)
if-none true r rest e = cc
if-none false r rest e = (refl, e)

pub accepted-within : (limits : Limits) (s : SetUp) → refusal_within limits s ≡ None → IsAccepted limits s
accepted-within limits s none =
    let first = if-none (nat_lt most_guests (length s.geometry.guests)) _ _ none in
    let second = if-none (any_two blocks_meet (all_extents s.geometry.guests)) _ _ first.1 in
    let third = if-none (any_two maps_meet s.geometry.guests || list_any (meets_area s) s.geometry.guests) _ _ second.1 in
    let fourth = if-none (not (sizes_fit limits s)) _ _ third.1 in
    let both = or-none (any_two maps_meet s.geometry.guests) (list_any (meets_area s) s.geometry.guests) third.0 in
    record { ranges = second.0; maps = both.0; area = both.1; sizes = not-false (sizes_fit limits s) fourth.0 }

-- a script's
pub accepted : (s : SetUp) → refusal_of s ≡ None → IsAccepted script_limits s
unfolding refusal_of
accepted s none = accepted-within script_limits s none

-- a host's
pub host-accepted : (s : SetUp) → host_refusal_of s ≡ None → IsAccepted host_limits s
unfolding host_refusal_of
host-accepted s none = accepted-within host_limits s none

-- ---- guests apart

-- two maps that share no host address share no byte
bytes-apart : (g h : Guest) → IsSound g.memory_map → IsSound h.memory_map → maps_meet g h ≡ false → (at : ℕ) (x y : Option ℕ)
    → guest_of (regions_of g) at ≡ x → guest_of (regions_of h) at ≡ y → ((x ≡ None) ⊎ (y ≡ None))
bytes-apart g h sound also clear at None y is there = inl refl
bytes-apart g h sound also clear at (Some a) None is there = inr refl
bytes-apart g h sound also clear at (Some a) (Some b) is there =
    absurd (hosts_meet-image (regions_of g) (regions_of h) at clear (a, host_of-guest (regions_of g) at a sound.apart is) (b, host_of-guest (regions_of h) at b also.apart there))

bytes-of : (g h : Guest) → IsSound g.memory_map → IsSound h.memory_map → (maps_meet g h ≡ false) ⊎ (maps_meet h g ≡ false) → (at addr : ℕ)
    → guest_of (regions_of g) at ≡ Some addr → guest_of (regions_of h) at ≡ None
bytes-of g h sound also (inl clear) at addr is =
    elim (bytes-apart g h sound also clear at (guest_of (regions_of g) at) (guest_of (regions_of h) at) refl refl) [
      | inl none ↦ let bad : Some addr ≡ None = sym is ∙ none in cc
      | inr none ↦ none
    ]
bytes-of g h sound also (inr clear) at addr is =
    elim (bytes-apart h g also sound clear at (guest_of (regions_of h) at) (guest_of (regions_of g) at) refl refl) [
      | inl none ↦ none
      | inr none ↦ let bad : Some addr ≡ None = sym is ∙ none in cc
    ]

-- two guests' extents that don't meet have no block in common
blocks-of : (g h : Guest) → AreClear blocks_meet g.namespace h.namespace ⊎ AreClear blocks_meet h.namespace g.namespace → (at : ℕ)
    → in_extents g.namespace at ≡ true → in_extents h.namespace at ≡ false
blocks-of g h (inl clear) at own = clear-none g.namespace h.namespace at clear own
blocks-of g h (inr clear) at own = clear-none_back h.namespace g.namespace at clear own

-- ---- the lay-out

all_three : (a b c : Bool) → (a && b && c) ≡ true → (a ≡ true) × ((b ≡ true) × (c ≡ true))
all_three true true c e = (refl, (refl, e))
all_three true false c e = cc
all_three false b c e = cc

all_four : (a b c d : Bool) → (a && b && c && d) ≡ true → (a ≡ true) × ((b ≡ true) × ((c ≡ true) × (d ≡ true)))
all_four true b c d e = (refl, all_three b c d e)
all_four false b c d e = cc

all_five : (a b c d e : Bool) → (a && b && c && d && e) ≡ true → (a ≡ true) × ((b ≡ true) × ((c ≡ true) × ((d ≡ true) × (e ≡ true))))
all_five true true c d e all = (refl, (refl, all_three c d e all))
all_five true false c d e all = cc
all_five false b c d e all = cc

-- what is tested of a guest
record IsFitting (s : SetUp) (g : Guest) : Type 0 where
  pub host : g.memory_map.host_len ≡ s.host_bytes
  pub count : (1 ≤ length g.namespace) × (length g.namespace ≤ most_extents)
  pub extents : list_all (extent_fits s) g.namespace ≡ true
  pub limit : (1 ≤ g.limit) × (g.limit ≤ most_limit)

between-both : (low high number : ℕ) → between low high number ≡ true → (low ≤ number) × (number ≤ high)
between-both low high number e =
    let both = and-true (nat_le low number) (nat_le number high) e in (leb-true low number both.0, leb-true number high both.1)

fitting : (s : SetUp) (g : Guest) → guest_fits s g ≡ true → IsFitting s g
fitting s g fits =
    let host = g.memory_map.host_len == s.host_bytes in
    let regions = nat_le (length (regions_of g)) most_regions in
    let count = between 1 most_extents (length g.namespace) in
    let disk = list_all (extent_fits s) g.namespace in
    let limit = between 1 most_limit g.limit in
    let each = all_five host regions count disk limit fits in
    record {
      host = eqb-true g.memory_map.host_len s.host_bytes each.0;
      count = between-both 1 most_extents (length g.namespace) each.1.1.0;
      extents = each.1.1.1.0;
      limit = between-both 1 most_limit g.limit each.1.1.1.1;
    }

extent-fits : (s : SetUp) (g : Guest) (e : Extent) → guest_fits s g ≡ true → Contains g.namespace e
    → (1 ≤ e.blocks) × (e.base + e.blocks ≤ s.geometry.disk_blocks)
extent-fits s g e fits among =
    let tested = All-contains (λ x. extent_fits s x ≡ true) g.namespace e
    (all-every (extent_fits s) g.namespace (fitting s g fits).extents) among in
    let both = and-true (nat_le 1 e.blocks) (nat_le (e.base + e.blocks) s.geometry.disk_blocks) tested in
    (leb-true 1 e.blocks both.0, leb-true (e.base + e.blocks) s.geometry.disk_blocks both.1)

guest-given : (limits : Limits) (s : SetUp) (number : ℕ) (g : Guest) → IsAccepted limits s → slice_get s.geometry.guests number ≡ Some g → guest_fits s g ≡ true
    → namespace_fits g ≡ true → IsSound g.memory_map → IsGiven s.host_bytes s.geometry.disk_blocks g
guest-given limits s number g is at fits short sound =
    let tested = fitting s g fits in
    let least = tested.count.0 in
    let most = tested.count.1 in
    let blocks = leb-true (blocks_in g.namespace) most_namespace_blocks short in
    record {
      sound = sound;
      host = tested.host;
      some = omega (arith, least);
      few = omega (arith, most);
      small = omega (arith, blocks);
      some_blocks = λ e among. (extent-fits s g e fits among).0;
      on_disk = λ e among. (extent-fits s g e fits among).1;
      apart = extents-apart g.namespace (two-one (λ (h : Guest). h.namespace) blocks_meet s.geometry.guests number g is.ranges at);
    }

-- such a guest's blocks are on the disk
pub on-disk : (s : SetUp) (g : Guest) (e : Extent) → guest_fits s g ≡ true → Contains g.namespace e
    → e.base + e.blocks ≤ s.geometry.disk_blocks
on-disk s g e fits among = (extent-fits s g e fits among).1

-- and its limit on descriptors may be
pub limit-fits : (s : SetUp) (g : Guest) → guest_fits s g ≡ true → (1 ≤ g.limit) × (g.limit ≤ most_limit)
limit-fits s g fits = (fitting s g fits).limit

-- sizes that fit
pub record AreSizes (limits : Limits) (s : SetUp) : Type 0 where
  pub few : s.host_bytes ≤ limits.host_bytes
  pub few_blocks : s.geometry.disk_blocks ≤ limits.disk_blocks
  pub pages : s.geometry.mediator % page ≡ 0
  pub area : s.geometry.mediator + area_bytes s ≤ s.host_bytes
  pub guests : list_all (guest_fits s) s.geometry.guests ≡ true
  pub namespaces : list_all namespace_fits s.geometry.guests ≡ true
  pub some_lanes : 1 ≤ s.lanes
  pub few_lanes : s.lanes ≤ most_lanes
  pub some_blocks : 1 ≤ s.geometry.disk_blocks

pub sizes-of : (limits : Limits) (s : SetUp) → sizes_fit limits s ≡ true → AreSizes limits s
sizes-of limits s fit =
    let whole = all_four (host_fits limits s) (between 1 limits.disk_blocks s.geometry.disk_blocks) (list_all (guest_fits s) s.geometry.guests)
    (list_all namespace_fits s.geometry.guests) fit in
    let each = all_five (s.host_bytes % page == 0) (between page limits.host_bytes s.host_bytes) (between 1 most_lanes s.lanes) (s.geometry.mediator % page == 0)
    (nat_le (s.geometry.mediator + area_bytes s) s.host_bytes) whole.0 in
    let most = and-true (nat_le page s.host_bytes) (nat_le s.host_bytes limits.host_bytes) each.1.0 in
    let lanes = and-true (nat_le 1 s.lanes) (nat_le s.lanes most_lanes) each.1.1.0 in
    let blocks = and-true (nat_le 1 s.geometry.disk_blocks) (nat_le s.geometry.disk_blocks limits.disk_blocks) whole.1.0 in
    record {
      few = leb-true s.host_bytes limits.host_bytes most.1;
      few_blocks = leb-true s.geometry.disk_blocks limits.disk_blocks blocks.1;
      pages = eqb-true (s.geometry.mediator % page) 0 each.1.1.1.0;
      area = leb-true (s.geometry.mediator + area_bytes s) s.host_bytes each.1.1.1.1;
      guests = whole.1.1.0;
      namespaces = whole.1.1.1;
      some_lanes = leb-true 1 s.lanes lanes.0;
      few_lanes = leb-true s.lanes most_lanes lanes.1;
      some_blocks = leb-true 1 s.geometry.disk_blocks blocks.0;
    }

-- guests of two numbers are apart
guests-apart : (limits : Limits) (s : SetUp) (number other : ℕ) (g h : Guest) → IsAccepted limits s → IsSound g.memory_map → IsSound h.memory_map
    → slice_get s.geometry.guests number ≡ Some g → slice_get s.geometry.guests other ≡ Some h → number ≢ other → AreApart g h
guests-apart limits s number other g h is sound also at there differ =
    let guests = s.geometry.guests in
    let given = λ (x : Guest). x.namespace in
    elim (cases_lt number other) [
      | inl less ↦
          record {
            bytes = bytes-of g h sound also (inl (two-none maps_meet guests number other g h is.maps less at there));
            blocks = blocks-of g h (inl (two-others given blocks_meet guests number other g h is.ranges less at there));
          }
      | inr most ↦
          (let less : other < number = omega (arith, most, differ) in
          record {
            bytes = bytes-of g h sound also (inr (two-none maps_meet guests other number h g is.maps less there at));
            blocks = blocks-of g h (inr (two-others given blocks_meet guests other number h g is.ranges less there at));
          })
    ]

-- the lay-out of a set-up that was accepted, within limits that are a host's or narrower
laid-out-within : (limits : Limits) (s : SetUp) → limits.host_bytes ≤ host_limits.host_bytes → limits.disk_blocks ≤ host_limits.disk_blocks
    → IsAccepted limits s → ((number : ℕ) (guest : Guest) → slice_get s.geometry.guests number ≡ Some guest → IsSound guest.memory_map)
    → IsLaidOut s.host_bytes s.lanes s.geometry
laid-out-within limits s bytes blocks is sound =
    let sizes = sizes-of limits s is.sizes in
    let few = sizes.few in
    let fewer = sizes.few_blocks in
    let area = sizes.area in
    let fits : (number : ℕ) (guest : Guest) → slice_get s.geometry.guests number ≡ Some guest → guest_fits s guest ≡ true =
    λ number guest at. all-one (guest_fits s) s.geometry.guests number guest sizes.guests at in
    let short : (number : ℕ) (guest : Guest) → slice_get s.geometry.guests number ≡ Some guest → namespace_fits guest ≡ true =
    λ number guest at. all-one namespace_fits s.geometry.guests number guest sizes.namespaces at in
    record {
      few = omega (arith, few, bytes);
      few_lanes = sizes.few_lanes;
      few_blocks = omega (arith, fewer, blocks);
      pages = sizes.pages;
      area = area;
      given = (λ number guest at. guest-given limits s number guest is at (fits number guest at) (short number guest at) (sound number guest at));
      apart = (λ number other g h at there differ.
          guests-apart limits s number other g h is (sound number g at) (sound other h there) at there differ);
      outside = (λ number guest addr at low high.
          guest_of-clear (regions_of guest) s.geometry.mediator (area_bytes s) addr
          (any-none (meets_area s) s.geometry.guests number guest is.area at) low high);
    }

pub host-laid-out : (s : SetUp) → host_refusal_of s ≡ None
    → ((number : ℕ) (guest : Guest) → slice_get s.geometry.guests number ≡ Some guest → IsSound guest.memory_map)
    → IsLaidOut s.host_bytes s.lanes s.geometry
host-laid-out s none sound = laid-out-within host_limits s (omega arith) (omega arith) (host-accepted s none) sound

-- ---- wider limits

and-both : (a b : Bool) → a ≡ true → b ≡ true → (a && b) ≡ true
and-both true b first second = second
and-both false b first second = cc

between-wider : (low high higher number : ℕ) → high ≤ higher → between low high number ≡ true → between low higher number ≡ true
between-wider low high higher number more e =
    let both = between-both low high number e in
    let least = both.0 in
    let most : number ≤ higher = (let m = both.1 in omega (arith, m, more)) in
    grind (arith, nat_tests, least, most)

sizes-wider : (limits wider : Limits) (s : SetUp) → limits.host_bytes ≤ wider.host_bytes → limits.disk_blocks ≤ wider.disk_blocks
    → sizes_fit limits s ≡ true → sizes_fit wider s ≡ true
sizes-wider limits wider s bytes blocks fit =
    let whole = all_four (host_fits limits s) (between 1 limits.disk_blocks s.geometry.disk_blocks) (list_all (guest_fits s) s.geometry.guests)
    (list_all namespace_fits s.geometry.guests) fit in
    let even = s.host_bytes % page == 0 in
    let lanes = between 1 most_lanes s.lanes in
    let pages = s.geometry.mediator % page == 0 in
    let area = nat_le (s.geometry.mediator + area_bytes s) s.host_bytes in
    let each = all_five even (between page limits.host_bytes s.host_bytes) lanes pages area whole.0 in
    let host : between page wider.host_bytes s.host_bytes ≡ true = between-wider page limits.host_bytes wider.host_bytes s.host_bytes bytes each.1.0 in
    let disk : between 1 wider.disk_blocks s.geometry.disk_blocks ≡ true =
    between-wider 1 limits.disk_blocks wider.disk_blocks s.geometry.disk_blocks blocks whole.1.0 in
    let guests = list_all (guest_fits s) s.geometry.guests in
    let namespaces = list_all namespace_fits s.geometry.guests in
    let size = between page wider.host_bytes s.host_bytes in
    let host_all = and-both (even && size && lanes && pages) area (and-both (even && size && lanes) pages
    (and-both (even && size) lanes (and-both even size each.0 host) each.1.1.0) each.1.1.1.0) each.1.1.1.1 in
    let range = between 1 wider.disk_blocks s.geometry.disk_blocks in
    and-both (host_fits wider s && range && guests) namespaces
    (and-both (host_fits wider s && range) guests (and-both (host_fits wider s) range host_all disk) whole.1.1.0) whole.1.1.1

-- where no reason applies there is none
none-of : (a b c d : Bool) (r q o p : Refusal) → a ≡ false → b ≡ false → c ≡ false → d ≡ true
    → cond a (Some r) (cond b (Some q) (cond c (Some o) (cond (not d) (Some p) None))) ≡ None
none-of false false false true r q o p first second third fourth = refl
none-of true b c d r q o p first second third fourth = cc
none-of false true c d r q o p first second third fourth = cc
none-of false false true d r q o p first second third fourth = cc
none-of false false false false r q o p first second third fourth = cc

-- what is accepted within limits is accepted within wider ones
wider-accepted : (limits wider : Limits) (s : SetUp) → limits.host_bytes ≤ wider.host_bytes → limits.disk_blocks ≤ wider.disk_blocks
    → refusal_within limits s ≡ None → refusal_within wider s ≡ None
wider-accepted limits wider s bytes blocks none =
    let first = if-none (nat_lt most_guests (length s.geometry.guests)) _ _ none in
    let second = if-none (any_two blocks_meet (all_extents s.geometry.guests)) _ _ first.1 in
    let third = if-none (any_two maps_meet s.geometry.guests || list_any (meets_area s) s.geometry.guests) _ _ second.1 in
    let fourth = if-none (not (sizes_fit limits s)) _ _ third.1 in
    none-of (nat_lt most_guests (length s.geometry.guests)) (any_two blocks_meet (all_extents s.geometry.guests))
    (any_two maps_meet s.geometry.guests || list_any (meets_area s) s.geometry.guests) (sizes_fit wider s) _ _ _ _ first.0 second.0 third.0
    (sizes-wider limits wider s bytes blocks (not-false (sizes_fit limits s) fourth.0))

-- a script's set-up is one that a host may have
pub script-accepted : (s : SetUp) → refusal_of s ≡ None → host_refusal_of s ≡ None
unfolding refusal_of host_refusal_of
script-accepted s none = wider-accepted script_limits host_limits s (omega arith) (omega arith) none
