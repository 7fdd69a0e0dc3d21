-- What a list of regions that is not refused is, and the other way round.
use Rattle.std.proofs.Common.{◌≡◌, ℕ, ◌+◌, ◌<◌, ◌≤◌, Bool, true, false, not, cond, ◌||◌, List, [], ◌∷◌, get_or, Some, None, arith, refl, max}
use Rattle.std.proofs.lemmas.Bool.Decides.{nat_tests}
use Rattle.std.proofs.lemmas.List.Elements.{All-weaker}
use Rattle.std.proofs.lemmas.List.Folds.{list_any_at, list_any_none}
use Rattle.std.proofs.lemmas.List.Sums.{AllPass-from_list_all, list_all-from_AllPass}
use Rattle.std.proofs.lemmas.List.Kept.{AllPairs-cons}
use Rattle.std.specs.List.{All, AllPairs, list_any, list_all}
use Rattle.nv_mem.specs.declared.region.Region.{Region}
use Rattle.nv_mem.specs.declared.map_error.MapError.TheVariants.{Unaligned, Overlap, OutsideHost}
use Rattle.nv_mem.specs.GuestMap.{Mapping, covers, covers_host, spans_meet, IsPaged, IsApart, IsInside, IsSound}
use Rattle.nv_mem.specs.MapRefusal.{regions_meet, any_two_meet, is_paged, is_inside, refusal_of}
use Rattle.nv_mem.proofs.Images.{AllPairs-head, AllPairs-tail}

-- ---- one region

-- a region that passes the test is paged
pub IsPaged-tested : (r : Region) → is_paged r ≡ true → IsPaged r
IsPaged-tested r passed = record { guest = grind (arith, nat_tests); host = grind (arith, nat_tests); len = grind (arith, nat_tests); nonempty = grind (arith, nat_tests) }

-- and the other way round
pub is_paged-true : (r : Region) → IsPaged r → is_paged r ≡ true
is_paged-true r paged =
    let g = paged.guest in let h = paged.host in let l = paged.len in let n = paged.nonempty in grind (arith, nat_tests)

-- a region that passes the test is inside
pub IsInside-tested : (host_len : ℕ) (r : Region) → is_inside host_len r ≡ true → IsInside host_len r
IsInside-tested host_len r passed = record { host = grind (arith, nat_tests); guest = grind (arith, nat_tests) }

-- and the other way round
pub is_inside-true : (host_len : ℕ) (r : Region) → IsInside host_len r → is_inside host_len r ≡ true
is_inside-true host_len r inside = let h = inside.host in let g = inside.guest in grind (arith, nat_tests)

-- ---- two regions

-- regions that do not meet are apart
pub IsApart-tested : (r s : Region) → regions_meet r s ≡ false → IsApart r s
IsApart-tested r s clear = record { guest = λ addr covered. grind (arith, nat_tests); host = λ host covered. grind (arith, nat_tests) }

-- spans that meet have their later start in common
spans_meet-at : (a m b n : ℕ) → spans_meet a m b n ≡ true
    → (a ≤ max a b) × (max a b < a + m) × (b ≤ max a b) × (max a b < b + n)
spans_meet-at a m b n meet = (omega arith, grind (arith, nat_tests), omega arith, grind (arith, nat_tests))

-- an address between the ends of a region is in it
covers-between : (r : Region) (addr : ℕ) → r.guest ≤ addr → addr < r.guest + r.len → covers r addr ≡ true
covers-between r addr low high = grind (arith, nat_tests)

-- the same of its host addresses
covers_host-between : (r : Region) (host : ℕ) → r.host ≤ host → host < r.host + r.len → covers_host r host ≡ true
covers_host-between r host low high = grind (arith, nat_tests)

-- regions that are apart have no guest address in common
guests_meet-apart : (r s : Region) → IsApart r s → spans_meet r.guest r.len s.guest s.len ≡ false
guests_meet-apart r s apart =
    (elim (spans_meet r.guest r.len s.guest s.len) as (λ b. spans_meet r.guest r.len s.guest s.len ≡ b → b ≡ false) [
      | true ↦ λ meet.
          let at = spans_meet-at r.guest r.len s.guest s.len meet in
          let in_r = covers-between r (max r.guest s.guest) at.0 at.1 in
          let in_s = covers-between s (max r.guest s.guest) at.2 at.3 in
          let not_s = apart.guest (max r.guest s.guest) in_r in
          cc
      | false ↦ λ meet. refl
    ]) refl

-- and no host address
hosts_meet-apart : (r s : Region) → IsApart r s → spans_meet r.host r.len s.host s.len ≡ false
hosts_meet-apart r s apart =
    (elim (spans_meet r.host r.len s.host s.len) as (λ b. spans_meet r.host r.len s.host s.len ≡ b → b ≡ false) [
      | true ↦ λ meet.
          let at = spans_meet-at r.host r.len s.host s.len meet in
          let in_r = covers_host-between r (max r.host s.host) at.0 at.1 in
          let in_s = covers_host-between s (max r.host s.host) at.2 at.3 in
          let not_s = apart.host (max r.host s.host) in_r in
          cc
      | false ↦ λ meet. refl
    ]) refl

-- regions that are apart do not meet
pub regions_meet-apart : (r s : Region) → IsApart r s → regions_meet r s ≡ false
regions_meet-apart r s apart = rw (guests_meet-apart r s apart, hosts_meet-apart r s apart)

-- ---- a list of regions

-- a region that meets none of the others is apart from each
pub All-IsApart-tested : (r : Region) (rs : List Region) → list_any (regions_meet r) rs ≡ false → All (IsApart r) rs
All-IsApart-tested r rs clear = λ k d below.
    (elim (regions_meet r (get_or rs k d)) as (λ b. regions_meet r (get_or rs k d) ≡ b → IsApart r (get_or rs k d)) [
      | true ↦ λ is. let hit = list_any_at (regions_meet r) rs k d below is in cc
      | false ↦ λ is. IsApart-tested r (get_or rs k d) is
    ]) refl

-- where no two meet, each two are apart
pub AllPairs-IsApart-tested : (rs : List Region) → any_two_meet rs ≡ false → AllPairs IsApart rs
AllPairs-IsApart-tested [] clear = λ i j d order below. absurd (omega arith)
AllPairs-IsApart-tested (r ∷ rs) clear =
    (elim (list_any (regions_meet r) rs) as (λ b. list_any (regions_meet r) rs ≡ b → (b || any_two_meet rs) ≡ false → AllPairs IsApart (r ∷ rs)) [
      | true ↦ λ is e. cc
      | false ↦ λ is e. AllPairs-cons IsApart r rs (All-IsApart-tested r rs is) (AllPairs-IsApart-tested rs e)
    ]) refl clear

-- where each two are apart, no two meet
pub any_two_meet-apart : (rs : List Region) → AllPairs IsApart rs → any_two_meet rs ≡ false
any_two_meet-apart [] apart = refl
any_two_meet-apart (r ∷ rs) apart =
    let first = list_any_none (regions_meet r) rs (All-weaker (IsApart r) (λ s. regions_meet r s ≡ false) (regions_meet-apart r) rs (AllPairs-head IsApart r rs apart)) in
    let rest = any_two_meet-apart rs (AllPairs-tail IsApart r rs apart) in
    rw (first, rest)

-- ---- the verdict

-- the three tests, where none of the three refusals applies
verdict-None : (paged meet inside : Bool)
    → cond (not paged) (Some Unaligned) (cond meet (Some Overlap) (cond (not inside) (Some OutsideHost) None)) ≡ None
    → (paged ≡ true) × (meet ≡ false) × (inside ≡ true)
verdict-None true false true none = (refl, refl, refl)
verdict-None true false false none = cc
verdict-None true true inside none = cc
verdict-None false meet inside none = cc

-- the three tests of a list that is not refused
pub refusal_of-None : (host_len : ℕ) (rs : List Region) → refusal_of host_len rs ≡ None
    → (list_all is_paged rs ≡ true) × (any_two_meet rs ≡ false) × (list_all (is_inside host_len) rs ≡ true)
unfolding refusal_of
refusal_of-None host_len rs none =
    verdict-None (list_all is_paged rs) (any_two_meet rs) (list_all (is_inside host_len) rs) none

-- a list that is not refused is sound
pub IsSound-tested : (host_len : ℕ) (rs : List Region) → refusal_of host_len rs ≡ None
    → IsSound (record { host_len = host_len; regions = rs })
IsSound-tested host_len rs none =
    let tests = refusal_of-None host_len rs none in
    record {
      paged = All-weaker (λ r. is_paged r ≡ true) IsPaged IsPaged-tested rs (AllPass-from_list_all is_paged rs tests.0);
      apart = AllPairs-IsApart-tested rs tests.1;
      inside = All-weaker (λ r. is_inside host_len r ≡ true) (IsInside host_len) (IsInside-tested host_len) rs (AllPass-from_list_all (is_inside host_len) rs tests.2);
    }

-- a sound list is not refused
pub refusal_of-sound : (m : Mapping) → IsSound m → refusal_of m.host_len m.regions ≡ None
unfolding refusal_of
refusal_of-sound m sound =
    let paged = list_all-from_AllPass is_paged m.regions (All-weaker IsPaged (λ r. is_paged r ≡ true) is_paged-true m.regions sound.paged) in
    let apart = any_two_meet-apart m.regions sound.apart in
    let inside = list_all-from_AllPass (is_inside m.host_len) m.regions (All-weaker (IsInside m.host_len) (λ r. is_inside m.host_len r ≡ true) (is_inside-true m.host_len) m.regions sound.inside) in
    rw (paged, apart, inside)
