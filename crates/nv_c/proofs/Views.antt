-- A row of the host that is a guest's is shown.
use Rattle.std.proofs.Common.{◌≡◌, ◌∙◌, ℕ, ◌+◌, ◌==◌, ◌≤◌, Bool, true, false, ◌&&◌, List, [], length, slice_get, Option, Some, None, ap, arith, eqb-true, nat_le, refl, subst, sym}
use Rattle.std.proofs.lemmas.Option.{same_Some}
use Rattle.std.specs.List.{list_all}
use Rattle.nv_c.specs.Views.{IsView}
use Rattle.nv_laws_sound.proofs.LaidOuts.{accepted, all-one, sizes-of}
use Rattle.nv_mediator.specs.Hosted.{Hosted, hosted_world, map_of, setup_of}
use Rattle.nv_mem.specs.Bytes.{bytes_at}
use Rattle.nv_mem.specs.declared.region.Region.{Region}
use Rattle.nv_mem.specs.GuestMap.{IsSound, Mapping}
use Rattle.nv_mem.specs.MapRuns.{IsContiguous, IsLongestRun}
use Rattle.nv_mem.proofs.MappedRuns.{run-inside}
use Rattle.nv_mem.proofs.Memory.{length-bytes_at}
use Rattle.nv_model.specs.Memory.{byte_in, bytes_from, image}
use Rattle.nv_model.proofs.MemoryLemmas.{bytes_from-list, bytes_from-same}
use Rattle.nv_model.proofs.PutImages.{image-mapped}
use Rattle.nv_ns.specs.Extents.{most_extents}
use Rattle.nv_world_model.specs.Geometry.{Guest, regions_of}
use Rattle.nv_world_model.specs.SetUp.{SetUp, between, extent_fits, guest_fits, most_limit, most_regions, refusal_of, script_limits}

-- ---- the guest of a map

pub record IsMapOf (o : Option Guest) (m : Mapping) : Type 0 where
  pub given : Guest
  pub is : o ≡ Some given
  pub same : m ≡ given.memory_map

map-given : (o : Option Guest) (m : Mapping) → Some m ≡ map_of o → IsMapOf o m
map-given None m is = cc
map-given (Some g) m is = record { given = g; is = refl; same = same_Some m g.memory_map is }

-- ---- a map is made for the host

first_of : (a b c d e : Bool) → (a && b && c && d && e) ≡ true → a ≡ true
first_of true b c d e all = refl
first_of false b c d e all = cc

made-for : (s : SetUp) (number : ℕ) (g : Guest) → refusal_of s ≡ None → slice_get s.geometry.guests number ≡ Some g → g.memory_map.host_len ≡ s.host_bytes
made-for s number g none is =
    let fits = all-one (guest_fits s) s.geometry.guests number g (sizes-of script_limits s (accepted s none).sizes).guests is in
    let made = g.memory_map.host_len == s.host_bytes in
    let regions = nat_le (length (regions_of g)) most_regions in
    let count = between 1 most_extents (length g.namespace) in
    eqb-true g.memory_map.host_len s.host_bytes
    (first_of made regions count (list_all (extent_fits s) g.namespace) (between 1 most_limit g.limit) fits)

-- a row of a guest's map lies in the host
pub row-inside : (h : Hosted) (guest address most from n : ℕ) (m : Mapping) (host : List ℕ) → refusal_of (setup_of h) ≡ None
    → Some m ≡ map_of (slice_get h.geometry.guests guest) → IsSound m → IsLongestRun m.regions address most from n → length host ≡ (setup_of h).host_bytes
    → from + n ≤ length host
row-inside h guest address most from n m host none is sound run long =
    let g = map-given (slice_get h.geometry.guests guest) m is in
    let made = made-for (setup_of h) guest g.given none g.is in
    let ends : from + n ≤ m.host_len = run-inside m address most from n sound run in
    let same : m.host_len ≡ length host = ap (λ (k : Mapping). k.host_len) g.same ∙ made ∙ sym long in
    omega arith

-- ---- what is shown

-- the bytes of a row of the host are those of the guest's memory
row-bytes : (rs : List Region) (host : List ℕ) (addr from n : ℕ) → IsContiguous rs addr from n → from + n ≤ length host
    → bytes_at host from n ≡ bytes_from (image rs (byte_in host)) addr n
unfolding byte_in
row-bytes rs host addr from n run inside =
    sym (bytes_from-list host from n inside)
    ∙ sym (bytes_from-same (image rs (byte_in host)) (byte_in host) addr from n
    (λ i below. image-mapped rs (byte_in host) (addr + i) (from + i) (run.contiguous i below)))

pub row-shown : (h : Hosted) (guest address most from n : ℕ) (m : Mapping) (host bytes : List ℕ) → Some m ≡ map_of (slice_get h.geometry.guests guest)
    → IsLongestRun m.regions address most from n → from + n ≤ length host → byte_in host ≡ (hosted_world h).host → bytes ≡ bytes_at host from n
    → IsView h guest address most bytes
row-shown h guest address most from n m host bytes is run inside at shown =
    let g = map-given (slice_get h.geometry.guests guest) m is in
    let many : n ≡ length bytes = sym (ap (λ (xs : List ℕ). length xs) shown ∙ length-bytes_at host from n (λ _. inside)) in
    let row : IsLongestRun g.given.memory_map.regions address most from n = subst (λ (k : Mapping). IsLongestRun k.regions address most from n) g.same run in
    record {
      given = g.given;
      is = g.is;
      row = λ _. (from, subst (λ (k : ℕ). IsLongestRun g.given.memory_map.regions address most from k) many row);
      within = (let within = row.within in omega arith);
      own =
          shown
          ∙ row-bytes g.given.memory_map.regions host address from n row.run inside
          ∙ ap (λ (k : ℕ). bytes_from (image g.given.memory_map.regions (byte_in host)) address k) many
          ∙ ap (λ (f : ℕ → ℕ). bytes_from (image g.given.memory_map.regions f) address (length bytes)) at;
    }

-- nothing, where nothing is asked for
pub none-shown : (h : Hosted) (guest address most : ℕ) (m : Mapping) → Some m ≡ map_of (slice_get h.geometry.guests guest) → most ≡ 0
    → IsView h guest address most []
unfolding bytes_from
none-shown h guest address most m is none =
    let g = map-given (slice_get h.geometry.guests guest) m is in
    record { given = g.given; is = g.is; row = λ some. absurd (omega (arith, none, some)); within = omega arith; own = refl }
