-- Bytes that are copied from a slot, run by run.
use Rattle.std.proofs.Common.{◌≡◌, ℕ, ◌+◌, ◌-◌, ◌<◌, ◌≤◌, ◌⊎◌, inl, inr, false}
use Rattle.std.proofs.Common.{List, [], ◌++◌, length, replicate, slice_index}
use Rattle.std.proofs.Common.{Some, None, arith, refl, sym, ap, subst, ◌∙◌}
use Rattle.std.proofs.lemmas.Bool.{cases_lt}
use Rattle.std.proofs.lemmas.List.{length-append}
use Rattle.std.specs.List.{AllPairs}
use mathlib.Core.Path.{fun_ext}
use Rattle.nv_mem.specs.Bytes.{InMemory, after_store, bytes_at}
use Rattle.nv_mem.specs.declared.region.Region.{Region}
use Rattle.nv_mem.specs.GuestMap.{IsApart, IsSound, Mapping, guest_of, host_of, span_met}
use Rattle.nv_mem.specs.MapRuns.{IsContiguous, IsLongestRun}
use Rattle.nv_mem.specs.Places.{Place, Bucket, addresses}
use Rattle.nv_mem.proofs.Images.{guest_of-host, host_of-guest}
use Rattle.nv_mem.proofs.Memory.{length-bytes_at, span_met-part}
use Rattle.nv_mem.proofs.PlaceLists.{length-addresses}
use Rattle.nv_model.specs.Memory.{byte_in, byte_or, bytes_from, image, put_image, scattered, stored}
use Rattle.nv_model.proofs.MemoryAlike.{scattered-at}
use Rattle.nv_model.proofs.MemoryLemmas.{bytes_from-append, bytes_from-list, scattered-addresses, scattered-append, scattered-buckets, stored-inside, stored-list, stored-outside}
use Rattle.nv_model.proofs.PutImages.{bytes_from-put_image, image-mapped, image-put_image, put_image-own, put_image-twice}
use Rattle.nv_model.proofs.Shown.{length-bytes_from}
use Rattle.nv_bounce.specs.Bounce.{scattered_from}
use Rattle.nv_bounce.proofs.Copies.{GoesInOrder, IsAtRow, IsAtRow-next}
use Rattle.nv_mem.proofs.MappedRuns.{run-inside}

-- ---- some places, and those behind them

-- bytes scattered to some places, and then to those behind them
scattered-both : (m g : ℕ → ℕ) (front behind : List Place) (slot : ℕ)
    → scattered g (front ++ behind) (bytes_from m slot (length (front ++ behind)))
    ≡ scattered (scattered g front (bytes_from m slot (length front))) behind (bytes_from m (slot + length front) (length behind))
scattered-both m g front behind slot =
    ap (λ (n : ℕ). scattered g (front ++ behind) (bytes_from m slot n)) (length-append front behind)
    ∙ ap (scattered g (front ++ behind)) (bytes_from-append m slot (length front) (length behind))
    ∙ scattered-append g front behind (bytes_from m slot (length front)) (bytes_from m (slot + length front) (length behind))
    (sym (length-bytes_from m slot (length front)))

pub scattered_from-append : (rs : List Region) (m : ℕ → ℕ) (front behind : List Place) (slot : ℕ) → AllPairs IsApart rs
    → span_met rs (slot + length front) (length behind) ≡ false
    → scattered_from rs behind (slot + length front) (scattered_from rs front slot m) ≡ scattered_from rs (front ++ behind) slot m
scattered_from-append rs m front behind slot apart clear =
    let given : ℕ → ℕ = scattered (image rs m) front (bytes_from m slot (length front)) in
    let rest : List ℕ = bytes_from m (slot + length front) (length behind) in
    let moved : ℕ → ℕ = put_image rs given m in
    ap (λ (bytes : List ℕ). put_image rs (scattered (image rs moved) behind bytes) moved)
    (bytes_from-put_image rs given m (slot + length front) (length behind) clear)
    ∙ put_image-twice rs given (scattered (image rs moved) behind rest) (scattered given behind rest) m apart
    (λ addr there. scattered-at (image rs moved) given behind rest addr (image-put_image rs given m addr apart there))
    ∙ ap (λ (g : ℕ → ℕ). put_image rs g m) (sym (scattered-both m (image rs m) front behind slot))

-- ---- a run that lies in a row in the host

-- where the bytes of a run come to lie, at each host address
pub stored-row_at : (rs : List Region) (m : ℕ → ℕ) (addr host : ℕ) (bytes : List ℕ) (at : ℕ) → AllPairs IsApart rs → IsContiguous rs addr host (length bytes)
    → stored m host bytes at ≡ put_image rs (stored (image rs m) addr bytes) m at
unfolding put_image
stored-row_at rs m addr host bytes at apart run =
    elim (cases_lt at host) [
      | inl low ↦ elsewhere (inl low)
      | inr from ↦ elim (cases_lt at (host + length bytes)) [
        | inl within ↦ here from within
        | inr high ↦ elsewhere (inr high)
      ]
    ]
  where
    here : host ≤ at → at < host + length bytes → stored m host bytes at ≡ byte_or (m at) (stored (image rs m) addr bytes) (guest_of rs at)
    here from within =
        let i : ℕ = at - host in
        let back : host + (at - host) ≡ at = omega arith in
        let there : guest_of rs at ≡ Some (addr + (at - host)) =
        guest_of-host rs (addr + (at - host)) at apart (run.contiguous (at - host) (omega arith) ∙ ap (λ (h : ℕ). Some h) back) in
        let offset : addr + (at - host) - addr ≡ at - host = omega arith in
        stored-inside m host bytes at from within
        ∙ ap (λ (k : ℕ). slice_index bytes k) (sym offset)
        ∙ sym (stored-inside (image rs m) addr bytes (addr + (at - host)) (omega arith) (omega arith))
        ∙ ap (byte_or (m at) (stored (image rs m) addr bytes)) (sym there)

    outside : (a : ℕ) → host_of rs a ≡ Some at → (at < host) ⊎ (host + length bytes ≤ at) → (a < addr) ⊎ (addr + length bytes ≤ a)
    outside a is other =
        elim (cases_lt a addr) [
          | inl low ↦ inl low
          | inr from ↦ elim (cases_lt a (addr + length bytes)) [
            | inl within ↦
                let back : a ≡ addr + (a - addr) = omega arith in
                let row : host_of rs a ≡ Some (host + (a - addr)) = ap (host_of rs) back ∙ run.contiguous (a - addr) (omega arith) in
                let same : at ≡ host + (a - addr) = cc in
                absurd (elim other [ inl low ↦ omega arith | inr high ↦ omega arith ])
            | inr high ↦ inr high
          ]
        ]

    elsewhere : (at < host) ⊎ (host + length bytes ≤ at) → stored m host bytes at ≡ byte_or (m at) (stored (image rs m) addr bytes) (guest_of rs at)
    elsewhere other =
        stored-outside m host bytes at other
        ∙ (elim (guest_of rs at) as (λ o. guest_of rs at ≡ o → m at ≡ byte_or (m at) (stored (image rs m) addr bytes) o) [
          | None ↦ λ is. refl
          | Some a ↦ λ is.
              let there : host_of rs a ≡ Some at = host_of-guest rs at a apart is in
              sym (stored-outside (image rs m) addr bytes a (outside a there other) ∙ image-mapped rs m a at there)
        ]) refl

-- such a run that is copied is scattered
pub copy-scatters : (rs : List Region) (memory : List ℕ) (addr host n from : ℕ) → AllPairs IsApart rs → IsContiguous rs addr host n
    → host + n ≤ length memory → from + n ≤ length memory
    → byte_in (after_store memory host (bytes_at memory from n)) ≡ scattered_from rs (addresses addr n) from (byte_in memory)
unfolding byte_in
copy-scatters rs memory addr host n from apart run to_inside from_inside =
    let bytes : List ℕ = bytes_at memory from n in
    let len : length bytes ≡ n = length-bytes_at memory from n (λ _. from_inside) in
    let g : ℕ → ℕ = image rs (byte_in memory) in
    let whole : IsContiguous rs addr host (length bytes) = subst (λ (k : ℕ). IsContiguous rs addr host k) (sym len) run in
    let read : bytes_from (byte_in memory) from n ≡ bytes = bytes_from-list memory from n from_inside in
    sym (stored-list memory host bytes (omega arith))
    ∙ fun_ext (λ at. stored-row_at rs (byte_in memory) addr host bytes at apart whole)
    ∙ ap (λ (f : ℕ → ℕ). put_image rs f (byte_in memory))
    (sym (scattered-addresses g addr bytes)
    ∙ ap (λ (k : ℕ). scattered g (addresses addr k) bytes) len
    ∙ ap (scattered g (addresses addr n)) (sym read ∙ ap (bytes_from (byte_in memory) from) (sym (length-addresses addr n))))

-- no bytes are copied
scattered_from-none : (rs : List Region) (m : ℕ → ℕ) (slot : ℕ) → AllPairs IsApart rs → scattered_from rs [] slot m ≡ m
unfolding scattered
scattered_from-none rs m slot apart = put_image-own rs m apart

-- scattering goes place by place
pub scattering-in_order : (rs : List Region) (slot len : ℕ) → AllPairs IsApart rs → span_met rs slot len ≡ false → GoesInOrder (scattered_from rs) slot len
scattering-in_order rs slot len apart clear = record {
  none = λ m at. scattered_from-none rs m at apart;
  append = λ m front behind at low high.
      scattered_from-append rs m front behind at apart (span_met-part rs slot len (at + length front) (length behind) clear (omega arith) (omega arith));
}

-- one more row of a run is scattered
pub scattered-next : (m : Mapping) (before now new : List ℕ) (slot addr len done host n : ℕ) → IsSound m → m.host_len ≡ length before
    → span_met m.regions slot len ≡ false → InMemory (length before) slot len
    → IsAtRow (scattered_from m.regions) before slot addr len now done → done < len → IsLongestRun m.regions (addr + done) (len - done) host n
    → new ≡ after_store now host (bytes_at now (slot + done) n) → length new ≡ length now
    → IsAtRow (scattered_from m.regions) before slot addr len new (done + n)
scattered-next m before now new slot addr len done host n sound is clear inside so_far below longest copied size =
    let within : n ≤ len - done = longest.within in
    let end : slot + len ≤ length before = inside (omega arith) in
    let same : length now ≡ length before = so_far.size in
    let row : host + n ≤ m.host_len = run-inside m (addr + done) (len - done) host n sound longest in
    IsAtRow-next (scattered_from m.regions) before slot addr len now new done n (scattering-in_order m.regions slot len sound.apart clear) so_far within
    (ap byte_in copied ∙ copy-scatters m.regions now (addr + done) host n (slot + done) sound.apart longest.run (omega arith) (omega arith)) size

-- buckets discard their bytes
pub scattered_from-buckets : (rs : List Region) (m : ℕ → ℕ) (slot len : ℕ) → AllPairs IsApart rs → m ≡ scattered_from rs (replicate len Bucket) slot m
scattered_from-buckets rs m slot len apart =
    sym (ap (λ (g : ℕ → ℕ). put_image rs g m) (scattered-buckets (image rs m) len (bytes_from m slot (length (replicate len Bucket))))
    ∙ put_image-own rs m apart)
