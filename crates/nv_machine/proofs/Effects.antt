-- What effects come to in the host's memory.
use Rattle.std.proofs.Common.{◌≡◌, ℕ, suc, ◌+◌, ◌%◌, ◌<◌, ◌≤◌, ◌⊎◌, inl, inr, true, false, List, [], ◌∷◌, ◌++◌, length, take, drop}
use Rattle.std.proofs.Common.{Option, Some, None, is_some, arith, refl, sym, ap, ◌∙◌, subst}
use Rattle.std.proofs.lemmas.Bool.{cases_lt}
use Rattle.std.proofs.lemmas.List.{length-take-le, take-append-drop}
use Rattle.std.proofs.lemmas.List.Elements.{All-head, All-tail}
use Rattle.std.specs.List.{All, AllPairs}
use mathlib.Core.Path.{fun_ext}
use Rattle.nv_bounce.specs.Bounce.{gathered_to, scattered_from}
use Rattle.nv_bounce.proofs.Gathered.{gathered_to-append}
use Rattle.nv_bounce.proofs.Scattered.{scattered_from-append, stored-row_at}
use Rattle.nv_machine.specs.Effects.{Effect, Store, Copy, completion_stores, copies_from, copies_to, copy_from, copy_to, effect_on, effects_on, host_of_place, store_at, stores, writes_to}
use Rattle.nv_machine.proofs.Hosts.{row-in-page}
use Rattle.nv_mem.specs.GuestMap.{IsApart, IsSound, Mapping, all_mapped, host_of, mapped, span_met}
use Rattle.nv_mem.specs.MapRuns.{IsContiguous}
use Rattle.nv_mem.specs.Places.{At, Bucket, Place, addresses}
use Rattle.nv_mem.specs.declared.region.Region.{Region}
use Rattle.nv_mem.proofs.Memory.{span_met-part}
use Rattle.nv_model.specs.Memory.{byte_at_host, bytes_from, gathered, image, put_image, scattered, stored}
use Rattle.nv_model.proofs.MemoryAlike.{scattered-at}
use Rattle.nv_model.proofs.MemoryLemmas.{scattered-addresses, scattered-append, stored-append, stored-nil, stored-outside}
use Rattle.nv_model.proofs.PutImages.{image-put_image, put_image-own, put_image-twice}

-- ---- effects in order

-- some effects, and then others
pub effects_on-append : (xs ys : List Effect) (host : ℕ → ℕ) → effects_on (xs ++ ys) host ≡ effects_on ys (effects_on xs host)
unfolding effects_on
effects_on-append [] ys host = refl
effects_on-append (x ∷ xs) ys host = effects_on-append xs ys (effect_on x host)

-- an effect leaves a byte that it does not write
effect_on-elsewhere : (effect : Effect) (host : ℕ → ℕ) (at : ℕ) → writes_to effect at ≡ false → effect_on effect host at ≡ host at
unfolding stored
effect_on-elsewhere (Store to bytes) host at other = rw other refl
effect_on-elsewhere (Copy from to) host at other = rw other refl

-- so do several
pub effects_on-elsewhere : (effects : List Effect) (host : ℕ → ℕ) (at : ℕ) → All (λ (e : Effect). writes_to e at ≡ false) effects
    → effects_on effects host at ≡ host at
unfolding effects_on
effects_on-elsewhere [] host at other = refl
effects_on-elsewhere (e ∷ effects) host at other =
    effects_on-elsewhere effects (effect_on e host) at (All-tail (λ (x : Effect). writes_to x at ≡ false) e effects other)
    ∙ effect_on-elsewhere e host at (All-head (λ (x : Effect). writes_to x at ≡ false) e effects other)

-- ---- bytes that are stored in a guest's memory

-- of a memory that is put back only what is mapped counts
put_image-mapped : (rs : List Region) (first second host : ℕ → ℕ) → AllPairs IsApart rs → ((addr : ℕ) → mapped rs addr ≡ true → first addr ≡ second addr)
    → put_image rs first host ≡ put_image rs second host
put_image-mapped rs first second host apart each =
    ap (put_image rs first) (sym (put_image-own rs host apart)) ∙ put_image-twice rs (image rs host) first second host apart each

-- bytes that lie in a row in the host
pub stored-row : (rs : List Region) (addr at : ℕ) (bytes : List ℕ) (host : ℕ → ℕ) → AllPairs IsApart rs → IsContiguous rs addr at (length bytes)
    → stored host at bytes ≡ put_image rs (stored (image rs host) addr bytes) host
stored-row rs addr at bytes host apart run = fun_ext (λ a. stored-row_at rs host addr at bytes a apart run)

-- one byte lies in a row
row-one : (rs : List Region) (addr at : ℕ) → host_of rs addr ≡ Some at → IsContiguous rs addr at 1
row-one rs addr at there = record {
  nonempty = omega arith;
  contiguous = λ i below.
      let guest : addr + i ≡ addr = omega arith in
      let to : at ≡ at + i = omega arith in
      ap (host_of rs) guest ∙ there ∙ ap (λ (h : ℕ). Some h) to;
}

-- an address that is mapped is not one that is nowhere
mapped-other : (rs : List Region) (addr a : ℕ) → host_of rs addr ≡ None → mapped rs a ≡ true → (a < addr) ⊎ (addr + 1 ≤ a)
mapped-other rs addr a nowhere there =
    elim (cases_lt a addr) [
      | inl low ↦ inl low
      | inr from ↦ elim (cases_lt addr a) [
        | inl high ↦ inr (omega arith)
        | inr to ↦
            let same : addr ≡ a = omega arith in
            let none : is_some (host_of rs a) ≡ is_some {T = ℕ} None = ap (λ (o : Option ℕ). is_some o) (ap (host_of rs) (sym same) ∙ nowhere) in
            cc
      ]
    ]

-- a byte that is stored at a place
store_at-scatters : (rs : List Region) (place : Place) (byte : ℕ) (host : ℕ → ℕ) → AllPairs IsApart rs
    → effects_on (store_at (host_of_place rs place) (byte ∷ [])) host ≡ put_image rs (scattered (image rs host) (place ∷ []) (byte ∷ [])) host
unfolding effects_on scattered
store_at-scatters rs Bucket byte host apart = sym (put_image-own rs host apart)
store_at-scatters rs (At addr) byte host apart =
    (elim (host_of rs addr) as (λ o. host_of rs addr ≡ o → effects_on (store_at o (byte ∷ [])) host ≡ put_image rs (stored (image rs host) addr (byte ∷ [])) host) [
      | None ↦ λ nowhere.
          sym (put_image-own rs host apart)
          ∙ put_image-mapped rs (image rs host) (stored (image rs host) addr (byte ∷ [])) host apart
          (λ a there. sym (stored-outside (image rs host) addr (byte ∷ []) a (mapped-other rs addr a nowhere there)))
      | Some at ↦ λ there. stored-row rs addr at (byte ∷ []) host apart (row-one rs addr at there)
    ]) refl

-- what is scattered to a place and then to others
scattered-next : (rs : List Region) (place : Place) (places : List Place) (byte : ℕ) (bytes : List ℕ) (host : ℕ → ℕ) → AllPairs IsApart rs
    → let now : ℕ → ℕ = put_image rs (scattered (image rs host) (place ∷ []) (byte ∷ [])) host in
    put_image rs (scattered (image rs now) places bytes) now ≡ put_image rs (scattered (image rs host) (place ∷ places) (byte ∷ bytes)) host
scattered-next rs place places byte bytes host apart =
    let one : ℕ → ℕ = scattered (image rs host) (place ∷ []) (byte ∷ []) in
    let now : ℕ → ℕ = put_image rs one host in
    put_image-twice rs one (scattered (image rs now) places bytes) (scattered one places bytes) host apart
    (λ addr there. scattered-at (image rs now) one places bytes addr (image-put_image rs one host addr apart there))
    ∙ ap (λ (g : ℕ → ℕ). put_image rs g host) (sym (scattered-append (image rs host) (place ∷ []) places (byte ∷ []) bytes refl))

-- bytes that are stored at places are scattered in the guest's memory
pub stores-scatter : (rs : List Region) (places : List Place) (bytes : List ℕ) (host : ℕ → ℕ) → AllPairs IsApart rs
    → effects_on (stores rs places bytes) host ≡ put_image rs (scattered (image rs host) places bytes) host
unfolding effects_on scattered
stores-scatter rs [] bytes host apart = sym (put_image-own rs host apart)
stores-scatter rs (place ∷ places) [] host apart = sym (put_image-own rs host apart)
stores-scatter rs (place ∷ places) (byte ∷ bytes) host apart =
    let now : ℕ → ℕ = put_image rs (scattered (image rs host) (place ∷ []) (byte ∷ [])) host in
    effects_on-append (store_at (host_of_place rs place) (byte ∷ [])) (stores rs places bytes) host
    ∙ ap (effects_on (stores rs places bytes)) (store_at-scatters rs place byte host apart)
    ∙ stores-scatter rs places bytes now apart
    ∙ scattered-next rs place places byte bytes host apart

-- and those of a guest's own store are stored there
pub stores-stored : (rs : List Region) (addr : ℕ) (bytes : List ℕ) (host : ℕ → ℕ) → AllPairs IsApart rs
    → effects_on (stores rs (addresses addr (length bytes)) bytes) host ≡ put_image rs (stored (image rs host) addr bytes) host
stores-stored rs addr bytes host apart =
    stores-scatter rs (addresses addr (length bytes)) bytes host apart
    ∙ ap (λ (g : ℕ → ℕ). put_image rs g host) (scattered-addresses (image rs host) addr bytes)

-- ---- bytes that are copied to a guest's memory, and from it

-- a byte that is copied is one that is stored
copy_to-stores : (from : ℕ) (to : Option ℕ) (host : ℕ → ℕ) → effects_on (copy_to from to) host ≡ effects_on (store_at to (host from ∷ [])) host
unfolding effects_on
copy_to-stores from None host = refl
copy_to-stores from (Some to) host = refl

-- to a place
copy_to-scatters : (rs : List Region) (place : Place) (from : ℕ) (host : ℕ → ℕ) → AllPairs IsApart rs
    → effects_on (copy_to from (host_of_place rs place)) host ≡ scattered_from rs (place ∷ []) from host
unfolding bytes_from
copy_to-scatters rs place from host apart =
    copy_to-stores from (host_of_place rs place) host ∙ store_at-scatters rs place (host from) host apart

-- bytes that are copied to places are scattered there
pub copies-scatter : (rs : List Region) (places : List Place) (from : ℕ) (host : ℕ → ℕ) → AllPairs IsApart rs → span_met rs from (length places) ≡ false
    → effects_on (copies_to rs from places) host ≡ scattered_from rs places from host
unfolding effects_on scattered
copies-scatter rs [] from host apart clear = sym (put_image-own rs host apart)
copies-scatter rs (place ∷ places) from host apart clear =
    let next : suc from ≡ from + 1 = omega arith in
    let behind : span_met rs (from + 1) (length places) ≡ false =
    span_met-part rs from (length (place ∷ places)) (from + 1) (length places) clear (omega arith) (omega arith) in
    let rest : span_met rs (suc from) (length places) ≡ false = ap (λ (a : ℕ). span_met rs a (length places)) next ∙ behind in
    effects_on-append (copy_to from (host_of_place rs place)) (copies_to rs (suc from) places) host
    ∙ ap (effects_on (copies_to rs (suc from) places)) (copy_to-scatters rs place from host apart)
    ∙ copies-scatter rs places (suc from) (scattered_from rs (place ∷ []) from host) apart rest
    ∙ ap (λ (a : ℕ). scattered_from rs places a (scattered_from rs (place ∷ []) from host)) next
    ∙ scattered_from-append rs host (place ∷ []) places from apart behind

-- a byte that is copied from a place
copy_from-gathers : (rs : List Region) (place : Place) (to : ℕ) (host : ℕ → ℕ)
    → effect_on (copy_from to (host_of_place rs place)) host ≡ gathered_to rs (place ∷ []) to host
unfolding gathered image
copy_from-gathers rs Bucket to host = refl
copy_from-gathers rs (At addr) to host =
    elim (host_of rs addr) as (λ o. effect_on (copy_from to o) host ≡ stored host to (byte_at_host host o ∷ [])) [ None ↦ refl | Some from ↦ refl ]

-- bytes that are copied from places are gathered there
pub copies-gather : (rs : List Region) (places : List Place) (to : ℕ) (host : ℕ → ℕ) → span_met rs to (length places) ≡ false
    → effects_on (copies_from rs places to) host ≡ stored host to (gathered (image rs host) places)
unfolding effects_on gathered
copies-gather rs [] to host clear = sym (stored-nil host to)
copies-gather rs (place ∷ places) to host clear =
    let next : suc to ≡ to + 1 = omega arith in
    let front : span_met rs to 1 ≡ false = span_met-part rs to (length (place ∷ places)) to 1 clear (omega arith) (omega arith) in
    let rest : span_met rs (suc to) (length places) ≡ false =
    span_met-part rs to (length (place ∷ places)) (suc to) (length places) clear (omega arith) (omega arith) in
    ap (effects_on (copies_from rs places (suc to))) (copy_from-gathers rs place to host)
    ∙ copies-gather rs places (suc to) (gathered_to rs (place ∷ []) to host) rest
    ∙ ap (λ (a : ℕ). gathered_to rs places a (gathered_to rs (place ∷ []) to host)) next
    ∙ gathered_to-append rs host (place ∷ []) places to front

-- ---- a completion

-- the two stores of a completion that lies in a row
completion_stores-row : (rs : List Region) (addr at : ℕ) (entry : List ℕ) (host : ℕ → ℕ) → length entry ≡ 16 → IsContiguous rs addr at 16
    → effects_on (completion_stores rs addr entry) host ≡ stored host at entry
unfolding effects_on
completion_stores-row rs addr at entry host size run =
    let from : addr ≡ addr + 0 = omega arith in
    let to : at + 0 ≡ at = omega arith in
    let first : host_of rs addr ≡ Some at = ap (host_of rs) from ∙ run.contiguous 0 (omega arith) ∙ ap (λ (h : ℕ). Some h) to in
    let second : host_of rs (addr + 12) ≡ Some (at + 12) = run.contiguous 12 (omega arith) in
    let twelve : 12 ≡ length (take 12 entry) = sym (length-take-le 12 entry (omega arith)) in
    ap (λ (o : Option ℕ). effects_on (store_at o (take 12 entry) ++ store_at (host_of rs (addr + 12)) (drop 12 entry)) host) first
    ∙ ap (λ (o : Option ℕ). effects_on (store_at o (drop 12 entry)) (stored host at (take 12 entry))) second
    ∙ ap (λ (n : ℕ). stored (stored host at (take 12 entry)) (at + n) (drop 12 entry)) twelve
    ∙ stored-append host at (take 12 entry) (drop 12 entry)
    ∙ ap (stored host at) (take-append-drop 12 entry)

-- an entry of 16 bytes at a multiple of 16 does not cross a page
pub page-of-entry : (addr : ℕ) → addr % 16 ≡ 0 → addr % 4096 + 16 ≤ 4096
page-of-entry addr aligned = omega arith

-- a completion is stored in the guest's memory
pub completion-stored : (m : Mapping) (addr : ℕ) (entry : List ℕ) (host : ℕ → ℕ) → IsSound m → addr % 16 ≡ 0 → length entry ≡ 16
    → all_mapped m.regions addr 16 ≡ true
    → effects_on (completion_stores m.regions addr entry) host ≡ put_image m.regions (stored (image m.regions host) addr entry) host
completion-stored m addr entry host sound aligned size there =
    let row = row-in-page m addr 16 sound (omega arith) (page-of-entry addr aligned) there in
    completion_stores-row m.regions addr row.0 entry host size row.1
    ∙ stored-row m.regions addr row.0 entry host sound.apart (subst (λ (n : ℕ). IsContiguous m.regions addr row.0 n) (sym size) row.1)
