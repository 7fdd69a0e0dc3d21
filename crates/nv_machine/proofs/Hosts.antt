-- Where the bytes of a guest's memory lie in the host.
use Rattle.std.proofs.Common.{◌≡◌, ℕ, zero, suc, ◌+◌, ◌-◌, ◌%◌, ◌<◌, ◌≤◌, true, List, map, Option, Some, None, is_some, arith, refl, ap, ◌∙◌, subst}
use Rattle.std.proofs.lemmas.Bool.Decides.{nat_tests}
use Rattle.std.proofs.lemmas.List.Elements.{All-cons, All-nil}
use Rattle.std.specs.List.{All, cons_option, range_with_len}
use Rattle.nv_machine.specs.Effects.{hosts_from}
use Rattle.nv_mem.specs.GuestMap.{IsPaged, IsSound, Mapping, all_mapped, covers, host_of, mapped}
use Rattle.nv_mem.specs.MapRuns.{AllMapped, IsContiguous}
use Rattle.nv_mem.specs.declared.region.Region.{Region}
use Rattle.nv_mem.proofs.Counts.{AllMapped-tested}
use Rattle.nv_mem.proofs.Images.{All-find, IsContiguous-front, IsContiguous-take, find-passes, host_of-found}
use Rattle.nv_model.specs.Memory.{bytes_from, image}
use Rattle.nv_model.proofs.PutImages.{image-mapped}

-- ---- the addresses of a run

-- the host address of a mapped address
pub host_of-mapped : (rs : List Region) (addr : ℕ) → mapped rs addr ≡ true → (at : ℕ) × (host_of rs addr ≡ Some at)
host_of-mapped rs addr there =
    (elim (host_of rs addr) as (λ o. is_some o ≡ true → (at : ℕ) × (o ≡ Some at)) [
      | None ↦ λ is. cc
      | Some at ↦ λ is. (at, refl)
    ]) there

-- the first of a run that is mapped, and those behind it
AllMapped-first : (rs : List Region) (addr len : ℕ) → AllMapped rs addr (suc len) → mapped rs addr ≡ true
AllMapped-first rs addr len each =
    let here : addr + 0 ≡ addr = omega arith in
    subst (λ (a : ℕ). mapped rs a ≡ true) here (each 0 (omega arith))

AllMapped-behind : (rs : List Region) (addr len : ℕ) → AllMapped rs addr (suc len) → AllMapped rs (addr + 1) len
AllMapped-behind rs addr len each = λ i below.
    let next : addr + suc i ≡ addr + 1 + i = omega arith in
    subst (λ (a : ℕ). mapped rs a ≡ true) next (each (suc i) (omega arith))

-- the host's bytes at the addresses of a run that is mapped
hosts-mapped : (rs : List Region) (addr len : ℕ) (host : ℕ → ℕ) → AllMapped rs addr len
    → map host (hosts_from rs addr len) ≡ bytes_from (image rs host) addr len
unfolding bytes_from
hosts-mapped rs addr zero host each = refl
hosts-mapped rs addr (suc len) host each =
    let found = host_of-mapped rs addr (AllMapped-first rs addr len each) in
    let next : addr + 1 ≡ suc addr = omega arith in
    let rest : map host (hosts_from rs (addr + 1) len) ≡ bytes_from (image rs host) (suc addr) len =
    hosts-mapped rs (addr + 1) len host (AllMapped-behind rs addr len each) ∙ ap (λ (a : ℕ). bytes_from (image rs host) a len) next in
    ap (λ (o : Option ℕ). map host (cons_option o (hosts_from rs (addr + 1) len))) found.1
    ∙ rw (image-mapped rs host addr found.0 found.1, rest) refl

-- are the guest's bytes there
pub hosts-read : (rs : List Region) (addr len : ℕ) (host : ℕ → ℕ) → all_mapped rs addr len ≡ true
    → map host (hosts_from rs addr len) ≡ bytes_from (image rs host) addr len
hosts-read rs addr len host there = hosts-mapped rs addr len host (AllMapped-tested rs addr len there)

-- addresses that lie in a row, one by one
hosts-each : (rs : List Region) (addr at len : ℕ) → ((i : ℕ) → i < len → host_of rs (addr + i) ≡ Some (at + i))
    → hosts_from rs addr len ≡ range_with_len at len
hosts-each rs addr at zero each = refl
hosts-each rs addr at (suc len) each =
    let from : addr ≡ addr + 0 = omega arith in
    let to : at + 0 ≡ at = omega arith in
    let here : host_of rs addr ≡ Some at = ap (host_of rs) from ∙ each 0 (omega arith) ∙ ap (λ (h : ℕ). Some h) to in
    let rest : hosts_from rs (addr + 1) len ≡ range_with_len (at + 1) len =
    hosts-each rs (addr + 1) (at + 1) len (λ i below.
    let from : addr + 1 + i ≡ addr + suc i = omega arith in
    let to : at + suc i ≡ at + 1 + i = omega arith in
    ap (host_of rs) from ∙ each (suc i) (omega arith) ∙ ap (λ (h : ℕ). Some h) to) in
    rw (here, rest) refl

-- are the row's
pub hosts-row : (rs : List Region) (addr at len : ℕ) → IsContiguous rs addr at len → hosts_from rs addr len ≡ range_with_len at len
hosts-row rs addr at len run = hosts-each rs addr at len run.contiguous

-- each host address of a run is one of the guest's memory
pub hosts-own : (rs : List Region) (addr len : ℕ) → All (λ (at : ℕ). (guest : ℕ) × (host_of rs guest ≡ Some at)) (hosts_from rs addr len)
hosts-own rs addr zero = All-nil (λ (at : ℕ). (guest : ℕ) × (host_of rs guest ≡ Some at))
hosts-own rs addr (suc len) =
    let Own : ℕ → Type 0 = λ at. (guest : ℕ) × (host_of rs guest ≡ Some at) in
    let rest : All Own (hosts_from rs (addr + 1) len) = hosts-own rs (addr + 1) len in
    (elim (host_of rs addr) as (λ o. host_of rs addr ≡ o → All Own (cons_option o (hosts_from rs (addr + 1) len))) [
      | None ↦ λ is. rest
      | Some at ↦ λ is. All-cons Own at (hosts_from rs (addr + 1) len) (addr, is) rest
    ]) refl

-- ---- what lies in one page lies in one region

-- a region of whole pages has all of a page that it has an address of
region-page : (r : Region) (addr len : ℕ) → IsPaged r → covers r addr ≡ true → addr % 4096 + len ≤ 4096 → len ≤ r.len - (addr - r.guest)
region-page r addr len paged covered within =
    let guest : r.guest % 4096 ≡ 0 = paged.guest in
    let whole : r.len % 4096 ≡ 0 = paged.len in
    let low : r.guest ≤ addr = grind (arith, nat_tests) in
    let high : addr < r.guest + r.len = grind (arith, nat_tests) in
    omega arith

-- so bytes within a page lie in a row
pub row-in-page : (m : Mapping) (addr len : ℕ) → IsSound m → 0 < len → addr % 4096 + len ≤ 4096 → all_mapped m.regions addr len ≡ true
    → (at : ℕ) × IsContiguous m.regions addr at len
row-in-page m addr len sound some within there =
    let here : addr + 0 ≡ addr = omega arith in
    let first : mapped m.regions addr ≡ true = subst (λ (a : ℕ). mapped m.regions a ≡ true) here (AllMapped-tested m.regions addr len there 0 some) in
    let at = host_of-mapped m.regions addr first in
    let found = host_of-found m.regions addr at.0 at.1 in
    let r : Region = found.0 in
    let paged : IsPaged r = All-find IsPaged (λ s. covers s addr) m.regions r sound.paged found.1 in
    let covered : covers r addr ≡ true = find-passes (λ s. covers s addr) m.regions r found.1 in (
      r.host + (addr - r.guest),
      IsContiguous-take m.regions addr (r.host + (addr - r.guest)) (r.len - (addr - r.guest)) len (IsContiguous-front m.regions r addr sound.apart found.1) some
          (region-page r addr len paged covered within),
    )
