-- Lemmas on runs of mapped addresses.
use Rattle.std.proofs.Common.{◌≡◌, ℕ, zero, suc, ◌+◌, ◌-◌, ◌<◌, ◌≤◌, ◌^◌, ◌⊎◌, true}
use Rattle.std.proofs.Common.{false, List, None, Some, is_some, eqb, refl, sym, ap, ◌∙◌, subst, arith, inl, inr}
use Rattle.std.proofs.lemmas.Bool.{cases_lt}
use Rattle.std.proofs.lemmas.Bool.Decides.{nat_tests}
use Rattle.nv_mem.specs.declared.region.Region.{Region}
use Rattle.nv_mem.specs.GuestMap.{all_mapped, IsSound, Mapping, everywhere, host_of, mapped, span_met}
use Rattle.nv_mem.specs.MapRuns.{AllMapped, InImage, IsContiguous, IsLongestRun}
use Rattle.nv_mem.proofs.Counts.{AllMapped-tested}
use Rattle.nv_mem.proofs.Memory.{span_met-image}
use Rattle.nv_mem.proofs.Images.{IsContiguous-inside, host_of-high}

-- an address of a run that is mapped has a host address
pub mapped-none : (rs : List Region) (addr len i : ℕ) → everywhere (mapped rs) addr len ≡ true → i < len → host_of rs (addr + i) ≡ None → ⊥
mapped-none rs addr len i all below none =
    let is : is_some (host_of rs (addr + i)) ≡ true = AllMapped-tested rs addr len all i below in
    let not : is_some (host_of rs (addr + i)) ≡ is_some {T = ℕ} None = ap (λ o. is_some o) none in
    cc

-- so a range with an address that has none is not mapped
pub all_mapped-gap : (rs : List Region) (addr len i : ℕ) → i < len → host_of rs (addr + i) ≡ None → all_mapped rs addr len ≡ false
all_mapped-gap rs addr len i below none =
    (elim (all_mapped rs addr len) as (λ b. all_mapped rs addr len ≡ b → b ≡ false) [
      | true ↦ λ all. absurd (mapped-none rs addr len i all below none)
      | false ↦ λ _. refl
    ]) refl

-- and where the first address has none, no range is mapped but the empty one
pub all_mapped-none : (rs : List Region) (addr len : ℕ) → host_of rs addr ≡ None → eqb len 0 ≡ all_mapped rs addr len
unfolding everywhere
all_mapped-none rs addr zero none = refl
all_mapped-none rs addr (suc n) none =
    let P : ℕ → Type 0 = λ at. host_of rs at ≡ None in
    let same : addr ≡ addr + 0 = omega arith in
    let gap : all_mapped rs addr (suc n) ≡ false = all_mapped-gap rs addr (suc n) 0 (omega arith) (subst P same none) in
    let some : eqb (suc n) 0 ≡ false = grind (arith, nat_tests) in
    some ∙ sym gap

-- mapped addresses and the front of a run behind them are mapped
pub AllMapped-more : (rs : List Region) (addr done host n k : ℕ) → AllMapped rs addr done → IsContiguous rs (addr + done) host n → k ≤ n → AllMapped rs addr (done + k)
AllMapped-more rs addr done host n k all run within = λ i below.
    elim (cases_lt i done) [
      | inl low ↦ all i low
      | inr high ↦
          let at : host_of rs (addr + done + (i - done)) ≡ Some (host + (i - done)) = run.contiguous (i - done) (omega arith) in
          let same : addr + done + (i - done) ≡ addr + i = omega arith in
          let is : host_of rs (addr + i) ≡ Some (host + (i - done)) = cc in
          ap (λ o. is_some o) is
    ]

-- the front of a run is mapped
pub AllMapped-run : (rs : List Region) (addr host n k : ℕ) → IsContiguous rs addr host n → k ≤ n → AllMapped rs addr k
AllMapped-run rs addr host n k run within = λ i below.
    let is : host_of rs (addr + i) ≡ Some (host + i) = run.contiguous i (omega arith) in ap (λ o. is_some o) is

-- so it is below 2 to the 64
pub mapped-below : (m : Mapping) (addr len i : ℕ) → IsSound m → everywhere (mapped m.regions) addr len ≡ true → i < len → addr + i < 2 ^ 64
mapped-below m addr len i sound all below =
    elim (cases_lt (addr + i) (2 ^ 64)) [
      | inl fits ↦ fits
      | inr high ↦ absurd (mapped-none m.regions addr len i all below (host_of-high m.host_len m.regions (addr + i) sound.inside high))
    ]

-- a run that is there ends in the host
pub run-inside : (m : Mapping) (addr len host n : ℕ) → IsSound m → IsLongestRun m.regions addr len host n → host + n ≤ m.host_len
run-inside m addr len host n sound longest = IsContiguous-inside m.host_len m.regions addr host n sound.inside longest.run

-- a run of a map and a part of a span that meets no region don't meet
pub run-apart : (rs : List Region) (addr from n slot len at : ℕ) → span_met rs slot len ≡ false → IsContiguous rs addr from n → slot ≤ at → at + n ≤ slot + len
    → (from + n ≤ at) ⊎ (at + n ≤ from)
run-apart rs addr from n slot len at clear run low high =
    elim (cases_lt at (from + n)) [
      | inr before ↦ inl before
      | inl starts ↦ elim (cases_lt from (at + n)) [
        | inr behind ↦ inr behind
        | inl ends ↦ elim (cases_lt at from) [
          | inl later ↦ (let first : InImage rs (from + 0) = (addr + 0, run.contiguous 0 run.nonempty) in
              absurd (span_met-image rs slot len (from + 0) clear first (omega arith) (omega arith)))
          | inr earlier ↦ (let inside : at - from < n = omega arith in
              let met : InImage rs (from + (at - from)) = (addr + (at - from), run.contiguous (at - from) inside) in
              absurd (span_met-image rs slot len (from + (at - from)) clear met (omega arith) (omega arith)))
        ]
      ]
    ]

-- the longest run that is there and the same part of a span that meets no region don't meet
pub longest-apart : (rs : List Region) (addr len done from n slot : ℕ) → span_met rs slot len ≡ false → IsLongestRun rs (addr + done) (len - done) from n → done < len
    → (from + n ≤ slot + done) ⊎ (slot + done + n ≤ from)
longest-apart rs addr len done from n slot clear longest less =
    let most = longest.within in
    let fits : slot + done + n ≤ slot + len = omega arith in
    run-apart rs (addr + done) from n slot len (slot + done) clear longest.run (omega arith) fits
