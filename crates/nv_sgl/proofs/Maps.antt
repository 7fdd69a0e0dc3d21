-- Lemmas on the addresses of a guest's map.
use Rattle.std.proofs.Common.{◌≡◌, ℕ, ◌+◌, ◌-◌, ◌<◌, ◌≤◌, ◌^◌, true, None, is_some, arith, ap, inl, inr}
use Rattle.std.proofs.lemmas.Bool.{cases_lt}
use Rattle.nv_mem.proofs.Images.{host_of-high}
use Rattle.nv_mem.specs.GuestMap.{Mapping, IsSound, host_of}
use Rattle.nv_mem.specs.MapRuns.{AllMapped}

-- addresses that are mapped, at least one, end at 2 to the 64 at the latest
pub AllMapped-end : (m : Mapping) (addr len : ℕ) → IsSound m → AllMapped m.regions addr len → 0 < len
    → addr + len ≤ 2 ^ 64
AllMapped-end m addr len sound all some =
    elim (cases_lt (2 ^ 64) (addr + len)) [
      | inl high ↦
          let last : ℕ = addr + (len - 1) in
          let none : host_of m.regions last ≡ None = host_of-high m.host_len m.regions last sound.inside (omega arith) in
          let is : is_some (host_of m.regions last) ≡ true = all (len - 1) (omega arith) in
          let not : is_some (host_of m.regions last) ≡ is_some {T = ℕ} None = ap (λ o. is_some o) none in
          cc
      | inr fits ↦ fits
    ]
