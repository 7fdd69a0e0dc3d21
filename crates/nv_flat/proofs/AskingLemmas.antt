-- Where a list asks, in a memory whose addresses are the guest's own
use Rattle.std.proofs.Common.{◌≡◌, ℕ, ◌+◌, ◌-◌, ◌<◌, ◌≤◌, true, arith}
use Rattle.std.proofs.lemmas.Bool.Decides.{nat_tests}
use Rattle.nv_mem.specs.GuestMap.{mapped}
use Rattle.nv_model.proofs.Asking.{IsMappedFrom}
use Rattle.nv_flat.specs.Flat.{identity_map}

-- what is mapped in a memory whose addresses are the guest's own lies in it
pub mapped-inside : (size addr len : ℕ) → 0 < len → IsMappedFrom (mapped (identity_map size).regions) addr len
    → addr + len ≤ size
mapped-inside size addr len some there =
    let last = there (len - 1) (omega arith) in
    let at : addr + (len - 1) < size = below size (addr + (len - 1)) last in
    omega arith
  where
    below : (size at : ℕ) → mapped (identity_map size).regions at ≡ true → at < size
    below size at is = grind (arith, nat_tests)
