-- The map of a guest whose addresses are the memory's own
use Rattle.std.proofs.Common.{◌≡◌, ℕ, ◌%◌, ◌<◌, ◌^◌, None, arith}
use Rattle.std.proofs.lemmas.Bool.Decides.{nat_tests}
use Rattle.nv_mem.specs.MapRefusal.{refusal_of}
use Rattle.nv_flat.specs.Flat.{identity_map}

-- the map is not refused
pub refusal_of-identity : (len : ℕ) → len % 4096 ≡ 0 → 0 < len → len < 2 ^ 64
    → refusal_of len (identity_map len).regions ≡ None
unfolding refusal_of
refusal_of-identity len pages some fits = grind (arith, nat_tests)
