-- Lemmas on `InNamespace` and its test, and on a namespace of one extent, for this crate and those above it.
use Rattle.std.proofs.Common.{◌≡◌, ℕ, ◌+◌, ◌<◌, true, [], ◌∷◌, arith}
use Rattle.std.proofs.lemmas.Grind.{common_steps}
use Rattle.nv_ns.specs.BlockRange.{Extent, InNamespace, in_namespace}
use Rattle.nv_ns.specs.Extents.{blocks_in}

-- a range that passes the test is in the namespace
pub InNamespace-tested : (slba count blocks : ℕ) → in_namespace slba count blocks ≡ true → InNamespace slba count blocks
InNamespace-tested slba count blocks passed = grind (arith, common_steps)

-- a range in the namespace passes the test
pub in_namespace-true : (slba count blocks : ℕ) → InNamespace slba count blocks → in_namespace slba count blocks ≡ true
in_namespace-true slba count blocks inside = grind (arith, common_steps)

-- each block of a range in the namespace is in it
pub block_below : (slba count blocks i : ℕ) → InNamespace slba count blocks → i < count → slba + i < blocks
block_below slba count blocks i inside below = omega arith

-- a namespace of one extent has its blocks
pub blocks_in-one : (extent : Extent) → blocks_in (extent ∷ []) ≡ extent.blocks
blocks_in-one extent = omega arith
