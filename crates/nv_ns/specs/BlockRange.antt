-- Which blocks are a guest's: a range of the disk's blocks, and whether blocks lie in a namespace.
use Rattle.std.specs.Prelude.{ℕ, ◌-◌, ◌≤◌, Bool, ◌&&◌, nat_le}

-- a range of the disk, of which a namespace has one or several: `blocks` blocks that lie from disk block `base` on (profile)
pub record Extent : Type 0 where
  pub base : ℕ
  pub blocks : ℕ

-- `count` blocks from block `slba` lie in a namespace of `blocks` blocks; otherwise the command is refused (NVM Command Set 1.0, LBA Out of Range)
abbrev pub InNamespace : ℕ → ℕ → ℕ → Type 0
InNamespace slba count blocks = (count ≤ blocks) × (slba ≤ blocks - count)

-- the same, as a test that computes
abbrev pub in_namespace : ℕ → ℕ → ℕ → Bool
in_namespace slba count blocks = nat_le count blocks && nat_le slba (blocks - count)
