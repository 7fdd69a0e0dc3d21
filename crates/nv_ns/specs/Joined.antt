-- The extents of a namespace that are stored in place, and how many blocks they have.
use Rattle.std.specs.Prelude.{◌≡◌, ℕ, IsTrue, take}
use Rattle.nv_ns.specs.Extents.{Namespace, blocks_in, is_namespace}
use Rattle.nv_ns.specs.Filled.{IsFilled, nowhere}

-- `len` extents in front are a namespace of that many blocks
pub record AreJoined (extents : Namespace) (len number : ℕ) : Type 0 where
  pub filled : IsFilled nowhere extents len
  pub blocks : blocks_in (take len extents) ≡ number
  pub kept : IsTrue (is_namespace (take len extents))
