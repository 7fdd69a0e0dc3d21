-- A side that is lent a memory (profile).
use Rattle.std.specs.Prelude.{ℕ, List, length}
use Rattle.nv_laws_sound.specs.Side.{IsKept, Side}
use Rattle.nv_laws_sound.specs.LaidOut.{IsLaidOut}
use Rattle.nv_world_model.specs.Geometry.{Geometry}

-- the side is lent a memory in which guests and the mediator's area lie as the set-up has them
pub record IsLent (geometry : Geometry) (side : Side) (memory : List ℕ) : Type 0 where
  pub laid_out : IsLaidOut (length memory) (length side.lanes) geometry
  pub kept : IsKept geometry side
