-- The physical controller as it is: where the mediator's area begins in the host's memory, the bytes of the blocks and their marks, and its lanes
-- (profile)
use Rattle.std.specs.Prelude.{ℕ, Bool, List}
use Rattle.nv_world_model.specs.Device.{DeviceLane}

pub record Physical : Type 0 where
  pub mediator : ℕ
  pub disk : List (List ℕ)
  pub kept : List Bool
  pub lanes : List DeviceLane
