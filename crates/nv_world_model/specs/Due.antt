-- Which events a worker makes only where they are due, and when they are (profile)
use Rattle.std.specs.Prelude.{Bool, true, false, ◌&&◌}
use Rattle.nv_world_model.specs.declared.event.Event.{Event}
use Rattle.nv_world_model.specs.declared.event.Event.TheVariants as event
use Rattle.nv_world_model.specs.Geometry.{Geometry}
use Rattle.nv_world_model.specs.World.{World}
use Rattle.nv_world_model.specs.Step.{step, is_done}

-- whether an event is one that a worker makes only where it is due
abbrev pub is_due_kind : Event → Bool
is_due_kind (event.Admin guest) = true
is_due_kind (event.Take guest queue lane) = true
is_due_kind (event.DevTake lane) = true
is_due_kind (event.DevMove lane slot number) = true
is_due_kind (event.DevPost lane slot) = true
is_due_kind (event.Reap lane) = true
is_due_kind (event.Post lane tag) = true
is_due_kind _ = false

-- such an event is due where it would be done
unfoldable pub due : Geometry → Event → World → Bool
due geometry e w = is_due_kind e && is_done (step geometry e w).reply
