-- An admin command without memory, and what comes of it.
use Rattle.std.proofs.Common.{ℕ, List}
use Rattle.nv_machine.specs.Doing.{Called, Doing}
use Rattle.nv_machine.specs.Effects.{Effect}
use Rattle.nv_machine.specs.Machine.{answered_with}
use Rattle.nv_model.specs.Admin.{AdminEffect}
use Rattle.nv_world_model.specs.Seat.{Owner}

abbrev pub no_memory : ℕ → ℕ
no_memory addr = 0

abbrev pub carried_by : AdminEffect → (cid : ℕ) → List Effect → Owner → Doing → Called
carried_by done cid effects o m = answered_with done.answer cid done.controller effects o m
