use Rattle.std.proofs.Common.{◌≡◌, replicate}
use Rattle.nv_model.specs.Controller.{opening}
use Rattle.nv_core.proofs.opening.opening_controllers.Given as goal

abbrev pub invariant-loop-guest : goal.invariant-loop-guest
invariant-loop-guest l = l.controllers.items ≡ replicate l._guest opening
