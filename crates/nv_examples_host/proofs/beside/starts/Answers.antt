use Rattle.std.proofs.Common.{Bool, ap, arith, false, length, true, ℕ, ◌≡◌}
use Rattle.nv_model.specs.Memory.{byte_in, stored}
use Rattle.nv_world_model.specs.World.{World, opening_world}
use Rattle.nv_examples_host.proofs.beside.starts.Goals as goal

pub returns-clause-a_ring_that_is_not_clear : goal.returns-clause-a_ring_that_is_not_clear
unfolding byte_in stored opening_world
returns-clause-a_ring_that_is_not_clear c f = (let bad : ◌≡◌ {A = ℕ} 1 0 = f.clear 1 1039 (omega arith) (omega arith) in absurd (omega arith))

pub returns-clause-a_mark : goal.returns-clause-a_mark
unfolding byte_in stored opening_world
returns-clause-a_mark c f = (let bad : ◌≡◌ {A = Bool} true false = ap (λ (w : World). w.kept 0) f.world in absurd (cc))

pub returns-clause-another_set_up : goal.returns-clause-another_set_up
unfolding byte_in stored opening_world
returns-clause-another_set_up c f = (let bad : ◌≡◌ {A = ℕ} 2 1 = ap (λ (w : World). length w.lanes) f.world in absurd (omega arith))
