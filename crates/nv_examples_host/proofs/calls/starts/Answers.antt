use Rattle.std.proofs.Common.{Bool, List, [], ap, arith, false, inl, inr, true, ℕ, ◌<◌, ◌∷◌, ◌≡◌}
use Rattle.std.specs.Prelude.{slice_index}
use Rattle.nv_model.specs.Memory.{byte_in}
use Rattle.nv_world_model.specs.Rows.{numbered}
use Rattle.nv_world_model.specs.SetUp.{SetUp}
use Rattle.nv_world_model.specs.World.{opening_world}
use Rattle.nv_examples_host.proofs.calls.starts.Goals as goal

pub returns-clause-another_set_up : goal.returns-clause-another_set_up
unfolding byte_in opening_world
returns-clause-another_set_up c s = (let bad : ◌≡◌ {A = ℕ} 1 2 = ap (λ (x : SetUp). x.lanes) s.setup in absurd (omega arith))

pub returns-clause-a_lane_closed : goal.returns-clause-a_lane_closed
unfolding byte_in opening_world
returns-clause-a_lane_closed c s = (let bad : ◌≡◌ {A = List Bool} (false ∷ true ∷ []) (false ∷ false ∷ []) = s.closed in absurd (cc))

pub returns-clause-another_share : goal.returns-clause-another_share
unfolding byte_in opening_world
returns-clause-another_share c s = (let bad : ◌≡◌ {A = ℕ} 31 30 = ap (λ (xs : List ℕ). slice_index xs 1) s.spare in absurd (omega arith))

pub returns-clause-another_side : goal.returns-clause-another_side
unfolding byte_in opening_world
returns-clause-another_side c s = (let bad : ◌≡◌ {A = ℕ} 0 1 = ap (λ (xs : List ℕ). slice_index xs 0) (s.led numbered).beside.tails in absurd (omega arith))

pub returns-clause-a_ring_that_is_not_clear : goal.returns-clause-a_ring_that_is_not_clear
unfolding byte_in opening_world
returns-clause-a_ring_that_is_not_clear c s = (let bad : ◌≡◌ {A = ℕ} 1 0 = (s.led numbered).starts.clear 0 0 (omega arith) (omega arith) in absurd (omega arith))

pub returns-clause-a_byte_before_the_rings : goal.returns-clause-a_byte_before_the_rings
unfolding byte_in opening_world
returns-clause-a_byte_before_the_rings c a = (let bad : ◌≡◌ {A = ℕ} 7 0 = a 0 (λ (lane : ℕ) there. inl (omega arith)) in absurd (omega arith))

pub returns-clause-the_byte_before_the_rings : goal.returns-clause-the_byte_before_the_rings
unfolding byte_in opening_world
returns-clause-the_byte_before_the_rings c a = (let bad : ◌≡◌ {A = ℕ} 7 0 = a 8191 (λ (lane : ℕ) there. inl (omega arith)) in absurd (omega arith))

pub returns-clause-the_byte_after_the_rings : goal.returns-clause-the_byte_after_the_rings
unfolding byte_in opening_world
returns-clause-the_byte_after_the_rings c a = (let bad : ◌≡◌ {A = ℕ} 7 0 = a 9232 (λ (lane : ℕ) (there : lane < 1). inr (omega (arith, there))) in absurd (omega arith))
