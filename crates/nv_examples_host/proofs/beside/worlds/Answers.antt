use Rattle.std.proofs.Common.{Bool, List, ap, arith, false, length, refl, slice_get, true, ℕ, ◌≡◌}
use Rattle.std.specs.Prelude.{slice_index}
use Rattle.nv_core.specs.Held.{held_in}
use Rattle.nv_examples_host.proofs.Probes.{first_phase, is_sixth_in_ring}
use Rattle.nv_model.specs.Controller.{Controller}
use Rattle.nv_model.specs.Memory.{byte_in}
use Rattle.nv_world_model.specs.World.{Lane}
use Rattle.nv_examples_host.proofs.beside.worlds.Goals as goal

pub returns-clause-wherever_parts_are : goal.returns-clause-wherever_parts_are
unfolding byte_in
returns-clause-wherever_parts_are c = record { host = refl; lanes = refl; controllers = refl; tails = refl }

pub returns-clause-with_their_places : goal.returns-clause-with_their_places
unfolding byte_in
returns-clause-with_their_places c p = (let bad : ◌≡◌ {A = Bool} false true = ap is_sixth_in_ring p.lanes in absurd (cc))

pub returns-clause-another_byte : goal.returns-clause-another_byte
unfolding byte_in
returns-clause-another_byte c p = (let bad : ◌≡◌ {A = ℕ} 0 7 = ap (λ (f : ℕ → ℕ). f 0) p.host in absurd (omega arith))

pub returns-clause-other_tags : goal.returns-clause-other_tags
unfolding byte_in
returns-clause-other_tags c p = (let bad : ◌≡◌ {A = ℕ} 3 0 = ap (λ (ls : List Lane). held_in 0 (slice_get ls 0)) p.lanes in absurd (omega arith))

pub returns-clause-another_phase : goal.returns-clause-another_phase
unfolding byte_in
returns-clause-another_phase c p = (let bad : ◌≡◌ {A = Bool} true false = ap first_phase p.lanes in absurd (cc))

pub returns-clause-other_controllers : goal.returns-clause-other_controllers
unfolding byte_in
returns-clause-other_controllers c p = (let bad : ◌≡◌ {A = ℕ} 0 1 = ap (λ (xs : List Controller). length xs) p.controllers in absurd (omega arith))

pub returns-clause-another_tail : goal.returns-clause-another_tail
unfolding byte_in
returns-clause-another_tail c p = (let bad : ◌≡◌ {A = ℕ} 5 6 = ap (λ (xs : List ℕ). slice_index xs 0) p.tails in absurd (omega arith))
