use Rattle.std.proofs.Common.{arith, inl, inr, refl, ℕ, ◌≡◌}
use Rattle.nv_model.specs.Memory.{byte_in}
use Rattle.nv_examples_host.proofs.closes.bytes.Goals as goal

pub returns-clause-longer : goal.returns-clause-longer
unfolding byte_in
returns-clause-longer c r = (let bad : ◌≡◌ {A = ℕ} 1 0 = r.size in absurd (omega arith))

pub returns-clause-a_byte_before : goal.returns-clause-a_byte_before
unfolding byte_in
returns-clause-a_byte_before c r = (let bad : ◌≡◌ {A = ℕ} 7 0 = r.bytes 16383 (inl (omega arith)) in absurd (omega arith))

pub returns-clause-a_byte_after : goal.returns-clause-a_byte_after
unfolding byte_in
returns-clause-a_byte_after c r = (let bad : ◌≡◌ {A = ℕ} 7 0 = r.bytes 17424 (inr (omega arith)) in absurd (omega arith))

pub returns-clause-the_same : goal.returns-clause-the_same
unfolding byte_in
returns-clause-the_same c = record { size = refl; bytes = (λ at out. refl) }
