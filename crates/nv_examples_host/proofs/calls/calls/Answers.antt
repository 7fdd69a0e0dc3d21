use Rattle.std.proofs.Common.{Bool, List, ap, arith, false, length, refl, true, ℕ, ◌≡◌}
use Rattle.nv_examples_host.proofs.Probes.{is_sixth_in_ring}
use Rattle.nv_host.specs.Served.{Served}
use Rattle.nv_examples_host.proofs.calls.calls.Goals as goal

pub returns-clause-a_longer_memory : goal.returns-clause-a_longer_memory
returns-clause-a_longer_memory c d = (let bad : ◌≡◌ {A = ℕ} 1 0 = ap (λ (xs : List ℕ). length xs) (d.dull refl).1 in absurd (omega arith))

pub returns-clause-another_place : goal.returns-clause-another_place
returns-clause-another_place c d = (let bad : ◌≡◌ {A = Bool} false true = ap (λ (h : Served). is_sixth_in_ring h.side.lanes) (d.dull refl).0 in absurd (cc))

pub returns-clause-in_each_world : goal.returns-clause-in_each_world
returns-clause-in_each_world c e old new before after r w d on = d.worlds w on

pub returns-clause-of_each_log : goal.returns-clause-of_each_log
returns-clause-of_each_log c e old new before after r d = d.next
