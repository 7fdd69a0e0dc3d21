use Rattle.std.proofs.Common.{subst}
use Rattle.std.specs.Prelude.{IfOk}
use Rattle.nv_mediator.proofs.Counts.{counts-more}
use Rattle.nv_mediator.proofs.Steps.{either-hosted, either-made, hosting}
use Rattle.nv_mediator.specs.Hosted.{Hosted, IsMade, IsUnchanged}
use Rattle.nv_mediator.proofs.mediator.Mediator.step_twice.Goals as goal

pub perform_twice-requires-clause-can_count : goal.perform_twice-requires-clause-can_count
perform_twice-requires-clause-can_count c =
    let h : Hosted = record { geometry = c.self.inside.layout; state = c.self.inside.core } in
    λ guest. counts-more h guest c.self.invariant

pub invariant_of-self : goal.invariant_of-self
invariant_of-self c =
    let h : Hosted = record { geometry = c.self.inside.layout; state = c.self.inside.core } in
    either-hosted h c.perform_twice.new.core c.args.event.now (λ told. told.0) (IsUnchanged c.self.inside.core c.perform_twice.new.core) c.self.invariant
    c.known.ensures c.perform_twice.result c.perform_twice.ensures.step c.perform_twice.ensures.err (λ failed. failed)

pub returns-clause-ok : goal.returns-clause-ok
returns-clause-ok c =
    let h : Hosted = record { geometry = c.self.inside.layout; state = c.self.inside.core } in
    subst (λ (o : Hosted). IfOk c.perform_twice.result (λ told. IsMade c.args.event.now o told.0 (hosting h c.perform_twice.new.core))) c.self.view_is
    (either-made h c.perform_twice.new.core c.args.event.now (λ told. told.0) (IsUnchanged c.self.inside.core c.perform_twice.new.core) c.self.invariant
    c.known.ensures c.perform_twice.result c.perform_twice.ensures.step)
