use Rattle.std.proofs.Common.{Bool, subst, not, is_none, length}
use Rattle.nv_model.specs.Judge.{field_refusal}
use Rattle.nv_flat.specs.One.{IsOutcome}
use Rattle.nv_flat.proofs.OneLemmas.{run-built}
use Rattle.nv_flat.proofs.laws.a_plain_command_ends_as_a_run.Goals as goal

pub returns : goal.returns
returns g c old new entry st plain done =
    let refused : Bool = not (is_none (field_refusal (length old.disk) entry)) in
    let built : Bool → Type 0 = λ b. IsOutcome b refused old entry st new in
    run-built refused old new entry st (subst built (g.met.C.One.carries entry plain) done)
