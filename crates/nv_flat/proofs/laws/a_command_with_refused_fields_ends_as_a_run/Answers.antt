use Rattle.std.proofs.Common.{Option, subst, not, is_none}
use Rattle.nv_entry.specs.declared.status_code.StatusCode.{StatusCode}
use Rattle.nv_flat.specs.One.{IsOutcome}
use Rattle.nv_flat.proofs.OneLemmas.{run-refused}
use Rattle.nv_flat.proofs.laws.a_command_with_refused_fields_ends_as_a_run.Goals as goal

pub returns : goal.returns
returns c built old new entry st refusal refused done =
    let outcome : Option StatusCode → Type 0 = λ o. IsOutcome (built entry) (not (is_none o)) old entry st new in
    run-refused (built entry) old new entry st (subst outcome refused done)
