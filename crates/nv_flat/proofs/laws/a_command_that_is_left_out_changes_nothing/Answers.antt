use Rattle.std.proofs.Common.{Bool, Option, subst, false, not, is_none, length}
use Rattle.nv_entry.specs.declared.status_code.StatusCode.{StatusCode}
use Rattle.nv_model.specs.Judge.{field_refusal}
use Rattle.nv_flat.specs.One.{IsOutcome}
use Rattle.nv_flat.proofs.laws.a_command_that_is_left_out_changes_nothing.Goals as goal

pub returns : goal.returns
returns c built old new entry st left_out in_order done =
    let outcome : Bool → Type 0 = λ b. IsOutcome b (not (is_none (field_refusal (length old.disk) entry))) old entry st new in
    let in_fields : Option StatusCode → Type 0 = λ o. IsOutcome false (not (is_none o)) old entry st new in
    subst in_fields in_order (subst outcome left_out done)
