use Rattle.std.proofs.Common.{◌≡◌, ap}
use Rattle.nv_entry.specs.Status.{StatusField}
use Rattle.nv_entry.specs.StatusCode.{done_with, refused_with}
use Rattle.nv_entry.specs.declared.status_code.StatusCode.TheVariants.{LbaOutOfRange, Success}
use Rattle.nv_flat.proofs.ExampleLemmas.{one-read, one-refusal}
use Rattle.nv_flat.proofs.examples.a_status_is_the_commands.Goals as goal

pub returns-clause-goes : goal.returns-clause-goes
returns-clause-goes c new run =
    let bad : (refused_with LbaOutOfRange).sc ≡ (done_with Success).sc = ap (λ (st : StatusField). st.sc) (one-read (refused_with LbaOutOfRange) new run).0 in
    (cc)

pub returns-clause-refused : goal.returns-clause-refused
returns-clause-refused c new run =
    let bad : (done_with Success).sc ≡ (refused_with LbaOutOfRange).sc = ap (λ (st : StatusField). st.sc) (one-refusal (done_with Success) new run).0 in
    (cc)
