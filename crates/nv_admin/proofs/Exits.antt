-- What is returned where a callee refuses.
use Rattle.std.proofs.Common.{◌≡◌, Result, Err, ap, ◌∙◌}
use Rattle.std.specs.Result.{IsErrAnd}
use Rattle.std.proofs.lemmas.Result.{err_from_is_err_and}
use Rattle.nv_entry.specs.declared.status_code.StatusCode.{StatusCode}

-- the exit of a `?` returns the callee's refusal
pub exit : {T : Type 0} (r : Result T StatusCode) (why : StatusCode) → IsErrAnd r (λ y. y ≡ why) → r ≡ Err why
exit r why is = let p = err_from_is_err_and r is in p.1 ∙ ap Err p.2
