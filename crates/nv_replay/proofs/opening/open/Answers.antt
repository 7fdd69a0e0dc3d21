use Rattle.std.proofs.Common.{◌≡◌}
use Rattle.nv_replay_script.specs.ReplayScript.{script_value}
use Rattle.nv_replay.proofs.Guests.{MatchResult-err}
use Rattle.nv_replay.proofs.Openings.{opened_by-accepted, opened_by-refused}
use Rattle.nv_replay.proofs.opening.open.Goals as goal

pub returns-in_err-mediator : goal.returns-in_err-mediator
returns-in_err-mediator c =
    let fault = c.in_err-mediator.field-0.0 in
    let refused = opened_by-refused (script_value c.args.script) fault c.in_err-mediator.ensures.opened in
    MatchResult-err c.from_residual.result _ _ _ c.from_residual.ensures.1
    (λ made is. let same : made ≡ fault = is in rw same refused)

pub returns : goal.returns
returns c = rw c.new.ensures (opened_by-accepted (script_value c.args.script) _ c.in_ok-mediator.ensures.opened)
