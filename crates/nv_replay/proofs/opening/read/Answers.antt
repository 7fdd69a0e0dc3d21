use Rattle.nv_replay_script.specs.ReplayScript.{script_value}
use Rattle.nv_replay.proofs.Guests.{MatchResult-err}
use Rattle.nv_replay.proofs.Openings.{replay_of-faulty, replay_of-read}
use Rattle.nv_replay.proofs.opening.read.Goals as goal

pub returns-in_err-script : goal.returns-in_err-script
returns-in_err-script c =
    MatchResult-err c.from_residual.result _ _ _ c.from_residual.ensures.1
    (λ fault is. replay_of-faulty c.args.text.now c.in_err-script.field-0.0 fault c.in_err-script.ensures is)

pub returns : goal.returns
returns c = rw (replay_of-read c.args.text.now (script_value c.in_ok-script.script) c.in_ok-script.ensures) c.open.ensures
