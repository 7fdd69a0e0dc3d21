use Rattle.nv_run_script.specs.RunScript.{script_value}
use Rattle.nv_replay.proofs.Guests.{MatchResult-err}
use Rattle.nv_run.proofs.Openings.{parts-opened, run_of-faulty, run_of-read}
use Rattle.nv_run.proofs.opening.read.Goals as goal

pub returns-in_err-script-clause-opened : goal.returns-in_err-script-clause-opened
returns-in_err-script-clause-opened c =
    MatchResult-err c.from_residual.result _ _ _ c.from_residual.ensures.1
    (λ fault is. run_of-faulty c.args.text.now c.in_err-script.field-0.0 fault c.in_err-script.ensures is)

pub returns-clause-opened : goal.returns-clause-opened
returns-clause-opened c = rw (run_of-read c.args.text.now (script_value c.in_ok-script.script) c.in_ok-script.ensures) c.open.ensures.opened

pub returns-clause-parts : goal.returns-clause-parts
returns-clause-parts c =
    parts-opened c.args.text.now (script_value c.in_ok-script.script) c.open.result c.in_ok-script.ensures
    (rw (run_of-read c.args.text.now (script_value c.in_ok-script.script) c.in_ok-script.ensures) c.open.ensures.opened) c.open.ensures.parts
