use Rattle.std.proofs.Common.{◌+◌, ap, length, ◌∙◌, sym, arith}
use Rattle.nv_once_script.specs.OnceFold.{after_lines}
use Rattle.nv_replay_script.specs.ReplayScript.{after_line, finished, nothing, progress, script_of, script_value}
use Rattle.nv_once_script.proofs.OnceFoldLemmas.{after_lines-read, script_by-refused, script_by-finished}
use Rattle.nv_replay_script.proofs.script.parse.Goals as goal

pub overflow_add-number : goal.overflow_add-number
overflow_add-number c =
    let left = ap length c.in-Some.ensures.steps in
    let count = c.loop-line.invariant.count in
    let all = ap length c.of-lines.ensures.lines in
    let few = c.of-lines.ensures.few in
    omega arith

pub returns-in-Err : goal.returns-in-Err
unfolding script_of
returns-in-Err c =
    rw c.on.ensures
    (script_by-refused after_line finished nothing (c.loop-line.number + 1) (progress c.loop-line.reading) c.args.text.now c.in-Some.line.now
    c.loop-line.lines c.next.new.self c.in-Err.fault c.in-Some.ensures.steps c.loop-line.invariant.kept c.in-Err.ensures)

pub loop-line-preserved : goal.loop-line-preserved
loop-line-preserved c =
    let left = ap length c.in-Some.ensures.steps in
    let count = c.loop-line.invariant.count in
    record {
      count = omega arith;
      kept = sym (ap (after_lines after_line (c.loop-line.number + 1) (progress c.loop-line.reading)) c.in-Some.ensures.steps
          ∙ after_lines-read after_line (c.loop-line.number + 1) (progress c.loop-line.reading) (progress c.read.new.self)
          c.in-Some.line.now c.next.new.self c.in_default-read.ensures)
          ∙ c.loop-line.invariant.kept;
    }

pub returns : goal.returns
unfolding script_of
returns c =
    script_by-finished after_line finished nothing script_value c.loop-line.number (progress c.loop-line.reading) c.args.text.now
    c.loop-line.lines c.finish.result c.in_default.ensures.steps.0 c.loop-line.invariant.count c.loop-line.invariant.kept c.finish.ensures
