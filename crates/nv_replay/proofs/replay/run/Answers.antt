use Rattle.std.proofs.Common.{◌≤◌, ◌∙◌, Ok, length, ap, arith}
use Rattle.std.proofs.lemmas.List.{drop_all}
use Rattle.nv_print.specs.declared.cannot_write.CannotWrite.{CannotWrite}
use Rattle.nv_replay.proofs.Runs.{drop-next, RunsSoFar-none, RunsSoFar-then, RunsSoFar-all}
use Rattle.nv_replay.proofs.replay.run.Goals as goal

pub loop-event-init : goal.loop-event-init
loop-event-init g c =
    let kept = ap (λ r. r.set_up) c.replay.view_is in
    let all = c.as_slice-all.ensures.value ∙ ap (λ r. r.events) c.replay.view_is in
    let none = RunsSoFar-none c.args.replay _ c.replay.inside.mediator c.as_slice-all.result.now kept c.replay.invariant all in
    (rw c.of-count.ensures none, c.of-count.ensures)

pub loop-event-preserved : goal.loop-event-preserved
loop-event-preserved g c =
    let all = c.as_slice-all.result.now in
    let at = c.loop-event.event-index in
    let e = c.event-item.result in
    let turn = drop-next all at e c.loop-event-test.true c.event-item.is in (
      rw c.increase.ensures (RunsSoFar-then _ _ _ _ _ _ _ e _ _ c.loop-event.invariant.0 turn (rw c.increase.ensures at c.in_ok-step.ensures)),
      omega (arith, c.increase.ensures, c.loop-event.invariant.1),
    )

pub returns : goal.returns
returns g c =
    let all = c.as_slice-all.result.now in
    let past : length all ≤ c.loop-event.event-index = omega (arith, c.loop-event-test.false) in
    RunsSoFar-all {E = CannotWrite} _ _ _ _ _ _ _ (Ok tt) c.loop-event.invariant.0 (drop_all c.loop-event.event-index all past) c.in_ok-print_count.ensures
