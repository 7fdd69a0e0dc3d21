use Rattle.std.proofs.Common.{◌≡◌, drop}
use Rattle.nv_replay.proofs.Runs.{RunsSoFar}
use Rattle.nv_replay.proofs.replay.run.Given as goal

-- the replies so far are printed, and they answer the events before those that are left
abbrev pub invariant-loop-event : goal.invariant-loop-event
invariant-loop-event g l =
    RunsSoFar
    l.fn.replay
    (g.W.Write.contents l.initial.output)
    (g.W.Write.contents l.output)
    l.count
    l.mediator
    (drop l.event-index l.all)
    × (l.count ≡ l.event-index)
