use Rattle.nv_entry.specs.Submission.{cid_of}
use Rattle.nv_model.specs.Controller.{completion_queue, submission_queue}
use Rattle.nv_model.proofs.Running.{along-running}
use Rattle.nv_model.proofs.RunningFacts.{completion-there, found, post-full, post_step-free, submission-there}
use Rattle.nv_model.proofs.laws.running.a_completion_waits_only_for_room.Goals as goal

pub returns-clause-has_queue : goal.returns-clause-has_queue
returns-clause-has_queue c memory disk shape steps r is name t on there =
    let was = along-running memory disk shape steps r is in
    let q = found (submission_queue r.state.controller t.queue) (submission-there r.state.controller r.state.bag name t was on there) in
    let cq = found (completion_queue r.state.controller q.value.completes_to) (completion-there r.state.controller r.state.bag t.queue q.value was q.is) in
    (q.value, (cq.value, (q.is, cq.is)))

pub returns-clause-full : goal.returns-clause-full
returns-clause-full c memory disk shape steps r is name t st q cq on there ends from to =
    post-full r.state.controller t.queue 0 (cid_of t.entry) st q cq from to

pub returns-clause-step : goal.returns-clause-step
returns-clause-step c memory disk shape steps r is within name t st q cq on there ends from to =
    post_step-free within r.state name t st q cq on there ends from to
