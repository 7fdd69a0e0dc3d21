use Rattle.std.proofs.Common.{◌+◌}
use Rattle.nv_world_model.proofs.LaneReach.{completion-fields, completion-status}
use Rattle.nv_world_model.proofs.laws.device.a_completion_is_the_standards.Goals as goal

pub returns-clause-fields : goal.returns-clause-fields
returns-clause-fields c = completion-fields

pub returns-clause-status : goal.returns-clause-status
returns-clause-status c = λ mediator lane identifier st d host head queue cid sct sc.
    completion-status 0 d.head (lane + 1) identifier d.phase st _ (completion-fields mediator lane identifier st d host head queue cid sct sc)
