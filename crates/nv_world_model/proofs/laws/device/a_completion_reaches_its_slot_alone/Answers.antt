use Rattle.std.proofs.Common.{sym, ◌∙◌}
use Rattle.nv_world_model.proofs.LaneReach.{completion-elsewhere, completion-there}
use Rattle.nv_world_model.proofs.laws.device.a_completion_reaches_its_slot_alone.Goals as goal

pub returns-clause-writes : goal.returns-clause-writes
returns-clause-writes c = completion-elsewhere

pub returns-clause-reads : goal.returns-clause-reads
returns-clause-reads c = λ mediator lane identifier st d host other.
    completion-there mediator lane identifier st d host ∙ sym (completion-there mediator lane identifier st d other)
