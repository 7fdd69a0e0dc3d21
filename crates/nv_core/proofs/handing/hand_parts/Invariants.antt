use Rattle.nv_core.proofs.Handed.{IsAtPart}
use Rattle.nv_plan.specs.Made.{shares_made}
use Rattle.nv_core.proofs.handing.hand_parts.Given as goal

abbrev pub invariant-loop-part : goal.invariant-loop-part
invariant-loop-part g l =
    IsAtPart l.fn.tags (shares_made l.plan) l.plan.given l.plan.job.sqe l.place.mediator l.place.lane (g.C.MemoryCell.bytes l.fn.host) l.fn.tail l.tags (g.C.MemoryCell.bytes l.host) l.tail l.part
