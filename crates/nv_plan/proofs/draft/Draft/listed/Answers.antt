use Rattle.std.proofs.Common.{ap, ◌∙◌}
use Rattle.nv_model.specs.Transcript.{Settled}
use Rattle.nv_plan.specs.Drawn.{given_of}
use Rattle.nv_plan.specs.Outline.{Outline}
use Rattle.nv_plan.proofs.StageReads.{stage-fault, stage-read, stage-too_long}
use Rattle.nv_plan.proofs.draft.Draft.listed.Goals as goal

pub returns-in-Fault : goal.returns-in-Fault
returns-in-Fault g c = λ reads.
    ap (λ (o : Outline). Settled o) c.answer.ensures
    ∙ stage-fault (given_of c.args.self.now.given) c.args.self.now.sqe c.args.self.now.stage c.in-Fault.status reads (c.requires.want ∙ c.in-Fault.is)

pub returns-in-TooLong : goal.returns-in-TooLong
returns-in-TooLong g c = λ reads.
    ap (λ (o : Outline). Settled o) c.answer-in-TooLong.ensures
    ∙ stage-too_long (given_of c.args.self.now.given) c.args.self.now.sqe c.args.self.now.stage c.status.result reads c.requires.reading (c.requires.want ∙ c.in-TooLong.is) c.status.ensures

pub unreachable-requires : goal.unreachable-requires
unreachable-requires g c = stage-read c.args.self.now.stage c.in-Read.addr c.in-Read.len (c.requires.want ∙ c.in-Read.is) c.requires.end
