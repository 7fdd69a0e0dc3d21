use Rattle.std.proofs.Common.{[]}
use Rattle.nv_model.specs.Judge.{judge}
use Rattle.nv_model.proofs.AnyAnswers.{settled-may}
use Rattle.nv_model.proofs.InParts.{judge-in_parts}
use Rattle.nv_model.proofs.laws.endings.a_verdict_over_a_transcript_is_given_by_some_answers.Goals as goal

pub returns : goal.returns
returns c mapped limit blocks entry reads verdict settled =
    settled-may (judge mapped limit blocks entry) 0 [] reads verdict (judge-in_parts mapped limit blocks entry) settled
