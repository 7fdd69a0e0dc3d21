use Rattle.std.proofs.Common.{[]}
use Rattle.nv_model.proofs.AnyAnswers.{settled-may, wanted-may}
use Rattle.nv_model.proofs.laws.endings.a_transcript_gives_some_answers.Goals as goal

pub returns-clause-settled : goal.returns-clause-settled
returns-clause-settled g c d reads value parts settled = settled-may d 0 [] reads value parts settled

pub returns-clause-wanted : goal.returns-clause-wanted
returns-clause-wanted g c d reads addr len parts wanted = wanted-may d 0 [] reads addr len parts wanted
