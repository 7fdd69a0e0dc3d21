use Rattle.std.proofs.Common.{[], arith}
use Rattle.nv_model.specs.Judge.{judge}
use Rattle.nv_model.proofs.AnyAnswers.{MayAsk-mapped, wanted-may}
use Rattle.nv_model.proofs.Asking.{judge-asks}
use Rattle.nv_model.proofs.InParts.{judge-in_parts}
use Rattle.nv_model.proofs.laws.endings.mapped_memory_is_wanted_of_a_transcript.Goals as goal

pub returns : goal.returns
returns c mapped limit blocks entry reads addr len wanted =
    let d = judge mapped limit blocks entry in
    let may = wanted-may d 0 [] reads addr len (judge-in_parts mapped limit blocks entry) wanted in
    let there = MayAsk-mapped mapped d addr may.0 may.1.0 (judge-asks mapped limit blocks entry) may.1.1.1 in
    let many = may.1.1.0 in
    (λ i below. there.0 i (omega arith), omega arith)
