use Rattle.std.proofs.Common.{◌≡◌, [], length}
use Rattle.std.proofs.lemmas.List.Elements.{All-weaker}
use Rattle.nv_model.specs.Dialogue.{asked}
use Rattle.nv_model.specs.Judge.{judge}
use Rattle.nv_model.specs.Memory.{bytes_from}
use Rattle.nv_model.specs.Parts.{ShowsOn}
use Rattle.nv_model.specs.Transcript.{ReadDone}
use Rattle.nv_model.proofs.InParts.{judge-in_parts}
use Rattle.nv_model.proofs.Shown.{ShowsOn-whole, reads_met-all, settled-in_memory}
use Rattle.nv_model.proofs.laws.transcripts.a_transcript_that_shows_a_memory_gives_its_verdict.Goals as goal

pub returns-clause-met : goal.returns-clause-met
returns-clause-met c mapped limit blocks entry memory reads verdict shown settled =
    settled-in_memory memory (judge mapped limit blocks entry) reads verdict (judge-in_parts mapped limit blocks entry) shown settled

pub returns-clause-asked : goal.returns-clause-asked
returns-clause-asked c mapped limit blocks entry memory reads verdict shown settled =
    let d = judge mapped limit blocks entry in
    settled-in_memory memory d reads verdict (judge-in_parts mapped limit blocks entry) (reads_met-all (ShowsOn memory (asked memory d)) d [] reads shown) settled

pub returns-clause-whole : goal.returns-clause-whole
returns-clause-whole c mapped limit blocks entry memory reads verdict whole settled =
    let d = judge mapped limit blocks entry in
    let shown = All-weaker (λ (r : ReadDone). r.bytes ≡ bytes_from memory r.addr (length r.bytes)) (ShowsOn memory (asked memory d))
    (λ r same. ShowsOn-whole memory (asked memory d) r same) reads whole in
    settled-in_memory memory d reads verdict (judge-in_parts mapped limit blocks entry) (reads_met-all (ShowsOn memory (asked memory d)) d [] reads shown) settled
