use Rattle.nv_model.proofs.Shown.{settled-in_memory}
use Rattle.nv_model.proofs.laws.transcripts.a_transcript_that_shows_a_memory_settles_its_value.Goals as goal

pub returns : goal.returns
returns g c = settled-in_memory
