use Rattle.nv_model.proofs.Feedings.{in_transcript-fed}
use Rattle.nv_model.proofs.laws.feeding.a_part_that_was_met_is_fed.Goals as goal

pub returns : goal.returns
returns g c = in_transcript-fed
