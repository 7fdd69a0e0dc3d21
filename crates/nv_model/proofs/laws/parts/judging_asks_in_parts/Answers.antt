use Rattle.nv_model.proofs.InParts.{judge-in_parts}
use Rattle.nv_model.proofs.laws.parts.judging_asks_in_parts.Goals as goal

pub returns : goal.returns
returns c = judge-in_parts
