use Rattle.std.proofs.Common.{refl, None, Some}
use Rattle.nv_examples.proofs.breaches.the_four_clauses.Goals as goal

pub returns : goal.returns
returns c None commands slots = refl
returns c (Some a) commands slots = refl
