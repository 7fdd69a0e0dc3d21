use Rattle.nv_laws.proofs.units.Progress.{differed-before}
use Rattle.nv_laws.proofs.laws.units.progressing.a_compare_that_differed_changes_nothing_else.Goals as goal

pub returns : goal.returns
returns c = differed-before
