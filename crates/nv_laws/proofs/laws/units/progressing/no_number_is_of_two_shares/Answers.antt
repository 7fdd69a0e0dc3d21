use Rattle.nv_laws.proofs.units.Progress.{numbers-apart}
use Rattle.nv_laws.proofs.laws.units.progressing.no_number_is_of_two_shares.Goals as goal

pub returns : goal.returns
returns c guest entry share i j a b number is first second differ there = numbers-apart guest entry share is i j a b first second differ number there
