use Rattle.nv_laws_sound.proofs.Unplaced.{placed-alike}
use Rattle.nv_laws_sound.proofs.laws.places.the_mediator_does_not_ask_where_parts_are.Goals as goal

pub returns : goal.returns
returns c = λ geometry e w mine. placed-alike geometry e w mine
