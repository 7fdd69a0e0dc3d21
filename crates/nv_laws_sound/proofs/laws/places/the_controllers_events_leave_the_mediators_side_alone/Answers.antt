use Rattle.nv_laws_sound.proofs.ControllersSide.{side-alone}
use Rattle.nv_laws_sound.proofs.laws.places.the_controllers_events_leave_the_mediators_side_alone.Goals as goal

pub returns : goal.returns
returns c = λ geometry e w his. side-alone w geometry e his
