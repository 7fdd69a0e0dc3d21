use Rattle.nv_laws_sound.proofs.Mediators.{left-alone}
use Rattle.nv_laws_sound.proofs.laws.disks.the_mediators_events_leave_the_disk_alone.Goals as goal

pub returns : goal.returns
returns c = λ geometry e w disk kept is. left-alone disk kept geometry e w is
