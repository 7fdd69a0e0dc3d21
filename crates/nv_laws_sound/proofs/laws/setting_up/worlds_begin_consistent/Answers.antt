use Rattle.nv_laws_sound.proofs.Openings.{opening-consistent}
use Rattle.nv_laws_sound.proofs.laws.setting_up.worlds_begin_consistent.Goals as goal

pub returns : goal.returns
returns c = λ s host disk. opening-consistent host disk s.geometry s.lanes
