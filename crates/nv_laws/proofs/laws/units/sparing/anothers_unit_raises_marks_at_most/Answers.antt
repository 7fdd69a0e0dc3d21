use Rattle.nv_laws.proofs.units.Events.{others-steps}
use Rattle.nv_laws.proofs.units.InWorld.{world-other_bytes, world-other_marks}
use Rattle.nv_laws.proofs.laws.units.sparing.anothers_unit_raises_marks_at_most.Goals as goal

pub returns-clause-steps : goal.returns-clause-steps
returns-clause-steps c geometry w owner held lane tag share whole work h unit number guest it differ =
    others-steps geometry w owner held lane tag share whole work h unit number guest it differ

pub returns-clause-marks : goal.returns-clause-marks
returns-clause-marks c host_bytes geometry w owner held lane tag share whole work h unit number guest p laid fine it left given differ =
    world-other_marks host_bytes geometry w laid fine owner held lane tag share whole work h it unit left number guest given differ p

pub returns-clause-bytes : goal.returns-clause-bytes
returns-clause-bytes c host_bytes geometry w owner held lane tag share whole work h unit number guest lba offset laid fine it left given differ =
    world-other_bytes host_bytes geometry w laid fine owner held lane tag share whole work h it unit left number guest given differ lba offset
