use Rattle.std.proofs.Common.{◌*◌}
use Rattle.nv_mem.specs.Places.{places_of}
use Rattle.nv_model.specs.Limits.{block}
use Rattle.nv_laws.proofs.units.Has.{once-part}
use Rattle.nv_laws.proofs.units.SharePlaces.{share-once}
use Rattle.nv_laws.proofs.units.Once.{destination-once}
use Rattle.nv_laws.proofs.laws.units.delivering.runs_apart_name_no_byte_twice.Goals as goal

pub returns-clause-whole : goal.returns-clause-whole
returns-clause-whole c = destination-once

pub returns-clause-part : goal.returns-clause-part
returns-clause-part c work unit once = once-part block (places_of work.pieces) (block * unit) once

pub returns-clause-share : goal.returns-clause-share
returns-clause-share c guest entry share is work goes = share-once guest entry share is work goes
