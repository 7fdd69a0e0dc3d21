use Rattle.std.proofs.Common.{length}
use Rattle.nv_laws.proofs.units.Handed.{handed-own, handed-source}
use Rattle.nv_laws.proofs.laws.units.submitting.each_share_finds_its_part_of_the_source.Goals as goal

pub returns-clause-source : goal.returns-clause-source
returns-clause-source c host_bytes geometry w lane d command o tags shares i tag share work laid lane_below device tail given planned below apart =
    handed-source host_bytes (length w.lanes) geometry laid lane lane_below command o given tags shares w d device tail below planned apart i tag share work

pub returns-clause-memory : goal.returns-clause-memory
returns-clause-memory c host_bytes geometry w lane d command o tags shares laid lane_below device tail given planned below =
    handed-own host_bytes (length w.lanes) geometry laid lane lane_below command o given tags shares w d device tail below planned
