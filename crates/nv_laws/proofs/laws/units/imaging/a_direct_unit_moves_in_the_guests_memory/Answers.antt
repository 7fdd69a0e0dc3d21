use Rattle.nv_laws.proofs.units.InWorld.{world-direct_read, world-direct_same, world-direct_source}
use Rattle.nv_laws.proofs.laws.units.imaging.a_direct_unit_moves_in_the_guests_memory.Goals as goal

pub returns-clause-source : goal.returns-clause-source
returns-clause-source c host_bytes geometry w number guest lane tag share whole work h unit laid fine it =
    world-direct_source host_bytes geometry w laid fine number guest lane tag share whole work h it unit

pub returns-clause-read : goal.returns-clause-read
returns-clause-read c host_bytes geometry w number guest lane tag share whole work h unit own laid fine it left =
    world-direct_read host_bytes geometry w laid fine number guest lane tag share whole work h it unit left own

pub returns-clause-same : goal.returns-clause-same
returns-clause-same c host_bytes geometry w number guest lane tag share whole work h unit own laid fine it left =
    world-direct_same host_bytes geometry w laid fine number guest lane tag share whole work h it unit left own
