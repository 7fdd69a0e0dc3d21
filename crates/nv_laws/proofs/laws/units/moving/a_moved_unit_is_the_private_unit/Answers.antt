use Rattle.nv_laws.proofs.units.InWorld.{world-blocks, world-others, world-read}
use Rattle.nv_laws.proofs.laws.units.moving.a_moved_unit_is_the_private_unit.Goals as goal

pub returns-clause-blocks : goal.returns-clause-blocks
returns-clause-blocks c host_bytes geometry w number guest lane tag share whole work h unit own laid fine it left =
    world-blocks host_bytes geometry w laid fine number guest lane tag share whole work h it unit left own

pub returns-clause-read : goal.returns-clause-read
returns-clause-read c host_bytes geometry w number guest lane tag share whole work h unit own laid fine it left =
    world-read host_bytes geometry w laid fine number guest lane tag share whole work h it unit left own

pub returns-clause-others : goal.returns-clause-others
returns-clause-others c host_bytes geometry w number guest lane tag share whole work h unit own laid fine it left =
    world-others host_bytes geometry w laid fine number guest lane tag share whole work h it unit left own
