use Rattle.nv_laws.proofs.units.InWorld.{world-bounced}
use Rattle.nv_laws.proofs.laws.units.imaging.a_bounced_unit_leaves_the_guests_memory.Goals as goal

pub returns : goal.returns
returns c host_bytes geometry w number guest lane tag share whole work h unit laid fine it =
    world-bounced host_bytes geometry w laid fine number guest lane tag share whole work h it unit
