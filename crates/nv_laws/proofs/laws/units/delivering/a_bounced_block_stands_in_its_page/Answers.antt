use Rattle.nv_laws.proofs.units.InWorld.{world-block_kept, world-page_kept, world-page_moved}
use Rattle.nv_laws.proofs.laws.units.delivering.a_bounced_block_stands_in_its_page.Goals as goal

pub returns-clause-moved : goal.returns-clause-moved
returns-clause-moved c host_bytes geometry w number guest lane tag share whole work h unit own laid fine it left =
    world-page_moved host_bytes geometry w laid fine number guest lane tag share whole work h it unit left own

pub returns-clause-others : goal.returns-clause-others
returns-clause-others c host_bytes geometry w number guest lane tag share whole work h unit own other laid fine it left =
    world-page_kept host_bytes geometry w laid fine number guest lane tag share whole work h it unit left own other

pub returns-clause-elsewhere : goal.returns-clause-elsewhere
returns-clause-elsewhere c host_bytes geometry w number guest lane tag share whole work h unit at other bytes own laid fine it left =
    world-block_kept host_bytes geometry w laid fine number guest lane tag share whole work h it unit left own at other bytes
