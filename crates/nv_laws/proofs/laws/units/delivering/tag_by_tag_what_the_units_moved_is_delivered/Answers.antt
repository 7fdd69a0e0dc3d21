use Rattle.nv_laws.proofs.units.DeliveredAll.{world-delivered}
use Rattle.nv_laws.proofs.laws.units.delivering.tag_by_tag_what_the_units_moved_is_delivered.Goals as goal

pub returns : goal.returns
returns c host_bytes geometry w lane o memory tags addr laid fine lane_below given below has there same =
    world-delivered host_bytes geometry w laid fine lane lane_below o given memory tags below has addr there same
