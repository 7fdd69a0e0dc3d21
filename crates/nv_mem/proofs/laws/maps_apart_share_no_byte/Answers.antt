use Rattle.nv_mem.proofs.Memory.{hosts_meet-image, span_met-image}
use Rattle.nv_mem.proofs.laws.maps_apart_share_no_byte.Goals as goal

pub returns-clause-maps : goal.returns-clause-maps
returns-clause-maps c = λ rs ss host clear. hosts_meet-image rs ss host clear

pub returns-clause-span : goal.returns-clause-span
returns-clause-span c = λ rs start len host clear. span_met-image rs start len host clear
