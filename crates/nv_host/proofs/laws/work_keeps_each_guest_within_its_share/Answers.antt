use Rattle.nv_host.proofs.Within.{ended-keeps}
use Rattle.nv_host.proofs.laws.work_keeps_each_guest_within_its_share.Goals as goal

pub returns : goal.returns
returns c = λ sc most worked old new guest lane is within. ended-keeps guest lane sc most worked.done _ worked.why old new is within
