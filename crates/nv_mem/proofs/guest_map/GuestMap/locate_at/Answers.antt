use Rattle.std.proofs.Common.{sym}
use Rattle.nv_mem.proofs.Images.{host_of-uncovered}
use Rattle.nv_mem.proofs.guest_map.GuestMap.locate_at.Goals as goal

-- an address that no region covers is not mapped
pub returns-in-None : goal.returns-in-None
returns-in-None c = host_of-uncovered c.args.self.now.regions c.args.addr (sym c.in-None.ensures)
