use Rattle.std.proofs.Common.{sym}
use Rattle.nv_mem.specs.GuestMap.{mapped}
use Rattle.nv_vctl.proofs.Entries.{front-mapped, submissions-fit}
use Rattle.nv_vctl.proofs.vctl.Vctl.peek_sqe.Goals as goal

pub front-requires : goal.front-requires
front-requires g c = submissions-fit c.args.map.now c.args.self.now c.host_len-known.ensures.sound c.requires.in_place

pub load-requires-clause-mapped : goal.load-requires-clause-mapped
load-requires-clause-mapped g c =
    front-mapped (mapped c.args.map.now.regions) c.args.self.now c.args.queue c.in_ok-addr.addr c.requires.in_place (sym c.in_ok-addr.ensures)
