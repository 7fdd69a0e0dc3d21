use Rattle.nv_host.proofs.Ring.{wanted-is}
use Rattle.nv_host.proofs.host_mediator.HostMediator.wanted_phase.Goals as goal

pub returns : goal.returns
returns g c = λ l found.
    wanted-is c.args.self.now.setup.geometry c.args.lane c.args.self.now.side.lanes l (g.C.MemoryCell.bytes c.args.memory.now) c.args.there.now found
    (c.requires.there l found) c.phase.result c.reap_due.result c.phase.ensures c.reap_due.ensures.slot
