use Rattle.std.proofs.Common.{subst}
use Rattle.nv_host.proofs.Starts.{starts-at}
use Rattle.nv_host.specs.Served.{AreRingsAlone, Served}
use Rattle.nv_host.proofs.host_mediator.HostMediator.new.Goals as goal

pub returns-clause-ok : goal.returns-clause-ok
returns-clause-ok g c =
    starts-at c.args.setup c.in-Ok.mediator (g.C.MemoryCell.bytes c.clear_rings.new.memory) c.in-Ok.ensures c.clear_rings.ensures.clear

pub returns-clause-rings : goal.returns-clause-rings
returns-clause-rings g c =
    subst (λ (x : Served). AreRingsAlone x.setup (g.C.MemoryCell.bytes c.args.memory.now) (g.C.MemoryCell.bytes c.clear_rings.new.memory)) c.in-Ok.ensures
    c.clear_rings.ensures.alone
