use Rattle.nv_host.proofs.Calls.{served-lent}
use Rattle.nv_host.proofs.HoldNotes.{passed-rests}
use Rattle.nv_host.proofs.Made.{made}
use Rattle.nv_host.proofs.host_mediator.HostMediator.next_busy.Goals as goal

pub next_busy-requires : goal.next_busy-requires
next_busy-requires g c =
    let h = made c.self.inside.host_bytes c.self.inside.lanes c.self.inside.layout c.self.inside.front c.self.inside.closed.items c.self.inside.spare.items in
    served-lent h c.args.self.now c.self.view_is c.self.invariant.served (g.C.MemoryCell.bytes c.args.memory.now) c.requires

pub returns-clause-passed : goal.returns-clause-passed
returns-clause-passed g c = λ lane from below.
    let h = made c.self.inside.host_bytes c.self.inside.lanes c.self.inside.layout c.self.inside.front c.self.inside.closed.items c.self.inside.spare.items in
    passed-rests h c.args.self.now c.self.view_is c.self.inside.holds c.self.invariant.held (g.C.MemoryCell.bytes c.args.memory.now) lane
    (c.next_busy.ensures.passed lane from below)

pub returns-clause-on : goal.returns-clause-on
returns-clause-on g c = λ below. (c.next_busy.ensures.here below).0
