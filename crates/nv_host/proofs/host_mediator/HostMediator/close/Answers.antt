use Rattle.nv_host.proofs.Made.{made}
use Rattle.nv_host.proofs.Closes.{close-ends, ended-same}
use Rattle.nv_host.proofs.Over.{absent, absent-done, absent-idle, absent-over}
use Rattle.nv_host.proofs.host_mediator.HostMediator.close.Goals as goal

pub returns-then-lane-self-clause-over : goal.returns-then-lane-self-clause-over
returns-then-lane-self-clause-over g c =
    let h = made c.self.inside.host_bytes c.self.inside.lanes c.self.inside.layout c.self.inside.front c.self.inside.closed.items c.self.inside.spare.items in
    let none = absent h c.args.self.now c.self.view_is c.self.invariant.served c.args.lane c.if-lane-self.true in
    absent-over c.args.self.now.setup.geometry c.args.lane c.args.self.now.side (g.C.MemoryCell.bytes c.args.memory.now) none

pub returns-then-lane-self-clause-ended : goal.returns-then-lane-self-clause-ended
returns-then-lane-self-clause-ended g c =
    let h = made c.self.inside.host_bytes c.self.inside.lanes c.self.inside.layout c.self.inside.front c.self.inside.closed.items c.self.inside.spare.items in
    let none = absent h c.args.self.now c.self.view_is c.self.invariant.served c.args.lane c.if-lane-self.true in
    absent-done c.args.self.now.setup.geometry c.args.lane c.args.self.now.side none

pub returns-then-lane-self-clause-idle : goal.returns-then-lane-self-clause-idle
returns-then-lane-self-clause-idle g c =
    let h = made c.self.inside.host_bytes c.self.inside.lanes c.self.inside.layout c.self.inside.front c.self.inside.closed.items c.self.inside.spare.items in
    let none = absent h c.args.self.now c.self.view_is c.self.invariant.served c.args.lane c.if-lane-self.true in
    absent-idle c.args.self.now.setup.geometry c.args.lane c.args.self.now.side (g.C.MemoryCell.bytes c.args.memory.now) none

pub returns-then-lane-self-clause-logs : goal.returns-then-lane-self-clause-logs
returns-then-lane-self-clause-logs g c = λ first log z so. ended-same c.args.lane c.args.self.now (g.C.MemoryCell.bytes c.args.memory.now) first log z so

pub returns-clause-logs : goal.returns-clause-logs
returns-clause-logs g c =
    let h = made c.self.inside.host_bytes c.self.inside.lanes c.self.inside.layout c.self.inside.front c.self.inside.closed.items c.self.inside.spare.items in
    close-ends h c.args.self.now c.self.view_is c.self.invariant.served c.args.lane c.drain.new.self c.give_up_each.new.self c.fail_each.new.self c.shut.new.self
    (g.C.MemoryCell.bytes c.args.memory.now) (g.C.MemoryCell.bytes c.fail_each.new.memory) (g.C.MemoryCell.bytes c.mute.new.memory)
    c.drain.ensures.setup c.give_up_each.ensures.setup c.fail_each.ensures.setup c.shut.ensures.setup c.drain.ensures.run c.drain.ensures.idle
    c.give_up_each.ensures.run c.fail_each.ensures.run c.mute.ensures.same c.shut.ensures.side
