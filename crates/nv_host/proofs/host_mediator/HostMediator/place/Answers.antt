use Rattle.std.proofs.Common.{arith}
use Rattle.nv_host.proofs.Accepted.{lies-out}
use Rattle.nv_world_model.specs.SetUp.{SetUp}
use Rattle.nv_host.proofs.host_mediator.HostMediator.place.Goals as goal

pub overflow_add-start : goal.overflow_add-start
overflow_add-start c =
    let s : SetUp = record { host_bytes = c.self.inside.host_bytes; lanes = c.self.inside.lanes; geometry = c.self.inside.layout } in
    let laid = lies-out s c.self.invariant.served.accepted c.self.invariant.served.sound in
    let area = laid.area in
    let few = laid.few in
    let begins = c.mediator.ensures in
    let number = c.from.ensures in
    let below = c.if-lane-self.false in
    let within = c.requires in
    omega (arith, area, few, begins, number, below)

pub overflow_add-result : goal.overflow_add-result
overflow_add-result c =
    let s : SetUp = record { host_bytes = c.self.inside.host_bytes; lanes = c.self.inside.lanes; geometry = c.self.inside.layout } in
    let laid = lies-out s c.self.invariant.served.accepted c.self.invariant.served.sound in
    let area = laid.area in
    let few = laid.few in
    let begins = c.mediator.ensures in
    let number = c.from.ensures in
    let below = c.if-lane-self.false in
    let within = c.requires in
    omega (arith, area, few, begins, number, below, within)
