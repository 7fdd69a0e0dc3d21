use Rattle.std.proofs.Common.{◌∙◌, subst, sym, true, false}
use Rattle.nv_mem.specs.GuestMap.{IsSound}
use Rattle.nv_model.specs.Controller.{doorbell}
use Rattle.nv_core.proofs.Placed.{controlled-is}
use Rattle.nv_core.proofs.seat.ring_doorbell.Goals as goal

pub returns-then-doorbell : goal.returns-then-doorbell
returns-then-doorbell c = λ host disk kept bag.
    controlled-is c.args.given.now host c.args.vctl.now (doorbell c.args.vctl.now c.args.offset c.args.value) true c.doorbell.new.self
    (subst IsSound c.map-map.ensures c.host_len-known.ensures.sound)
    (sym c.if-doorbell.true ∙ c.doorbell.ensures.taken) c.doorbell.ensures.state disk kept bag

pub returns-else-doorbell : goal.returns-else-doorbell
returns-else-doorbell c = λ host disk kept bag.
    controlled-is c.args.given.now host c.args.vctl.now (doorbell c.args.vctl.now c.args.offset c.args.value) false c.doorbell.new.self
    (subst IsSound c.map-map.ensures c.host_len-known.ensures.sound)
    (sym c.if-doorbell.false ∙ c.doorbell.ensures.taken) c.doorbell.ensures.state disk kept bag
