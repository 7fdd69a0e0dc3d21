use Rattle.std.proofs.Common.{◌≡◌, ◌∙◌, is_some, subst, sym, true, false}
use Rattle.nv_mem.specs.GuestMap.{IsSound, Mapping, mapped}
use Rattle.nv_model.specs.Controller.{reg_write}
use Rattle.nv_vctl.specs.Vctl.{or_unchanged}
use Rattle.nv_world_model.specs.Geometry.{regions_of}
use Rattle.nv_core.proofs.Placed.{controlled-is}
use Rattle.nv_core.proofs.seat.write_register.Goals as goal

pub returns-then-reg_write : goal.returns-then-reg_write
returns-then-reg_write c = λ host disk kept bag.
    controlled-is c.args.given.now host c.args.vctl.now (reg_write (mapped (regions_of c.args.given.now)) c.args.vctl.now c.args.offset c.args.value) true c.reg_write.new.self
    (subst IsSound c.map-map.ensures c.host_len-known.ensures.sound)
    (subst (λ (m : Mapping). true ≡ is_some (reg_write (mapped m.regions) c.args.vctl.now c.args.offset c.args.value)) c.map-map.ensures
    (sym c.if-reg_write.true ∙ c.reg_write.ensures.taken))
    (subst (λ (m : Mapping). c.reg_write.new.self ≡ or_unchanged c.args.vctl.now (reg_write (mapped m.regions) c.args.vctl.now c.args.offset c.args.value)) c.map-map.ensures
    c.reg_write.ensures.state) disk kept bag

pub returns-else-reg_write : goal.returns-else-reg_write
returns-else-reg_write c = λ host disk kept bag.
    controlled-is c.args.given.now host c.args.vctl.now (reg_write (mapped (regions_of c.args.given.now)) c.args.vctl.now c.args.offset c.args.value) false c.reg_write.new.self
    (subst IsSound c.map-map.ensures c.host_len-known.ensures.sound)
    (subst (λ (m : Mapping). false ≡ is_some (reg_write (mapped m.regions) c.args.vctl.now c.args.offset c.args.value)) c.map-map.ensures
    (sym c.if-reg_write.false ∙ c.reg_write.ensures.taken))
    (subst (λ (m : Mapping). c.reg_write.new.self ≡ or_unchanged c.args.vctl.now (reg_write (mapped m.regions) c.args.vctl.now c.args.offset c.args.value)) c.map-map.ensures
    c.reg_write.ensures.state) disk kept bag
