use Rattle.std.proofs.Common.{ℕ, Option, ◌∙◌, subst, sym, ap}
use Rattle.nv_core.specs.Seat.{seated}
use Rattle.nv_core.proofs.Placed.{register-is}
use Rattle.nv_mem.specs.GuestMap.{IsSound}
use Rattle.nv_model.specs.Controller.{reg_read}
use Rattle.nv_model.specs.Private.{register_replied}
use Rattle.nv_model.specs.declared.reply.Reply.TheVariants as reply
use Rattle.nv_core.proofs.seat.read_register.Goals as goal

pub returns-in_default : goal.returns-in_default
returns-in_default c = λ host disk kept bag.
    register-is c.args.given.now host c.args.vctl.now (reg_read c.args.vctl.now c.args.offset) reply.Ignored
    (subst IsSound c.map-map.ensures c.host_len-known.ensures.sound) disk kept bag
    (ap (λ (x : Option ℕ). (register_replied x (seated c.args.given.now host c.args.vctl.now disk kept bag)).reply)
    (sym c.in_default.is ∙ c.reg_read.ensures))

pub returns : goal.returns
returns c = λ host disk kept bag.
    register-is c.args.given.now host c.args.vctl.now (reg_read c.args.vctl.now c.args.offset) (reply.Bytes c.few.result)
    (subst IsSound c.map-map.ensures c.host_len-known.ensures.sound) disk kept bag
    (ap reply.Bytes (c.few.ensures ∙ c.to_le_bytes.ensures)
    ∙ ap (λ (x : Option ℕ). (register_replied x (seated c.args.given.now host c.args.vctl.now disk kept bag)).reply)
    (sym c.in-Some.is ∙ c.reg_read.ensures))
