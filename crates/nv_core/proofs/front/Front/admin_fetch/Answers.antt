use Rattle.std.proofs.Common.{◌<◌, ap, length, slice_get, subst, sym, ◌∙◌, arith, refl}
use Rattle.nv_core.proofs.GroupWorlds.{looked-up}
use Rattle.nv_core.proofs.CallAdmins.{fetch-done, fetch-no_controller, fetch-nobody}
use Rattle.nv_laws_sound.specs.Side.{Side}
use Rattle.nv_mem.specs.GuestMap.{Mapping, mapped}
use Rattle.nv_model.specs.Laws.{QueuesInPlace}
use Rattle.nv_vctl.proofs.Entries.{submissions-fit}
use Rattle.nv_core.proofs.front.Front.admin_fetch.Goals as goal

pub returns-in_err-given : goal.returns-in_err-given
returns-in_err-given c =
    rw c.from_residual.ensures (fetch-nobody c.args.layout.now c.args.self.now c.args.self.now c.args.guest refl c.in_err-given.ensures)

pub returns-then-number-len : goal.returns-then-number-len
returns-then-number-len c =
    let s : Side = record { lanes = c.self.inside.lanes.items; tails = c.self.inside.tails.items; controllers = c.self.inside.controllers.items } in
    fetch-no_controller c.args.layout.now s c.args.self.now c.args.guest c.self.view_is c.in_ok-given.given.now c.in_ok-given.ensures
    (let l = c.len.ensures in let n = c.from-number.ensures in let t = c.if-number-len.true in omega arith)

pub command_at-requires : goal.command_at-requires
command_at-requires c =
    let below : c.from-number.result < length c.self.inside.controllers.items = (let l = c.len.ensures in let t = c.if-number-len.false in omega arith) in
    let found = looked-up c.self.inside.controllers.items c.args.guest c.from-number.result c.index.result.now c.from-number.ensures below c.index.ensures in
    submissions-fit c.map.result.now c.index.result.now c.host_len-known.ensures.sound
    (subst (λ (k : Mapping). QueuesInPlace (mapped k.regions) c.index.result.now) (sym c.map.ensures)
    (c.requires.queues c.args.guest c.in_ok-given.given.now c.index.result.now c.in_ok-given.ensures
    (ap (λ (f : Side). slice_get f.controllers c.args.guest) (sym c.self.view_is) ∙ found)))

pub returns : goal.returns
returns c =
    let s : Side = record { lanes = c.self.inside.lanes.items; tails = c.self.inside.tails.items; controllers = c.self.inside.controllers.items } in
    let below : c.from-number.result < length c.self.inside.controllers.items = (let l = c.len.ensures in let t = c.if-number-len.false in omega arith) in
    let found = looked-up c.self.inside.controllers.items c.args.guest c.from-number.result c.index.result.now c.from-number.ensures below c.index.ensures in
    fetch-done c.args.layout.now s c.args.self.now c.args.guest c.self.view_is c.in_ok-given.given.now c.in_ok-given.ensures
    c.index.result.now c.command_at.result found c.command_at.ensures
