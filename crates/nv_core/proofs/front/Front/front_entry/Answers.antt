use Rattle.std.proofs.Common.{◌<◌, ◌≤◌, ◌∙◌, ℕ, length, slice_get, subst, sym, arith, ap}
use Rattle.nv_core.proofs.CallTakes.{front-no_controller, front-nobody, front-none, front-some}
use Rattle.nv_core.proofs.GroupWorlds.{looked-up}
use Rattle.nv_laws_sound.specs.Side.{Side}
use Rattle.nv_mem.specs.GuestMap.{Mapping, mapped}
use Rattle.nv_model.specs.Laws.{QueuesInPlace}
use Rattle.nv_model.specs.Memory.{byte_in}
use Rattle.nv_core.proofs.front.Front.front_entry.Goals as goal

pub returns-in_default : goal.returns-in_default
returns-in_default g c =
    front-nobody c.args.layout.now c.args.self.now c.args.guest c.args.queue (byte_in (g.C.MemoryCell.bytes c.args.host.now)) _ c.in_default.ensures

pub returns-then-number-len : goal.returns-then-number-len
returns-then-number-len g c =
    let past : length c.self.inside.controllers.items ≤ c.args.guest =
    (let l = c.len.ensures in let n = c.from-number.ensures in let t = c.if-number-len.true in omega arith) in
    front-no_controller c.args.layout.now c.args.self.now c.args.guest c.args.queue (byte_in (g.C.MemoryCell.bytes c.args.host.now)) _
    (subst (λ (f : Side). length f.controllers ≤ c.args.guest) c.self.view_is past)

pub peek_sqe-requires-clause-host : goal.peek_sqe-requires-clause-host
peek_sqe-requires-clause-host g c =
    ap (λ (k : Mapping). k.host_len) c.map.ensures ∙ (c.requires.laid_out.given c.args.guest c.in-Some.given.now c.in-Some.ensures).host

pub peek_sqe-requires-clause-in_place : goal.peek_sqe-requires-clause-in_place
peek_sqe-requires-clause-in_place g c =
    let below : c.from-number.result < length c.self.inside.controllers.items = (let l = c.len.ensures in let t = c.if-number-len.false in omega arith) in
    let found = looked-up c.self.inside.controllers.items c.args.guest c.from-number.result c.index.result.now c.from-number.ensures below c.index.ensures in
    subst (λ (k : Mapping). QueuesInPlace (mapped k.regions) c.index.result.now) (sym c.map.ensures)
    (c.requires.kept.queues c.args.guest c.in-Some.given.now c.index.result.now c.in-Some.ensures
    (ap (λ (f : Side). slice_get f.controllers c.args.guest) (sym c.self.view_is) ∙ found))

pub returns-in_default-peek_sqe : goal.returns-in_default-peek_sqe
returns-in_default-peek_sqe g c =
    let h : ℕ → ℕ = byte_in (g.C.MemoryCell.bytes c.args.host.now) in
    let below : c.from-number.result < length c.self.inside.controllers.items = (let l = c.len.ensures in let t = c.if-number-len.false in omega arith) in
    let found = looked-up c.self.inside.controllers.items c.args.guest c.from-number.result c.index.result.now c.from-number.ensures below c.index.ensures in
    front-none c.args.layout.now c.args.self.now c.args.guest c.args.queue h _ c.in-Some.given.now c.index.result.now c.in-Some.ensures
    (ap (λ (f : Side). slice_get f.controllers c.args.guest) (sym c.self.view_is) ∙ found) c.map.result.now c.map.ensures c.in_default-peek_sqe.ensures

pub returns : goal.returns
returns g c =
    let h : ℕ → ℕ = byte_in (g.C.MemoryCell.bytes c.args.host.now) in
    let below : c.from-number.result < length c.self.inside.controllers.items = (let l = c.len.ensures in let t = c.if-number-len.false in omega arith) in
    let found = looked-up c.self.inside.controllers.items c.args.guest c.from-number.result c.index.result.now c.from-number.ensures below c.index.ensures in
    front-some c.args.layout.now c.args.self.now c.args.guest c.args.queue h _ c.in-Some.given.now c.index.result.now c.in-Some.ensures
    (ap (λ (f : Side). slice_get f.controllers c.args.guest) (sym c.self.view_is) ∙ found) c.map.result.now c.map.ensures c.in-Some-peek_sqe.ensures
