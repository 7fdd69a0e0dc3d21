use Rattle.std.proofs.Common.{◌≡◌, refl, ℕ, ◌+◌, ◌<◌, ◌^◌, ◌∙◌, List, Some, length, slice_get, ap, subst, sym, arith}
use Rattle.nv_core.proofs.Besides.{beside-due, undue-none}
use Rattle.nv_core.proofs.GroupWorlds.{looked-up}
use Rattle.nv_core.proofs.ReapAnswers.{waits-told}
use Rattle.nv_core.specs.Front.{IsBeside}
use Rattle.nv_laws_sound.specs.Side.{Side}
use Rattle.nv_core.specs.Kept.{IsLent}
use Rattle.nv_model.specs.Memory.{byte_in, bytes_from}
use Rattle.nv_model.specs.Queue.{cqe_size}
use Rattle.nv_world_model.specs.Area.{completion_slot, lane_start}
use Rattle.nv_world_model.specs.World.{Lane}
use Rattle.nv_core.proofs.front.Front.reap_due.Goals as goal

pub completion_slot-slot-requires-clause-area : goal.completion_slot-slot-requires-clause-area
completion_slot-slot-requires-clause-area g c =
    let m : List ℕ = g.C.MemoryCell.bytes c.args.host.now in
    let side : Side = record { lanes = c.self.inside.lanes.items; tails = c.self.inside.tails.items; controllers = c.self.inside.controllers.items } in
    let lent : IsLent c.args.layout.now side m = subst (λ (f : Side). IsLent c.args.layout.now f m) (sym c.self.view_is) c.requires in
    let below : c.from-at.result < length c.self.inside.lanes.items = (let l = c.len.ensures in let n = c.from-at.ensures in let t = c.if-at-len.false in omega arith) in
    let area = lent.laid_out.area in
    let size = c.len-known.ensures in
    let few = c.len-known.type_inv in
    let at = c.from-at.ensures in
    subst (λ (n : ℕ). lane_start n (c.args.lane + 1) < 2 ^ 64) (sym c.mediator.ensures) (omega (arith, area, size, few, at, below))

pub last_dword_at-last-requires : goal.last_dword_at-last-requires
last_dword_at-last-requires g c = λ some.
    let m : List ℕ = g.C.MemoryCell.bytes c.args.host.now in
    let side : Side = record { lanes = c.self.inside.lanes.items; tails = c.self.inside.tails.items; controllers = c.self.inside.controllers.items } in
    let lent : IsLent c.args.layout.now side m = subst (λ (f : Side). IsLent c.args.layout.now f m) (sym c.self.view_is) c.requires in
    let below : c.from-at.result < length c.self.inside.lanes.items = (let l = c.len.ensures in let n = c.from-at.ensures in let t = c.if-at-len.false in omega arith) in
    let area = lent.laid_out.area in
    let at = c.from-at.ensures in
    let begins = c.mediator.ensures in
    let slot = c.completion_slot-slot.ensures in
    let low = c.head.ensures.fits in
    omega (arith, area, at, below, begins, slot, low)

pub phase_in-requires : goal.phase_in-requires
phase_in-requires g c = c.last_dword_at-last.ensures

pub returns-clause-answer : goal.returns-clause-answer
returns-clause-answer g c =
    let m : List ℕ = g.C.MemoryCell.bytes c.args.host.now in
    let below : c.from-at.result < length c.self.inside.lanes.items = (let l = c.len.ensures in let n = c.from-at.ensures in let t = c.if-at-len.false in omega arith) in
    let l : Lane = c.index-ring.result.now in
    let there : slice_get c.args.self.now.lanes c.args.lane ≡ Some l =
    ap (λ (f : Side). slice_get f.lanes c.args.lane) (sym c.self.view_is)
    ∙ looked-up c.self.inside.lanes.items c.args.lane c.from-at.result l c.from-at.ensures below c.index-ring.ensures in
    let at_head : c.completion_slot-slot.result ≡ completion_slot c.args.layout.now.mediator c.args.lane l.head =
    c.completion_slot-slot.ensures ∙ ap (λ (n : ℕ). completion_slot n c.args.lane c.head.result) c.mediator.ensures
    ∙ ap (completion_slot c.args.layout.now.mediator c.args.lane) c.head.ensures.value in
    waits-told c.args.layout.now c.args.lane c.args.self.now.lanes l m (bytes_from (byte_in m) c.completion_slot-slot.result cqe_size) there
    (ap (λ (a : ℕ). bytes_from (byte_in m) a cqe_size) at_head) c.phase_in.result c.wanted_phase.result c.phase_in.ensures
    c.wanted_phase.ensures

pub returns-then-at-len-clause-beside : goal.returns-then-at-len-clause-beside
returns-then-at-len-clause-beside g c = λ w on0 live.
    let m : List ℕ = g.C.MemoryCell.bytes c.args.host.now in
    let side : Side = record { lanes = c.self.inside.lanes.items; tails = c.self.inside.tails.items; controllers = c.self.inside.controllers.items } in
    let lent : IsLent c.args.layout.now side m = subst (λ (f : Side). IsLent c.args.layout.now f m) (sym c.self.view_is) c.requires in
    let on : IsBeside side m w = subst (λ (f : Side). IsBeside f m w) (sym c.self.view_is) on0 in
    undue-none c.args.layout.now side m w on live lent.laid_out c.args.lane
    (let l = c.len.ensures in let n = c.from-at.ensures in let t = c.if-at-len.true in omega arith)

pub returns-clause-beside : goal.returns-clause-beside
returns-clause-beside g c = λ w on0 live.
    let m : List ℕ = g.C.MemoryCell.bytes c.args.host.now in
    let side : Side = record { lanes = c.self.inside.lanes.items; tails = c.self.inside.tails.items; controllers = c.self.inside.controllers.items } in
    let lent : IsLent c.args.layout.now side m = subst (λ (f : Side). IsLent c.args.layout.now f m) (sym c.self.view_is) c.requires in
    let on : IsBeside side m w = subst (λ (f : Side). IsBeside f m w) (sym c.self.view_is) on0 in
    let below : c.from-at.result < length c.self.inside.lanes.items = (let l = c.len.ensures in let n = c.from-at.ensures in let t = c.if-at-len.false in omega arith) in
    beside-due c.args.layout.now side m w on live lent.laid_out c.args.lane c.from-at.result c.index-ring.result.now c.from-at.ensures below c.index-ring.ensures
    c.head.result c.completion_slot-slot.result c.head.ensures.value
    (c.completion_slot-slot.ensures ∙ ap (λ (n : ℕ). completion_slot n c.args.lane c.head.result) c.mediator.ensures)
    (bytes_from (byte_in m) c.completion_slot-slot.result cqe_size) refl c.phase_in.result c.wanted_phase.result c.phase_in.ensures c.wanted_phase.ensures
