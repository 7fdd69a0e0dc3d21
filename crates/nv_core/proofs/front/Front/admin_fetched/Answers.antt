use Rattle.std.proofs.Common.{Option, IfSome, ◌<◌, ◌∙◌, ap, length, subst, sym, arith, ℕ, refl, set}
use Rattle.nv_admin.specs.Administering.{AreMapped}
use Rattle.nv_core.specs.Noted.{AreNoted}
use Rattle.nv_core.proofs.Notes.{noted-set}
use Rattle.nv_core.proofs.GroupWorlds.{looked-up}
use Rattle.nv_core.proofs.CallAdmins.{call-done, call-no_controller, call-nobody, call-unasked}
use Rattle.nv_laws_sound.specs.Side.{IsKept, Side}
use Rattle.nv_mem.specs.GuestMap.{Mapping, mapped}
use Rattle.nv_model.specs.Laws.{QueuesInPlace}
use Rattle.nv_ns.specs.Extents.{blocks_in}
use Rattle.nv_world_model.specs.Geometry.{Guest, regions_of}
use Rattle.nv_core.proofs.front.Front.admin_fetched.Goals as goal

pub returns-in_err-given-clause-call : goal.returns-in_err-given-clause-call
returns-in_err-given-clause-call c =
    rw c.from_residual.ensures
    (call-nobody c.args.layout.now c.args.self.now c.args.self.now c.args.guest c.args.entry.now refl c.in_err-given.ensures)

pub returns-then-number-len-clause-call : goal.returns-then-number-len-clause-call
returns-then-number-len-clause-call c =
    let s : Side = record { lanes = c.self.inside.lanes.items; tails = c.self.inside.tails.items; controllers = c.self.inside.controllers.items } in
    call-no_controller c.args.layout.now s c.args.self.now c.args.guest c.args.entry.now c.self.view_is c.in_ok-given.given.now c.in_ok-given.ensures
    (let l = c.len.ensures in let n = c.from-number.ensures in let t = c.if-number-len.true in omega arith)

pub administer-requires : goal.administer-requires
administer-requires c =
    let s : Side = record { lanes = c.self.inside.lanes.items; tails = c.self.inside.tails.items; controllers = c.self.inside.controllers.items } in
    let below : c.from-number.result < length c.self.inside.controllers.items = (let l = c.len.ensures in let t = c.if-number-len.false in omega arith) in
    let found = looked-up c.self.inside.controllers.items c.args.guest c.from-number.result c.index_mut-vctl.result.now c.from-number.ensures below c.index_mut-vctl.ensures.value in
    let kept : IsKept c.args.layout.now s = subst (λ (f : Side). IsKept c.args.layout.now f) (sym c.self.view_is) c.requires in
    record {
      in_place = subst (λ (k : Mapping). QueuesInPlace (mapped k.regions) c.index_mut-vctl.result.now) (sym c.map.ensures)
          (kept.queues c.args.guest c.in_ok-given.given.now c.index_mut-vctl.result.now c.in_ok-given.ensures found);
    }

pub returns-in_err-given-clause-unasked : goal.returns-in_err-given-clause-unasked
returns-in_err-given-clause-unasked c = λ none other.
    call-unasked c.args.layout.now c.args.self.now c.args.guest other c.args.entry.now c.requires none

pub returns-then-number-len-clause-unasked : goal.returns-then-number-len-clause-unasked
returns-then-number-len-clause-unasked c = λ none other.
    call-unasked c.args.layout.now c.args.self.now c.args.guest other c.args.entry.now c.requires none

pub returns-clause-unasked : goal.returns-clause-unasked
returns-clause-unasked c = λ none other.
    call-unasked c.args.layout.now c.args.self.now c.args.guest other c.args.entry.now c.requires none

pub returns-clause-call : goal.returns-clause-call
returns-clause-call c =
    let s : Side = record { lanes = c.self.inside.lanes.items; tails = c.self.inside.tails.items; controllers = c.self.inside.controllers.items } in
    let below : c.from-number.result < length c.self.inside.controllers.items = (let l = c.len.ensures in let t = c.if-number-len.false in omega arith) in
    let found = looked-up c.self.inside.controllers.items c.args.guest c.from-number.result c.index_mut-vctl.result.now c.from-number.ensures below c.index_mut-vctl.ensures.value in
    call-done c.args.layout.now s c.args.self.now c.args.guest c.args.entry.now c.self.view_is c.in_ok-given.given.now c.in_ok-given.ensures
    c.index_mut-vctl.result.now found c.from-number.result c.administer.new.vctl c.map.result.now c.blocks-block_count.result c.administer.result
    c.from-number.ensures c.map.ensures (c.blocks-block_count.ensures.value ∙ ap blocks_in c.ns.ensures) c.administer.ensures.event

pub returns-clause-mapped : goal.returns-clause-mapped
returns-clause-mapped c =
    subst (λ (g : Option Guest). IfSome g (λ x. AreMapped (mapped (regions_of x)) c.administer.result)) (sym c.in_ok-given.ensures)
    (subst (λ (k : Mapping). AreMapped (mapped k.regions) c.administer.result) c.map.ensures c.administer.ensures.in_map)

pub invariant_of-self : goal.invariant_of-self
invariant_of-self c =
    subst (λ (k : ℕ). AreNoted (set c.self.inside.controllers.items k c.administer.new.vctl) c.noted-self-inside.result) (sym c.from-number.ensures)
    (noted-set c.self.inside.controllers.items c.self.inside.noted c.args.guest c.noted-self-inside.result c.administer.new.vctl c.self.invariant c.noted-self-inside.ensures)
