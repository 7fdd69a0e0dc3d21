use Rattle.std.proofs.Common.{◌<◌, ◌∙◌, length, subst, sym, refl, arith, ℕ, set}
use Rattle.nv_core.specs.Noted.{AreNoted}
use Rattle.nv_core.proofs.Notes.{noted-set}
use Rattle.nv_core.proofs.GroupWorlds.{looked-up}
use Rattle.nv_core.proofs.CallTakes.{call-done, call-no_controller, call-no_lane, call-no_queue, call-nobody}
use Rattle.nv_core.specs.Front.{CountMore}
use Rattle.nv_laws_sound.proofs.Lists.{slice_get-there}
use Rattle.nv_laws_sound.specs.Side.{Side}
use Rattle.nv_core.proofs.front.Front.take_fetched.Goals as goal

pub returns-in_default-clause-call : goal.returns-in_default-clause-call
returns-in_default-clause-call c =
    call-nobody c.args.layout.now c.args.self.now c.args.self.now c.args.guest c.args.queue c.args.lane c.args.entry refl c.in_default.ensures

pub returns-then-number-len-clause-call : goal.returns-then-number-len-clause-call
returns-then-number-len-clause-call c =
    let s : Side = record { lanes = c.self.inside.lanes.items; tails = c.self.inside.tails.items; controllers = c.self.inside.controllers.items } in
    call-no_controller c.args.layout.now s c.args.self.now c.args.guest c.args.queue c.args.lane c.args.entry c.self.view_is c.in-Some.given.now c.in-Some.ensures
    (let l = c.len.ensures in let n = c.from-number.ensures in let t = c.if-number-len.true in omega arith)

pub returns-then-at-len-clause-call : goal.returns-then-at-len-clause-call
returns-then-at-len-clause-call c =
    let s : Side = record { lanes = c.self.inside.lanes.items; tails = c.self.inside.tails.items; controllers = c.self.inside.controllers.items } in
    let here = slice_get-there c.self.inside.controllers.items c.args.guest (let n = c.from-number.ensures in let l = c.len.ensures in let t = c.if-number-len.false in omega arith) in
    call-no_lane c.args.layout.now s c.args.self.now c.args.guest c.args.queue c.args.lane c.args.entry c.self.view_is c.in-Some.given.now c.in-Some.ensures
    here.0 here.1 (let l = c.len-2.ensures in let n = c.from-at.ensures in let t = c.if-at-len.true in omega arith)

pub returns-then-not-is_io_queue-clause-call : goal.returns-then-not-is_io_queue-clause-call
returns-then-not-is_io_queue-clause-call c =
    let s : Side = record { lanes = c.self.inside.lanes.items; tails = c.self.inside.tails.items; controllers = c.self.inside.controllers.items } in
    let here = slice_get-there c.self.inside.controllers.items c.args.guest (let n = c.from-number.ensures in let l = c.len.ensures in let t = c.if-number-len.false in omega arith) in
    let lane = slice_get-there c.self.inside.lanes.items c.args.lane (let n = c.from-at.ensures in let l = c.len-2.ensures in let t = c.if-at-len.false in omega arith) in
    call-no_queue c.args.layout.now s c.args.self.now c.args.guest c.args.queue c.args.lane c.args.entry c.self.view_is c.in-Some.given.now c.in-Some.ensures
    here.0 here.1 lane.0 lane.1 (sym c.is_io_queue.ensures ∙ c.if-not-is_io_queue.true)

pub take_front-requires : goal.take_front-requires
take_front-requires c =
    let below : c.from-number.result < length c.self.inside.controllers.items = (let l = c.len.ensures in let t = c.if-number-len.false in omega arith) in
    let found = looked-up c.self.inside.controllers.items c.args.guest c.from-number.result c.index_mut-vctl.result.now c.from-number.ensures below c.index_mut-vctl.ensures.value in
    subst (λ (f : Side). CountMore c.args.guest f.controllers) (sym c.self.view_is) c.requires c.index_mut-vctl.result.now c.args.queue found

pub returns-clause-call : goal.returns-clause-call
returns-clause-call c =
    let s : Side = record { lanes = c.self.inside.lanes.items; tails = c.self.inside.tails.items; controllers = c.self.inside.controllers.items } in
    let below : c.from-number.result < length c.self.inside.controllers.items = (let l = c.len.ensures in let t = c.if-number-len.false in omega arith) in
    let found = looked-up c.self.inside.controllers.items c.args.guest c.from-number.result c.index_mut-vctl.result.now c.from-number.ensures below c.index_mut-vctl.ensures.value in
    let below_lane : c.from-at.result < length c.self.inside.lanes.items = (let l = c.len-2.ensures in let t = c.if-at-len.false in omega arith) in
    let found_lane = looked-up c.self.inside.lanes.items c.args.lane c.from-at.result c.index_mut-ring.result.now c.from-at.ensures below_lane c.index_mut-ring.ensures.value in
    call-done c.args.layout.now s c.args.self.now c.args.guest c.args.queue c.args.lane c.args.entry c.self.view_is c.in-Some.given.now c.in-Some.ensures
    c.index_mut-vctl.result.now found c.index_mut-ring.result.now found_lane c.from-number.result c.from-at.result c.take_front.new.vctl c.take_front.new.ring
    c.take_front.result c.from-number.ensures c.from-at.ensures (sym c.is_io_queue.ensures ∙ c.if-not-is_io_queue.false) c.take_front.ensures

pub invariant_of-self : goal.invariant_of-self
invariant_of-self c =
    subst (λ (k : ℕ). AreNoted (set c.self.inside.controllers.items k c.take_front.new.vctl) c.noted-self-inside.result) (sym c.from-number.ensures)
    (noted-set c.self.inside.controllers.items c.self.inside.noted c.args.guest c.noted-self-inside.result c.take_front.new.vctl c.self.invariant c.noted-self-inside.ensures)
