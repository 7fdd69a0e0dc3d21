use Rattle.std.proofs.Common.{◌≡◌, ◌<◌, ◌∙◌, ℕ, List, Some, length, set, slice_get, ap, refl, sym, subst, arith}
use Rattle.std.proofs.lemmas.Option.{slice_get_read}
use Rattle.nv_core.proofs.GroupWorlds.{taken-below, taken-here, taken-state, taken-there}
use Rattle.nv_core.proofs.Handed.{lane-there}
use Rattle.nv_core.proofs.KeptStates.{IsKeptOf}
use Rattle.nv_laws_sound.proofs.Tails.{tail-of}
use Rattle.nv_core.proofs.Sides.{in-each, of-side, own-side, own-world, quiet-in, rung-in, state_in, tail-stays, tail-there}
use Rattle.nv_core.proofs.Submits.{have-room, on-device, submit-done, submit-nobody, submit-not, submitted-same}
use Rattle.nv_core.proofs.Waits.{waits}
use Rattle.nv_core.specs.Front.{HasTailMoved, IsSideOf}
use Rattle.nv_laws_sound.specs.Side.{Side}
use Rattle.nv_core.specs.State.{IsStep, State}
use Rattle.nv_core.specs.Submit.{HaveRoom}
use Rattle.nv_device.specs.Physical.{lane_of}
use Rattle.nv_laws_sound.proofs.Lists.{set-same, some-same}
use Rattle.nv_laws_sound.specs.Unplaced.{after_unplaced}
use Rattle.nv_model.specs.declared.reply.Reply.TheVariants as reply
use Rattle.nv_world_model.specs.Area.{ring_size}
use Rattle.nv_world_model.specs.Device.{DeviceLane}
use Rattle.nv_world_model.specs.World.{Command, Lane, World}
use Rattle.nv_world_model.specs.declared.event.Event.TheVariants as event
use Rattle.nv_core.proofs.front.Front.submit.Goals as goal

pub returns-in-Some-clause-ok : goal.returns-in-Some-clause-ok
returns-in-Some-clause-ok g c =
    let m : List ℕ = g.C.MemoryCell.bytes c.args.host.now in
    in-each c.args.layout.now (event.Submit c.args.lane c.args.tag) c.args.self.now c.args.self.now m m c.in-Some.reply tt (λ w is.
    let old : State = state_in c.args.layout.now c.args.self.now m w is in
    ap after_unplaced
    (quiet-in c.args.layout.now c.args.self.now m w is (event.Submit c.args.lane c.args.tag) tt _ c.args.self.now m refl
    (submit-not c.args.layout.now old c.args.lane c.args.tag c.untaken.result c.in-Some.reply c.untaken.ensures c.in-Some.is)))

pub returns-in-Some-clause-tails : goal.returns-in-Some-clause-tails
returns-in-Some-clause-tails g c =
    tail-stays c.args.layout.now c.args.self.now c.args.lane c.requires.kept

pub index-requires : goal.index-requires
index-requires g c =
    let m : List ℕ = g.C.MemoryCell.bytes c.args.host.now in
    let w : World = own-world c.args.self.now m in
    let is : IsSideOf c.args.self.now m w = own-side c.args.self.now m in
    let old : State = state_in c.args.layout.now c.args.self.now m w is in
    let s : State = record { host = m; device = old.device; lanes = c.self.inside.lanes.items; controllers = c.self.inside.controllers.items } in
    let same : s ≡ old = ap (λ (f : Side). let o : State = record { host = m; device = old.device; lanes = f.lanes; controllers = f.controllers } in o) c.self.view_is in
    let t = taken-here s old c.args.lane c.args.tag c.untaken.result same c.untaken.ensures c.in_default.is in
    let below = taken-below c.self.inside.lanes.items c.args.lane c.args.tag t in
    let number = c.from-at.ensures in
    omega (arith, below, number)

pub claimed-requires : goal.claimed-requires
claimed-requires g c =
    let m : List ℕ = g.C.MemoryCell.bytes c.args.host.now in
    let w : World = own-world c.args.self.now m in
    let is : IsSideOf c.args.self.now m w = own-side c.args.self.now m in
    let old : State = state_in c.args.layout.now c.args.self.now m w is in
    let s : State = record { host = m; device = old.device; lanes = c.self.inside.lanes.items; controllers = c.self.inside.controllers.items } in
    let same : s ≡ old = ap (λ (f : Side). let o : State = record { host = m; device = old.device; lanes = f.lanes; controllers = f.controllers } in o) c.self.view_is in
    let t = taken-here s old c.args.lane c.args.tag c.untaken.result same c.untaken.ensures c.in_default.is in
    taken-state c.self.inside.lanes.items c.args.lane c.args.tag t c.from-at.result c.index.result.now c.from-at.ensures c.index.ensures

pub returns-in_default-guest-clause-ok : goal.returns-in_default-guest-clause-ok
returns-in_default-guest-clause-ok g c =
    let m : List ℕ = g.C.MemoryCell.bytes c.args.host.now in
    in-each c.args.layout.now (event.Submit c.args.lane c.args.tag) c.args.self.now c.args.self.now m m reply.Stale tt (λ w is.
    let old : State = state_in c.args.layout.now c.args.self.now m w is in
    let s : State = record { host = m; device = old.device; lanes = c.self.inside.lanes.items; controllers = c.self.inside.controllers.items } in
    let same : s ≡ old = ap (λ (f : Side). let o : State = record { host = m; device = old.device; lanes = f.lanes; controllers = f.controllers } in o) c.self.view_is in
    let t = taken-here s old c.args.lane c.args.tag c.untaken.result same c.untaken.ensures c.in_default.is in
    let guest =
    ap (λ (d : Command). d.guest) (c.claimed.ensures t.command t.reads
    (taken-there c.self.inside.lanes.items c.args.lane c.args.tag t c.from-at.result c.index.result.now c.from-at.ensures c.index.ensures)) in
    ap after_unplaced
    (quiet-in c.args.layout.now c.args.self.now m w is (event.Submit c.args.lane c.args.tag) tt _ c.args.self.now m refl
    (subst (λ (o : State). IsStep c.args.layout.now (event.Submit c.args.lane c.args.tag) o reply.Stale o) same
    (submit-nobody c.args.layout.now s c.args.lane c.args.tag t c.claimed.result.now.guest guest c.in_default-guest.ensures))))

pub returns-in_default-guest-clause-tails : goal.returns-in_default-guest-clause-tails
returns-in_default-guest-clause-tails g c =
    tail-stays c.args.layout.now c.args.self.now c.args.lane c.requires.kept

pub index_mut-ring-requires : goal.index_mut-ring-requires
index_mut-ring-requires g c =
    let m : List ℕ = g.C.MemoryCell.bytes c.args.host.now in
    let w : World = own-world c.args.self.now m in
    let is : IsSideOf c.args.self.now m w = own-side c.args.self.now m in
    let old : State = state_in c.args.layout.now c.args.self.now m w is in
    let s : State = record { host = m; device = old.device; lanes = c.self.inside.lanes.items; controllers = c.self.inside.controllers.items } in
    let same : s ≡ old = ap (λ (f : Side). let o : State = record { host = m; device = old.device; lanes = f.lanes; controllers = f.controllers } in o) c.self.view_is in
    let t = taken-here s old c.args.lane c.args.tag c.untaken.result same c.untaken.ensures c.in_default.is in
    let below = taken-below c.self.inside.lanes.items c.args.lane c.args.tag t in
    let number = c.from-at.ensures in
    omega (arith, below, number)

pub index_mut-tail-requires : goal.index_mut-tail-requires
index_mut-tail-requires g c =
    let m : List ℕ = g.C.MemoryCell.bytes c.args.host.now in
    let w : World = own-world c.args.self.now m in
    let is : IsSideOf c.args.self.now m w = own-side c.args.self.now m in
    let old : State = state_in c.args.layout.now c.args.self.now m w is in
    let s : State = record { host = m; device = old.device; lanes = c.self.inside.lanes.items; controllers = c.self.inside.controllers.items } in
    let same : s ≡ old = ap (λ (f : Side). let o : State = record { host = m; device = old.device; lanes = f.lanes; controllers = f.controllers } in o) c.self.view_is in
    let t = taken-here s old c.args.lane c.args.tag c.untaken.result same c.untaken.ensures c.in_default.is in
    let below = taken-below c.self.inside.lanes.items c.args.lane c.args.tag t in
    let number = c.from-at.ensures in
    let many : length c.self.inside.tails.items ≡ length c.self.inside.lanes.items = subst (λ (f : Side). length f.tails ≡ length f.lanes) (sym c.self.view_is) c.requires.kept.many in
    omega (arith, below, number, many)

pub submit_on-requires-clause-room : goal.submit_on-requires-clause-room
submit_on-requires-clause-room g c =
    let m : List ℕ = g.C.MemoryCell.bytes c.args.host.now in
    let w : World = own-world c.args.self.now m in
    let is : IsSideOf c.args.self.now m w = own-side c.args.self.now m in
    let old : State = state_in c.args.layout.now c.args.self.now m w is in
    let s : State = record { host = m; device = old.device; lanes = c.self.inside.lanes.items; controllers = c.self.inside.controllers.items } in
    let same : s ≡ old = ap (λ (f : Side). let o : State = record { host = m; device = old.device; lanes = f.lanes; controllers = f.controllers } in o) c.self.view_is in
    let of : IsKeptOf c.args.layout.now s = subst (IsKeptOf c.args.layout.now) (sym same) (of-side c.args.layout.now c.args.self.now m w is c.requires) in
    let t = taken-here s old c.args.lane c.args.tag c.untaken.result same c.untaken.ensures c.in_default.is in
    let guest =
    ap (λ (d : Command). d.guest) (c.claimed.ensures t.command t.reads
    (taken-there c.self.inside.lanes.items c.args.lane c.args.tag t c.from-at.result c.index.result.now c.from-at.ensures c.index.ensures)) in
    let there = subst (λ (n : ℕ). slice_get c.args.layout.now.guests n ≡ Some c.in-Some-guest.given.now) guest c.in-Some-guest.ensures in
    subst (λ (n : ℕ). HaveRoom n c.args.lane c.in-Some-guest.given.now m) (sym c.mediator.ensures)
    (have-room c.args.layout.now s c.args.lane c.args.tag t c.in-Some-guest.given.now of there)

pub submit_on-requires-clause-tail : goal.submit_on-requires-clause-tail
submit_on-requires-clause-tail g c =
    let m : List ℕ = g.C.MemoryCell.bytes c.args.host.now in
    let w : World = own-world c.args.self.now m in
    let is : IsSideOf c.args.self.now m w = own-side c.args.self.now m in
    let old : State = state_in c.args.layout.now c.args.self.now m w is in
    let s : State = record { host = m; device = old.device; lanes = c.self.inside.lanes.items; controllers = c.self.inside.controllers.items } in
    let same : s ≡ old = ap (λ (f : Side). let o : State = record { host = m; device = old.device; lanes = f.lanes; controllers = f.controllers } in o) c.self.view_is in
    let of : IsKeptOf c.args.layout.now s = subst (IsKeptOf c.args.layout.now) (sym same) (of-side c.args.layout.now c.args.self.now m w is c.requires) in
    let t = taken-here s old c.args.lane c.args.tag c.untaken.result same c.untaken.ensures c.in_default.is in
    let below = taken-below c.self.inside.lanes.items c.args.lane c.args.tag t in
    let number = c.from-at.ensures in
    let guest =
    ap (λ (d : Command). d.guest) (c.claimed.ensures t.command t.reads
    (taken-there c.self.inside.lanes.items c.args.lane c.args.tag t c.from-at.result c.index.result.now c.from-at.ensures c.index.ensures)) in
    let there = subst (λ (n : ℕ). slice_get c.args.layout.now.guests n ≡ Some c.in-Some-guest.given.now) guest c.in-Some-guest.ensures in
    let many : length c.self.inside.tails.items ≡ length c.self.inside.lanes.items = subst (λ (f : Side). length f.tails ≡ length f.lanes) (sym c.self.view_is) c.requires.kept.many in
    let d : DeviceLane = lane_of s.device c.args.lane in
    let there_d = lane-there c.args.lane s.device (on-device c.args.layout.now s c.args.lane c.args.tag t c.in-Some-guest.given.now of there) in
    let at : c.index_mut-tail.result.now ≡ d.tail =
    some-same c.index_mut-tail.result.now d.tail
    (sym (slice_get_read c.self.inside.tails.items (length c.self.inside.tails.items) c.from-at.result c.index_mut-tail.result.now refl (omega (arith, below, number, many)) c.index_mut-tail.ensures.value)
    ∙ ap (λ (n : ℕ). slice_get c.self.inside.tails.items n) c.from-at.ensures
    ∙ ap (λ (f : Side). slice_get f.tails c.args.lane) c.self.view_is
    ∙ tail-there c.args.layout.now c.args.self.now m w is c.args.lane d there_d) in
    let fits : d.tail < ring_size = of.kept.slots c.args.lane d.tail (tail-of s.device.lanes c.args.lane d there_d) in
    subst (λ (n : ℕ). n < ring_size) (sym at) fits

pub submit_on-requires-clause-waits : goal.submit_on-requires-clause-waits
submit_on-requires-clause-waits g c =
    let m : List ℕ = g.C.MemoryCell.bytes c.args.host.now in
    let w : World = own-world c.args.self.now m in
    let is : IsSideOf c.args.self.now m w = own-side c.args.self.now m in
    let old : State = state_in c.args.layout.now c.args.self.now m w is in
    let s : State = record { host = m; device = old.device; lanes = c.self.inside.lanes.items; controllers = c.self.inside.controllers.items } in
    let same : s ≡ old = ap (λ (f : Side). let o : State = record { host = m; device = old.device; lanes = f.lanes; controllers = f.controllers } in o) c.self.view_is in
    let of : IsKeptOf c.args.layout.now s = subst (IsKeptOf c.args.layout.now) (sym same) (of-side c.args.layout.now c.args.self.now m w is c.requires) in
    let t = taken-here s old c.args.lane c.args.tag c.untaken.result same c.untaken.ensures c.in_default.is in
    let guest =
    ap (λ (d : Command). d.guest) (c.claimed.ensures t.command t.reads
    (taken-there c.self.inside.lanes.items c.args.lane c.args.tag t c.from-at.result c.index.result.now c.from-at.ensures c.index.ensures)) in
    let there = subst (λ (n : ℕ). slice_get c.args.layout.now.guests n ≡ Some c.in-Some-guest.given.now) guest c.in-Some-guest.ensures in
    waits c.args.layout.now s of c.args.lane c.args.tag c.from-at.result c.index_mut-ring.result.now t c.from-at.ensures c.index_mut-ring.ensures.value c.in-Some-guest.given.now there

pub returns-clause-ok : goal.returns-clause-ok
returns-clause-ok g c =
    let m : List ℕ = g.C.MemoryCell.bytes c.args.host.now in
    in-each c.args.layout.now (event.Submit c.args.lane c.args.tag) c.args.self.now (record { lanes = set c.self.inside.lanes.items c.from-at.result c.submit_on.new.ring; tails = set c.self.inside.tails.items c.from-at.result c.submit_on.new.tail; controllers = c.self.inside.controllers.items }) m (g.C.MemoryCell.bytes c.submit_on.new.host) c.in_ok-reply.reply tt (λ w is.
    let old : State = state_in c.args.layout.now c.args.self.now m w is in
    let s : State = record { host = m; device = old.device; lanes = c.self.inside.lanes.items; controllers = c.self.inside.controllers.items } in
    let same : s ≡ old = ap (λ (f : Side). let o : State = record { host = m; device = old.device; lanes = f.lanes; controllers = f.controllers } in o) c.self.view_is in
    let of : IsKeptOf c.args.layout.now s = subst (IsKeptOf c.args.layout.now) (sym same) (of-side c.args.layout.now c.args.self.now m w is c.requires) in
    let t = taken-here s old c.args.lane c.args.tag c.untaken.result same c.untaken.ensures c.in_default.is in
    let below = taken-below c.self.inside.lanes.items c.args.lane c.args.tag t in
    let number = c.from-at.ensures in
    let guest =
    ap (λ (d : Command). d.guest) (c.claimed.ensures t.command t.reads
    (taken-there c.self.inside.lanes.items c.args.lane c.args.tag t c.from-at.result c.index.result.now c.from-at.ensures c.index.ensures)) in
    let there = subst (λ (n : ℕ). slice_get c.args.layout.now.guests n ≡ Some c.in-Some-guest.given.now) guest c.in-Some-guest.ensures in
    let many : length c.self.inside.tails.items ≡ length c.self.inside.lanes.items = subst (λ (f : Side). length f.tails ≡ length f.lanes) (sym c.self.view_is) c.requires.kept.many in
    let d : DeviceLane = lane_of s.device c.args.lane in
    let there_d = lane-there c.args.lane s.device (on-device c.args.layout.now s c.args.lane c.args.tag t c.in-Some-guest.given.now of there) in
    let at : c.index_mut-tail.result.now ≡ d.tail =
    some-same c.index_mut-tail.result.now d.tail
    (sym (slice_get_read c.self.inside.tails.items (length c.self.inside.tails.items) c.from-at.result c.index_mut-tail.result.now refl (omega (arith, below, number, many)) c.index_mut-tail.ensures.value)
    ∙ ap (λ (n : ℕ). slice_get c.self.inside.tails.items n) c.from-at.ensures
    ∙ ap (λ (f : Side). slice_get f.tails c.args.lane) c.self.view_is
    ∙ tail-there c.args.layout.now c.args.self.now m w is c.args.lane d there_d) in
    rung-in c.args.layout.now c.args.self.now m w is (event.Submit c.args.lane c.args.tag) tt _ (let n : Side = record { lanes = set c.self.inside.lanes.items c.from-at.result c.submit_on.new.ring; tails = set c.self.inside.tails.items c.from-at.result c.submit_on.new.tail; controllers = c.self.inside.controllers.items } in n)
    (g.C.MemoryCell.bytes c.submit_on.new.host) c.args.lane c.submit_on.new.tail d there_d
    (ap (λ (n : ℕ). set c.self.inside.tails.items n c.submit_on.new.tail) c.from-at.ensures ∙ ap (λ (f : Side). set f.tails c.args.lane c.submit_on.new.tail) c.self.view_is)
    (submit-done c.args.layout.now s c.args.lane c.args.tag t c.in-Some-guest.given.now of there old
    c.from-at.result c.index_mut-ring.result.now c.submit_on.new.ring (g.C.MemoryCell.bytes c.submit_on.new.host) c.index_mut-tail.result.now c.submit_on.new.tail _ c.in_ok-reply.reply c.mediator.result
    same c.from-at.ensures c.index_mut-ring.ensures.value c.mediator.ensures at refl
    (c.in_ok-reply.ensures.ok t.command t.reads
    (taken-there c.self.inside.lanes.items c.args.lane c.args.tag t c.from-at.result c.index_mut-ring.result.now c.from-at.ensures c.index_mut-ring.ensures.value))))

pub returns-clause-tails : goal.returns-clause-tails
returns-clause-tails g c =
    subst (λ (ts : List ℕ). HasTailMoved c.args.lane ts (set c.self.inside.tails.items c.from-at.result c.submit_on.new.tail)) (ap (λ (f : Side). f.tails) c.self.view_is)
    (record { tail = c.submit_on.new.tail; fits = c.submit_on.ensures.fits; is = ap (λ (n : ℕ). set c.self.inside.tails.items n c.submit_on.new.tail) c.from-at.ensures })

pub returns-clause-same : goal.returns-clause-same
returns-clause-same g c = λ off.
    let m : List ℕ = g.C.MemoryCell.bytes c.args.host.now in
    let w : World = own-world c.args.self.now m in
    let is : IsSideOf c.args.self.now m w = own-side c.args.self.now m in
    let old : State = state_in c.args.layout.now c.args.self.now m w is in
    let s : State = record { host = m; device = old.device; lanes = c.self.inside.lanes.items; controllers = c.self.inside.controllers.items } in
    let same : s ≡ old = ap (λ (f : Side). let o : State = record { host = m; device = old.device; lanes = f.lanes; controllers = f.controllers } in o) c.self.view_is in
    let t = taken-here s old c.args.lane c.args.tag c.untaken.result same c.untaken.ensures c.in_default.is in
    let below = taken-below c.self.inside.lanes.items c.args.lane c.args.tag t in
    let number = c.from-at.ensures in
    let many : length c.self.inside.tails.items ≡ length c.self.inside.lanes.items = subst (λ (f : Side). length f.tails ≡ length f.lanes) (sym c.self.view_is) c.requires.kept.many in
    let stays = submitted-same _ _ _ _ _ _ _ _ _ _ _ _ _ (c.in_ok-reply.ensures.ok t.command t.reads
    (taken-there c.self.inside.lanes.items c.args.lane c.args.tag t c.from-at.result c.index_mut-ring.result.now c.from-at.ensures c.index_mut-ring.ensures.value)) off in
    let lanes : set c.self.inside.lanes.items c.from-at.result c.submit_on.new.ring ≡ c.self.inside.lanes.items =
    ap (set c.self.inside.lanes.items c.from-at.result) stays.1
    ∙ set-same c.self.inside.lanes.items c.from-at.result c.index_mut-ring.result.now
    (slice_get_read c.self.inside.lanes.items (length c.self.inside.lanes.items) c.from-at.result c.index_mut-ring.result.now refl (omega (arith, below, number)) c.index_mut-ring.ensures.value) in
    let tails : set c.self.inside.tails.items c.from-at.result c.submit_on.new.tail ≡ c.self.inside.tails.items =
    ap (set c.self.inside.tails.items c.from-at.result) stays.0
    ∙ set-same c.self.inside.tails.items c.from-at.result c.index_mut-tail.result.now
    (slice_get_read c.self.inside.tails.items (length c.self.inside.tails.items) c.from-at.result c.index_mut-tail.result.now refl (omega (arith, below, number, many)) c.index_mut-tail.ensures.value) in
    ap (λ (ls : List Lane). let x : Side = record { lanes = ls; tails = set c.self.inside.tails.items c.from-at.result c.submit_on.new.tail; controllers = c.self.inside.controllers.items } in x) lanes
    ∙ ap (λ (ts : List ℕ). let x : Side = record { lanes = c.self.inside.lanes.items; tails = ts; controllers = c.self.inside.controllers.items } in x) tails
    ∙ c.self.view_is
