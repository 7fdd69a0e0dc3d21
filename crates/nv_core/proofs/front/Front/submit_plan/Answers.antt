use Rattle.std.proofs.Common.{◌≡◌, ◌<◌, ◌∙◌, ℕ, List, Some, length, set, slice_get, ap, refl, sym, subst, arith}
use Rattle.std.proofs.lemmas.Option.{slice_get_read}
use Rattle.nv_core.proofs.GroupWorlds.{taken-below, taken-there}
use Rattle.nv_core.proofs.Handed.{lane-there}
use Rattle.nv_core.proofs.PlanSubmits.{come-of, guest-of, tag-of}
use Rattle.nv_core.proofs.KeptStates.{IsKeptOf}
use Rattle.nv_laws_sound.proofs.Tails.{tail-of}
use Rattle.nv_core.proofs.Sides.{in-each, of-side, own-side, own-world, rung-in, state_in, tail-stays, tail-there}
use Rattle.nv_core.proofs.SubmitJobs.{one-taken}
use Rattle.nv_core.proofs.Submits.{have-room, on-device, submit-done}
use Rattle.nv_core.proofs.Waits.{waits}
use Rattle.nv_core.specs.Front.{HasTailMoved, IsSideOf}
use Rattle.nv_laws_sound.specs.Side.{Side}
use Rattle.nv_core.specs.State.{State}
use Rattle.nv_core.specs.Submit.{HaveRoom, IsCarriedOut, IsSubmitted, WaitsForPlan}
use Rattle.nv_device.specs.Physical.{lane_of}
use Rattle.nv_laws_sound.proofs.Lists.{some-same}
use Rattle.nv_model.specs.Memory.{byte_in}
use Rattle.nv_model.specs.Transcript.{Outcome}
use Rattle.nv_model.specs.declared.reply.Reply.TheVariants as reply
use Rattle.nv_plan.specs.Made.{plan_made}
use Rattle.nv_plan.specs.declared.job.Job.{Job}
use Rattle.nv_world_model.specs.Area.{ring_size}
use Rattle.nv_world_model.specs.Device.{DeviceLane}
use Rattle.nv_world_model.specs.Plan.{Plan}
use Rattle.nv_world_model.specs.World.{Command, Taken, World, group_in}
use Rattle.nv_world_model.specs.declared.event.Event.TheVariants as event
use Rattle.nv_core.proofs.front.Front.submit_plan.Goals as goal

pub returns-then-not-is_current-clause-tails : goal.returns-then-not-is_current-clause-tails
returns-then-not-is_current-clause-tails g c =
    tail-stays c.args.layout.now c.args.self.now c.args.plan.job.lane c.requires.kept

pub index_mut-ring-requires : goal.index_mut-ring-requires
index_mut-ring-requires g c =
    let m : List ℕ = g.C.MemoryCell.bytes c.args.host.now in
    let w : World = own-world c.args.self.now m in
    let is : IsSideOf c.args.self.now m w = own-side c.args.self.now m in
    let old : State = state_in c.args.layout.now c.args.self.now m w is in
    let s : State = record { host = m; device = old.device; lanes = c.self.inside.lanes.items; controllers = c.self.inside.controllers.items } in
    let same : s ≡ old = ap (λ (f : Side). let o : State = record { host = m; device = old.device; lanes = f.lanes; controllers = f.controllers } in o) c.self.view_is in
    let p = c.args.plan in
    let current = c.is_current.ensures.0 c.if-not-is_current.false in
    let t = tag-of c.args.layout.now s old p same current in
    let on = c.from-at.ensures ∙ ap (λ (j : Job). j.lane) c.job-job.ensures.value in
    let below = taken-below c.self.inside.lanes.items p.job.lane p.job.tag t.taken in
    omega (arith, below, on)

pub index_mut-tail-requires : goal.index_mut-tail-requires
index_mut-tail-requires g c =
    let m : List ℕ = g.C.MemoryCell.bytes c.args.host.now in
    let w : World = own-world c.args.self.now m in
    let is : IsSideOf c.args.self.now m w = own-side c.args.self.now m in
    let old : State = state_in c.args.layout.now c.args.self.now m w is in
    let s : State = record { host = m; device = old.device; lanes = c.self.inside.lanes.items; controllers = c.self.inside.controllers.items } in
    let same : s ≡ old = ap (λ (f : Side). let o : State = record { host = m; device = old.device; lanes = f.lanes; controllers = f.controllers } in o) c.self.view_is in
    let p = c.args.plan in
    let current = c.is_current.ensures.0 c.if-not-is_current.false in
    let t = tag-of c.args.layout.now s old p same current in
    let on = c.from-at.ensures ∙ ap (λ (j : Job). j.lane) c.job-job.ensures.value in
    let below = taken-below c.self.inside.lanes.items p.job.lane p.job.tag t.taken in
    let many : length c.self.inside.tails.items ≡ length c.self.inside.lanes.items = subst (λ (f : Side). length f.tails ≡ length f.lanes) (sym c.self.view_is) c.requires.kept.many in
    omega (arith, below, on, many)

pub carry_out-requires-clause-room : goal.carry_out-requires-clause-room
carry_out-requires-clause-room g c =
    let m : List ℕ = g.C.MemoryCell.bytes c.args.host.now in
    let w : World = own-world c.args.self.now m in
    let is : IsSideOf c.args.self.now m w = own-side c.args.self.now m in
    let old : State = state_in c.args.layout.now c.args.self.now m w is in
    let s : State = record { host = m; device = old.device; lanes = c.self.inside.lanes.items; controllers = c.self.inside.controllers.items } in
    let same : s ≡ old = ap (λ (f : Side). let o : State = record { host = m; device = old.device; lanes = f.lanes; controllers = f.controllers } in o) c.self.view_is in
    let of : IsKeptOf c.args.layout.now s = subst (IsKeptOf c.args.layout.now) (sym same) (of-side c.args.layout.now c.args.self.now m w is c.requires) in
    let p = c.args.plan in
    let current = c.is_current.ensures.0 c.if-not-is_current.false in
    let t = tag-of c.args.layout.now s old p same current in
    subst (λ (n : ℕ). HaveRoom n c.job-job.result.now.lane p.given m) (sym c.mediator.ensures)
    (subst (λ (j : Job). HaveRoom c.args.layout.now.mediator j.lane p.given m) (sym c.job-job.ensures.value)
    (have-room c.args.layout.now s p.job.lane p.job.tag t.taken p.given of (guest-of c.args.layout.now s old p same current)))

pub carry_out-requires-clause-tail : goal.carry_out-requires-clause-tail
carry_out-requires-clause-tail g c =
    let m : List ℕ = g.C.MemoryCell.bytes c.args.host.now in
    let w : World = own-world c.args.self.now m in
    let is : IsSideOf c.args.self.now m w = own-side c.args.self.now m in
    let old : State = state_in c.args.layout.now c.args.self.now m w is in
    let s : State = record { host = m; device = old.device; lanes = c.self.inside.lanes.items; controllers = c.self.inside.controllers.items } in
    let same : s ≡ old = ap (λ (f : Side). let o : State = record { host = m; device = old.device; lanes = f.lanes; controllers = f.controllers } in o) c.self.view_is in
    let of : IsKeptOf c.args.layout.now s = subst (IsKeptOf c.args.layout.now) (sym same) (of-side c.args.layout.now c.args.self.now m w is c.requires) in
    let p = c.args.plan in
    let current = c.is_current.ensures.0 c.if-not-is_current.false in
    let t = tag-of c.args.layout.now s old p same current in
    let on = c.from-at.ensures ∙ ap (λ (j : Job). j.lane) c.job-job.ensures.value in
    let below = taken-below c.self.inside.lanes.items p.job.lane p.job.tag t.taken in
    let many : length c.self.inside.tails.items ≡ length c.self.inside.lanes.items = subst (λ (f : Side). length f.tails ≡ length f.lanes) (sym c.self.view_is) c.requires.kept.many in
    let d : DeviceLane = lane_of s.device p.job.lane in
    let there_d = lane-there p.job.lane s.device (on-device c.args.layout.now s p.job.lane p.job.tag t.taken p.given of (guest-of c.args.layout.now s old p same current)) in
    let at : c.index_mut-tail.result.now ≡ d.tail =
    some-same c.index_mut-tail.result.now d.tail
    (sym (slice_get_read c.self.inside.tails.items (length c.self.inside.tails.items) c.from-at.result c.index_mut-tail.result.now refl (omega (arith, below, on, many)) c.index_mut-tail.ensures.value)
    ∙ ap (λ (n : ℕ). slice_get c.self.inside.tails.items n) on
    ∙ ap (λ (f : Side). slice_get f.tails p.job.lane) c.self.view_is
    ∙ tail-there c.args.layout.now c.args.self.now m w is p.job.lane d there_d) in
    let fits : d.tail < ring_size = of.kept.slots p.job.lane d.tail (tail-of s.device.lanes p.job.lane d there_d) in
    subst (λ (n : ℕ). n < ring_size) (sym at) fits

pub carry_out-requires-clause-waits : goal.carry_out-requires-clause-waits
carry_out-requires-clause-waits g c =
    let m : List ℕ = g.C.MemoryCell.bytes c.args.host.now in
    let w : World = own-world c.args.self.now m in
    let is : IsSideOf c.args.self.now m w = own-side c.args.self.now m in
    let old : State = state_in c.args.layout.now c.args.self.now m w is in
    let s : State = record { host = m; device = old.device; lanes = c.self.inside.lanes.items; controllers = c.self.inside.controllers.items } in
    let same : s ≡ old = ap (λ (f : Side). let o : State = record { host = m; device = old.device; lanes = f.lanes; controllers = f.controllers } in o) c.self.view_is in
    let of : IsKeptOf c.args.layout.now s = subst (IsKeptOf c.args.layout.now) (sym same) (of-side c.args.layout.now c.args.self.now m w is c.requires) in
    let p = c.args.plan in
    let current = c.is_current.ensures.0 c.if-not-is_current.false in
    let t = tag-of c.args.layout.now s old p same current in
    let on = c.from-at.ensures ∙ ap (λ (j : Job). j.lane) c.job-job.ensures.value in
    subst (λ (j : Job). WaitsForPlan p.given.namespace j.tag c.index_mut-ring.result.now) (sym c.job-job.ensures.value)
    (waits c.args.layout.now s of p.job.lane p.job.tag c.from-at.result c.index_mut-ring.result.now t.taken on c.index_mut-ring.ensures.value p.given (guest-of c.args.layout.now s old p same current))

pub carry_out-requires-clause-whose : goal.carry_out-requires-clause-whose
carry_out-requires-clause-whose g c = λ command reads there.
    let m : List ℕ = g.C.MemoryCell.bytes c.args.host.now in
    let w : World = own-world c.args.self.now m in
    let is : IsSideOf c.args.self.now m w = own-side c.args.self.now m in
    let old : State = state_in c.args.layout.now c.args.self.now m w is in
    let s : State = record { host = m; device = old.device; lanes = c.self.inside.lanes.items; controllers = c.self.inside.controllers.items } in
    let same : s ≡ old = ap (λ (f : Side). let o : State = record { host = m; device = old.device; lanes = f.lanes; controllers = f.controllers } in o) c.self.view_is in
    let p = c.args.plan in
    let current = c.is_current.ensures.0 c.if-not-is_current.false in
    let t = tag-of c.args.layout.now s old p same current in
    let on = c.from-at.ensures ∙ ap (λ (j : Job). j.lane) c.job-job.ensures.value in
    let held = taken-there c.self.inside.lanes.items p.job.lane p.job.tag t.taken c.from-at.result c.index_mut-ring.result.now on c.index_mut-ring.ensures.value in
    let here = subst (λ (j : Job). slice_get c.index_mut-ring.result.now.tags j.tag ≡ Some (Taken command reads)) c.job-job.ensures.value there in
    let one = one-taken command t.taken.command reads t.taken.reads (some-same (Taken command reads) (Taken t.taken.command t.taken.reads) (sym here ∙ held)) in
    ap (λ (x : Command). x.entry) one.0 ∙ sym t.is.entry

pub returns-clause-some : goal.returns-clause-some
returns-clause-some g c =
    let p = c.args.plan in (
      c.is_current.ensures.0 c.if-not-is_current.false,
      (let m : List ℕ = g.C.MemoryCell.bytes c.args.host.now in
          in-each c.args.layout.now (event.Submit p.job.lane p.job.tag) c.args.self.now
          (record { lanes = set c.self.inside.lanes.items c.from-at.result c.carry_out.new.ring; tails = set c.self.inside.tails.items c.from-at.result c.carry_out.new.tail; controllers = c.self.inside.controllers.items })
          m (g.C.MemoryCell.bytes c.carry_out.new.host) reply.Done tt (λ w is.
          let old : State = state_in c.args.layout.now c.args.self.now m w is in
          let s : State = record { host = m; device = old.device; lanes = c.self.inside.lanes.items; controllers = c.self.inside.controllers.items } in
          let same : s ≡ old = ap (λ (f : Side). let o : State = record { host = m; device = old.device; lanes = f.lanes; controllers = f.controllers } in o) c.self.view_is in
          let of : IsKeptOf c.args.layout.now s = subst (IsKeptOf c.args.layout.now) (sym same) (of-side c.args.layout.now c.args.self.now m w is c.requires) in
          let current = c.is_current.ensures.0 c.if-not-is_current.false in
          let t = tag-of c.args.layout.now s old p same current in
          let on = c.from-at.ensures ∙ ap (λ (j : Job). j.lane) c.job-job.ensures.value in
          let below = taken-below c.self.inside.lanes.items p.job.lane p.job.tag t.taken in
          let many : length c.self.inside.tails.items ≡ length c.self.inside.lanes.items = subst (λ (f : Side). length f.tails ≡ length f.lanes) (sym c.self.view_is) c.requires.kept.many in
          let d : DeviceLane = lane_of s.device p.job.lane in
          let there_d = lane-there p.job.lane s.device (on-device c.args.layout.now s p.job.lane p.job.tag t.taken p.given of (guest-of c.args.layout.now s old p same current)) in
          let at : c.index_mut-tail.result.now ≡ d.tail =
          some-same c.index_mut-tail.result.now d.tail
          (sym (slice_get_read c.self.inside.tails.items (length c.self.inside.tails.items) c.from-at.result c.index_mut-tail.result.now refl (omega (arith, below, on, many)) c.index_mut-tail.ensures.value)
          ∙ ap (λ (n : ℕ). slice_get c.self.inside.tails.items n) on
          ∙ ap (λ (f : Side). slice_get f.tails p.job.lane) c.self.view_is
          ∙ tail-there c.args.layout.now c.args.self.now m w is p.job.lane d there_d) in
          let held = taken-there c.self.inside.lanes.items p.job.lane p.job.tag t.taken c.from-at.result c.index_mut-ring.result.now on c.index_mut-ring.ensures.value in
          let here = subst (λ (j : Job). slice_get c.index_mut-ring.result.now.tags j.tag ≡ Some (Taken t.taken.command t.taken.reads)) (sym c.job-job.ensures.value) held in
          let out = c.carry_out.ensures.done t.taken.command t.taken.reads here in
          rung-in c.args.layout.now c.args.self.now m w is (event.Submit p.job.lane p.job.tag) tt _ (let n : Side = record { lanes = set c.self.inside.lanes.items c.from-at.result c.carry_out.new.ring; tails = set c.self.inside.tails.items c.from-at.result c.carry_out.new.tail; controllers = c.self.inside.controllers.items } in n)
          (g.C.MemoryCell.bytes c.carry_out.new.host) p.job.lane c.carry_out.new.tail d there_d
          (ap (λ (n : ℕ). set c.self.inside.tails.items n c.carry_out.new.tail) on ∙ ap (λ (f : Side). set f.tails p.job.lane c.carry_out.new.tail) c.self.view_is)
          (submit-done c.args.layout.now s p.job.lane p.job.tag t.taken p.given of (guest-of c.args.layout.now s old p same current) old
          c.from-at.result c.index_mut-ring.result.now c.carry_out.new.ring (g.C.MemoryCell.bytes c.carry_out.new.host) c.index_mut-tail.result.now c.carry_out.new.tail _ reply.Done c.mediator.result
          same on c.index_mut-ring.ensures.value c.mediator.ensures at refl
          (subst (λ (o : Outcome Plan). IsSubmitted o p.given c.mediator.result p.job.lane (group_in (Some c.index_mut-ring.result.now) p.job.tag) t.taken.command reply.Done
          (byte_in m) (byte_in (g.C.MemoryCell.bytes c.carry_out.new.host)) c.index_mut-tail.result.now c.carry_out.new.tail c.index_mut-ring.result.now c.carry_out.new.ring)
          (sym (come-of c.args.layout.now s old p same current c.job-job.ensures.is_plan)) (
            refl,
            subst (λ (j : Job). IsCarriedOut (plan_made p) p.given c.mediator.result j.lane (group_in (Some c.index_mut-ring.result.now) j.tag) t.taken.command
                (byte_in m) (byte_in (g.C.MemoryCell.bytes c.carry_out.new.host)) c.index_mut-tail.result.now c.carry_out.new.tail c.index_mut-ring.result.now c.carry_out.new.ring)
                c.job-job.ensures.value out,
          ))))),
    )

pub returns-clause-tails : goal.returns-clause-tails
returns-clause-tails g c =
    let p = c.args.plan in
    let on = c.from-at.ensures ∙ ap (λ (j : Job). j.lane) c.job-job.ensures.value in
    subst (λ (ts : List ℕ). HasTailMoved p.job.lane ts (set c.self.inside.tails.items c.from-at.result c.carry_out.new.tail)) (ap (λ (f : Side). f.tails) c.self.view_is)
    (record { tail = c.carry_out.new.tail; fits = c.carry_out.ensures.fits; is = ap (λ (n : ℕ). set c.self.inside.tails.items n c.carry_out.new.tail) on })
