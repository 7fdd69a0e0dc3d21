use Rattle.nv_host.proofs.Made.{made}
use Rattle.std.proofs.Common.{◌≡◌, ℕ, List, subst, ap}
use Rattle.std.specs.Prelude.{IfSome}
use Rattle.nv_core.specs.Submit.{IsCurrentIn}
use Rattle.nv_host.proofs.Calls.{many-moved, plan-done, plan-served, served-lent, serving}
use Rattle.nv_core.specs.Front.{IsStepInEach}
use Rattle.nv_host.proofs.HoldNotes.{option-still, submit-still}
use Rattle.nv_host.specs.Served.{IsDone, Served}
use Rattle.nv_world_model.specs.declared.event.Event.TheVariants as event
use Rattle.nv_host.proofs.host_mediator.HostMediator.submit_plan.Goals as goal

pub submit_plan-requires : goal.submit_plan-requires
submit_plan-requires g c =
    let h = made c.self.inside.host_bytes c.self.inside.lanes c.self.inside.layout c.self.inside.front c.self.inside.closed.items c.self.inside.spare.items in
    served-lent h c.args.self.now c.self.view_is c.self.invariant.served (g.C.MemoryCell.bytes c.args.memory.now) c.requires

pub invariant_of-self : goal.invariant_of-self
invariant_of-self g c =
    let h = made c.self.inside.host_bytes c.self.inside.lanes c.self.inside.layout c.self.inside.front c.self.inside.closed.items c.self.inside.spare.items in
    let before : List ℕ = g.C.MemoryCell.bytes c.args.memory.now in
    let after : List ℕ = g.C.MemoryCell.bytes c.submit_plan.new.host in
    record {
      served = plan-served h c.args.self.now c.self.view_is c.self.invariant.served (event.Submit c.args.plan.job.lane c.args.plan.job.tag) tt c.submit_plan.new.self before after
          (IsCurrentIn c.self.inside.layout c.self.inside.front.lanes c.args.plan)
          ((after ≡ before) × (IsCurrentIn c.self.inside.layout c.self.inside.front.lanes c.args.plan → ⊥)) (many-moved c.args.plan.job.lane h.side c.submit_plan.new.self c.submit_plan.ensures.tails) c.submit_plan.ensures.len c.submit_plan.result c.submit_plan.ensures.some c.submit_plan.ensures.done c.submit_plan.ensures.none c.requires;
      held = option-still (λ r. IsCurrentIn c.self.inside.layout c.self.inside.front.lanes c.args.plan
          × IsStepInEach h.setup.geometry (event.Submit c.args.plan.job.lane c.args.plan.job.tag) h.side before r c.submit_plan.new.self after) h.side
          c.submit_plan.new.self c.self.inside.holds c.submit_plan.result c.submit_plan.ensures.some
          (λ r made. submit-still h c.self.invariant.served c.self.inside.holds c.self.invariant.held c.submit_plan.new.self before after r c.args.plan.job.lane c.args.plan.job.tag made.1)
          (λ none. (c.submit_plan.ensures.none none).0) c.self.invariant.held;
    }

pub returns-clause-some : goal.returns-clause-some
returns-clause-some g c =
    let h = made c.self.inside.host_bytes c.self.inside.lanes c.self.inside.layout c.self.inside.front c.self.inside.closed.items c.self.inside.spare.items in
    let before : List ℕ = g.C.MemoryCell.bytes c.args.memory.now in
    let after : List ℕ = g.C.MemoryCell.bytes c.submit_plan.new.host in
    subst (λ (o : Served). IfSome c.submit_plan.result (λ r. IsCurrentIn o.setup.geometry o.side.lanes c.args.plan
    × IsDone (event.Submit c.args.plan.job.lane c.args.plan.job.tag) c.args.self.now before r (serving h c.submit_plan.new.self) after)) c.self.view_is
    (plan-done h c.args.self.now c.self.view_is c.self.invariant.served (event.Submit c.args.plan.job.lane c.args.plan.job.tag) tt c.submit_plan.new.self before after
    (IsCurrentIn c.self.inside.layout c.self.inside.front.lanes c.args.plan)
    ((after ≡ before) × (IsCurrentIn c.self.inside.layout c.self.inside.front.lanes c.args.plan → ⊥)) (many-moved c.args.plan.job.lane h.side c.submit_plan.new.self c.submit_plan.ensures.tails) c.submit_plan.ensures.len c.submit_plan.result c.submit_plan.ensures.some c.submit_plan.ensures.done)

pub returns-clause-setup : goal.returns-clause-setup
returns-clause-setup g c = ap (λ (x : Served). x.setup) c.self.view_is
