use Rattle.nv_host.proofs.Made.{made}
use Rattle.std.proofs.Common.{ℕ, List, ap, subst}
use Rattle.std.specs.Prelude.{IfOk, OnErr}
use Rattle.nv_core.specs.Front.{IsBeside, IsLive, IsStepBeside}
use Rattle.nv_host.proofs.Calls.{served-lent}
use Rattle.nv_host.proofs.Reaps.{live-beside, reap-given, reap-held, reap-next, reap-served, reap-stray}
use Rattle.nv_host.specs.Served.{Served}
use Rattle.nv_world_model.specs.World.{World}
use Rattle.nv_world_model.specs.declared.event.Event.TheVariants as event
use Rattle.nv_host.proofs.host_mediator.HostMediator.reap.Goals as goal

pub reap-requires : goal.reap-requires
reap-requires g c =
    let h = made c.self.inside.host_bytes c.self.inside.lanes c.self.inside.layout c.self.inside.front c.self.inside.closed.items c.self.inside.spare.items in
    served-lent h c.args.self.now c.self.view_is c.self.invariant.served (g.C.MemoryCell.bytes c.args.memory.now) c.requires

pub invariant_of-self : goal.invariant_of-self
invariant_of-self g c =
    let h = made c.self.inside.host_bytes c.self.inside.lanes c.self.inside.layout c.self.inside.front c.self.inside.closed.items c.self.inside.spare.items in
    record {
      served = reap-served h c.args.self.now c.self.view_is c.self.invariant.served c.args.lane c.reap.new.self (g.C.MemoryCell.bytes c.args.memory.now) c.requires
          c.reap.ensures.tails c.reap.result c.reap.ensures.there c.reap.ensures.ended c.reap.ensures.same;
      held = reap-held h c.args.self.now c.self.view_is c.self.invariant.served c.args.lane c.reap.new.self (g.C.MemoryCell.bytes c.args.memory.now) c.requires
          c.reap.ensures.tails c.self.inside.holds c.self.invariant.held c.reap.result c.reap.ensures.there c.reap.ensures.ended c.reap.ensures.same;
    }

pub returns-clause-ok : goal.returns-clause-ok
returns-clause-ok g c =
    let h = made c.self.inside.host_bytes c.self.inside.lanes c.self.inside.layout c.self.inside.front c.self.inside.closed.items c.self.inside.spare.items in
    reap-next h c.args.self.now c.self.view_is c.self.invariant.served c.args.lane c.reap.new.self (g.C.MemoryCell.bytes c.args.memory.now) c.requires
    c.reap.ensures.tails
    (reap-given h c.args.self.now c.self.view_is c.self.invariant.served c.args.lane c.reap.new.self (g.C.MemoryCell.bytes c.args.memory.now) c.requires
    c.reap.ensures.tails c.reap.result c.reap.ensures.there c.reap.ensures.ended c.reap.ensures.same)
    c.reap.result (live-beside c.self.inside.layout c.args.lane c.self.inside.front c.reap.new.self (g.C.MemoryCell.bytes c.args.memory.now) c.reap.result c.reap.ensures.tails c.reap.ensures.ok)

pub returns-clause-stray : goal.returns-clause-stray
returns-clause-stray g c =
    let h = made c.self.inside.host_bytes c.self.inside.lanes c.self.inside.layout c.self.inside.front c.self.inside.closed.items c.self.inside.spare.items in
    reap-stray h c.args.self.now c.self.view_is c.self.invariant.served c.args.lane c.reap.new.self (g.C.MemoryCell.bytes c.args.memory.now) c.requires
    c.reap.ensures.tails c.reap.result c.reap.ensures.stray

pub returns-clause-setup : goal.returns-clause-setup
returns-clause-setup g c = ap (λ (x : Served). x.setup) c.self.view_is

pub returns-clause-worlds : goal.returns-clause-worlds
returns-clause-worlds g c =
    let memory : List ℕ = g.C.MemoryCell.bytes c.args.memory.now in
    subst (λ (x : Served). IfOk c.reap.result (λ r. (w : World) → IsBeside x.side memory w → IsLive x.setup.geometry w
    → IsStepBeside x.setup.geometry (event.Reap c.args.lane) w r c.reap.new.self memory)) c.self.view_is (live-beside c.self.inside.layout c.args.lane c.self.inside.front c.reap.new.self (g.C.MemoryCell.bytes c.args.memory.now) c.reap.result c.reap.ensures.tails c.reap.ensures.ok)

pub returns-clause-nowhere : goal.returns-clause-nowhere
returns-clause-nowhere g c =
    let memory : List ℕ = g.C.MemoryCell.bytes c.args.memory.now in
    subst (λ (x : Served). OnErr c.reap.result ((w : World) → IsBeside x.side memory w → IsLive x.setup.geometry w → ⊥)) c.self.view_is c.reap.ensures.stray
