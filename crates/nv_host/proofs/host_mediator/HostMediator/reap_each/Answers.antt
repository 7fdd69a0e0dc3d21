use Rattle.std.proofs.Common.{◌∙◌, ℕ, List, arith, refl, subst, sym}
use Rattle.nv_host.proofs.Rounds.{pass-far}
use Rattle.nv_host.proofs.Works.{leads_more, leads_none, leads_zero}
use Rattle.nv_host.specs.Served.{Served}
use Rattle.nv_host.specs.Work.{IsStray, Leads, NotDue, Scene, scene}
use Rattle.nv_host.specs.declared.worked.Scope.TheVariants as scope
use Rattle.nv_world_model.specs.declared.event.Event.TheVariants as event
use Rattle.nv_host.proofs.host_mediator.HostMediator.reap_each.Goals as goal

pub loop-done-init : goal.loop-done-init
loop-done-init g c =
    let a : Scene = scene c.args.self.now (g.C.MemoryCell.bytes c.args.memory.now) in
    record { leads = leads_none (scope.Lane c.args.lane) a a refl; few = omega arith; setup = refl }

pub loop-done-preserved : goal.loop-done-preserved
loop-done-preserved g c =
    let a : Scene = scene c.args.self.now (g.C.MemoryCell.bytes c.args.memory.now) in
    let b : Scene = scene c.loop-done.self (g.C.MemoryCell.bytes c.args.memory.now) in
    let n : Scene = scene c.has_read.new.self (g.C.MemoryCell.bytes c.args.memory.now) in
    let below = c.loop-done-test.true in
    record {
      leads = leads_more (scope.Lane c.args.lane) c.loop-done.done 1 a b n c.loop-done.invariant.leads (c.in-Ok.ensures.yes c.if-read.true);
      few = omega (arith, below);
      setup = c.has_read.ensures.setup ∙ c.loop-done.invariant.setup;
    }

pub returns-else-read-clause-pass : goal.returns-else-read-clause-pass
returns-else-read-clause-pass g c =
    let m : List ℕ = g.C.MemoryCell.bytes c.args.memory.now in
    let a : Scene = scene c.args.self.now (g.C.MemoryCell.bytes c.args.memory.now) in
    let b : Scene = scene c.loop-done.self (g.C.MemoryCell.bytes c.args.memory.now) in
    let none = c.in-Ok.ensures.no c.if-read.false in
    pass-far (scope.Lane c.args.lane) _ c.args.most c.loop-done.done c.so_far.result a (scene c.has_read.new.self (g.C.MemoryCell.bytes c.args.memory.now)) c.so_far.ensures
    (subst (λ (x : Served). Leads (scope.Lane c.args.lane) c.loop-done.done a (scene x m)) (sym none.0) c.loop-done.invariant.leads) c.loop-done.invariant.few
    (λ zero. subst (λ (x : Scene). NotDue x (event.Reap c.args.lane)) (leads_zero (scope.Lane c.args.lane) a b c.loop-done.done c.loop-done.invariant.leads zero) none.1)

pub returns-in-Err-clause-pass : goal.returns-in-Err-clause-pass
returns-in-Err-clause-pass g c =
    let m : List ℕ = g.C.MemoryCell.bytes c.args.memory.now in
    let a : Scene = scene c.args.self.now (g.C.MemoryCell.bytes c.args.memory.now) in
    let err = c.in-Err.ensures.stray in (
      subst (λ (x : Served). Leads (scope.Lane c.args.lane) c.loop-done.done a (scene x m)) (sym err.0) c.loop-done.invariant.leads,
      c.loop-done-test.true,
      subst (λ (x : Served). IsStray (scope.Lane c.args.lane) (scene x m) c.args.lane) (sym err.0) err.1,
    )

pub returns-clause-pass : goal.returns-clause-pass
returns-clause-pass g c =
    let a : Scene = scene c.args.self.now (g.C.MemoryCell.bytes c.args.memory.now) in
    let b : Scene = scene c.loop-done.self (g.C.MemoryCell.bytes c.args.memory.now) in
    let end = c.loop-done-test.false in
    let some = c.requires.some in
    pass-far (scope.Lane c.args.lane) _ c.args.most c.loop-done.done c.so_far-2.result a b c.so_far-2.ensures c.loop-done.invariant.leads c.loop-done.invariant.few
    (λ zero. absurd (omega (arith, zero, end, some)))
