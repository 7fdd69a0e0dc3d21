use Rattle.std.proofs.Common.{◌∙◌, arith, refl, subst, sym}
use Rattle.nv_host.proofs.Rounds.{pass-far}
use Rattle.nv_host.proofs.Works.{leads_more, leads_none, leads_zero}
use Rattle.nv_host.specs.Work.{Leads, NotDue, Scene, scene}
use Rattle.nv_host.specs.declared.worked.Scope.TheVariants as scope
use Rattle.nv_world_model.specs.declared.event.Event.TheVariants as event
use Rattle.nv_host.proofs.host_mediator.HostMediator.admin_each.Goals as goal

pub loop-done-init : goal.loop-done-init
loop-done-init g c =
    let a : Scene = scene c.args.self.now (g.C.MemoryCell.bytes c.args.memory.now) in
    record { leads = leads_none (scope.Guest c.args.guest) a a refl; few = omega arith; setup = refl; len = refl }

pub loop-done-preserved : goal.loop-done-preserved
loop-done-preserved g c =
    let a : Scene = scene c.args.self.now (g.C.MemoryCell.bytes c.args.memory.now) in
    let b : Scene = scene c.loop-done.self (g.C.MemoryCell.bytes c.loop-done.memory) in
    let n : Scene = scene c.has_served-served.new.self (g.C.MemoryCell.bytes c.has_served-served.new.memory) in
    let below = c.loop-done-test.true in
    record {
      leads = leads_more (scope.Guest c.args.guest) c.loop-done.done 1 a b n c.loop-done.invariant.leads (c.has_served-served.ensures.yes c.if-served.true);
      few = omega (arith, below);
      setup = c.has_served-served.ensures.setup ∙ c.loop-done.invariant.setup;
      len = c.has_served-served.ensures.len ∙ c.loop-done.invariant.len;
    }

pub returns-else-served-clause-pass : goal.returns-else-served-clause-pass
returns-else-served-clause-pass g c =
    let a : Scene = scene c.args.self.now (g.C.MemoryCell.bytes c.args.memory.now) in
    let b : Scene = scene c.loop-done.self (g.C.MemoryCell.bytes c.loop-done.memory) in
    let none = c.has_served-served.ensures.no c.if-served.false in
    pass-far (scope.Guest c.args.guest) _ c.args.most c.loop-done.done c.so_far.result a (scene c.has_served-served.new.self (g.C.MemoryCell.bytes c.has_served-served.new.memory)) c.so_far.ensures
    (subst (λ (x : Scene). Leads (scope.Guest c.args.guest) c.loop-done.done a x) (sym none.0) c.loop-done.invariant.leads) c.loop-done.invariant.few
    (λ zero. subst (λ (x : Scene). NotDue x (event.Admin c.args.guest)) (leads_zero (scope.Guest c.args.guest) a b c.loop-done.done c.loop-done.invariant.leads zero) none.1)

pub returns-clause-pass : goal.returns-clause-pass
returns-clause-pass g c =
    let a : Scene = scene c.args.self.now (g.C.MemoryCell.bytes c.args.memory.now) in
    let b : Scene = scene c.loop-done.self (g.C.MemoryCell.bytes c.loop-done.memory) in
    let end = c.loop-done-test.false in
    let some = c.requires.some in
    pass-far (scope.Guest c.args.guest) _ c.args.most c.loop-done.done c.so_far-2.result a b c.so_far-2.ensures c.loop-done.invariant.leads c.loop-done.invariant.few
    (λ zero. absurd (omega (arith, zero, end, some)))
