use Rattle.std.proofs.Common.{◌∙◌, ℕ, List, arith, refl, subst, sym}
use Rattle.nv_host.proofs.Queues.{none-takes}
use Rattle.nv_host.proofs.Works.{leads_more, leads_none, leads_zero}
use Rattle.nv_host.specs.Served.{Served}
use Rattle.nv_host.specs.Work.{Leads, NotDue, Scene, scene}
use Rattle.nv_host.specs.declared.worked.Scope.TheVariants as scope
use Rattle.nv_world_model.specs.declared.event.Event.TheVariants as event
use Rattle.nv_host.proofs.host_mediator.HostMediator.take_queue.Goals as goal

pub loop-done-init : goal.loop-done-init
loop-done-init g c =
    let a : Scene = scene c.args.self.now (g.C.MemoryCell.bytes c.args.memory.now) in
    record { leads = leads_none (scope.Guest c.args.guest) a a refl; few = omega arith; setup = refl }

pub loop-done-preserved : goal.loop-done-preserved
loop-done-preserved g c =
    let a : Scene = scene c.args.self.now (g.C.MemoryCell.bytes c.args.memory.now) in
    let b : Scene = scene c.loop-done.self (g.C.MemoryCell.bytes c.args.memory.now) in
    let n : Scene = scene c.has_taken-taken.new.self (g.C.MemoryCell.bytes c.args.memory.now) in
    let below = c.loop-done-test.true in
    record {
      leads = leads_more (scope.Guest c.args.guest) c.loop-done.done 1 a b n c.loop-done.invariant.leads (c.has_taken-taken.ensures.yes c.if-taken.true);
      few = omega (arith, below);
      setup = c.has_taken-taken.ensures.setup ∙ c.loop-done.invariant.setup;
    }

pub returns-then-not-waits-clause-leads : goal.returns-then-not-waits-clause-leads
returns-then-not-waits-clause-leads g c = c.loop-done.invariant.leads

pub returns-then-not-waits-clause-few : goal.returns-then-not-waits-clause-few
returns-then-not-waits-clause-few g c = c.loop-done.invariant.few

pub returns-then-not-waits-clause-none : goal.returns-then-not-waits-clause-none
returns-then-not-waits-clause-none g c = λ zero.
    let a : Scene = scene c.args.self.now (g.C.MemoryCell.bytes c.args.memory.now) in
    let b : Scene = scene c.loop-done.self (g.C.MemoryCell.bytes c.args.memory.now) in
    subst (λ (x : Scene). NotDue x (event.Take c.args.guest c.args.queue c.args.lane)) (leads_zero (scope.Guest c.args.guest) a b c.loop-done.done c.loop-done.invariant.leads zero)
    (none-takes b c.args.guest c.args.queue (sym c.waits.ensures ∙ c.if-not-waits.true) c.args.lane)

pub returns-else-taken-clause-leads : goal.returns-else-taken-clause-leads
returns-else-taken-clause-leads g c =
    let m : List ℕ = g.C.MemoryCell.bytes c.args.memory.now in
    let a : Scene = scene c.args.self.now (g.C.MemoryCell.bytes c.args.memory.now) in
    subst (λ (x : Served). Leads (scope.Guest c.args.guest) c.loop-done.done a (scene x m)) (sym (c.has_taken-taken.ensures.no c.if-taken.false).0) c.loop-done.invariant.leads

pub returns-else-taken-clause-few : goal.returns-else-taken-clause-few
returns-else-taken-clause-few g c = c.loop-done.invariant.few

pub returns-else-taken-clause-none : goal.returns-else-taken-clause-none
returns-else-taken-clause-none g c = λ zero.
    let a : Scene = scene c.args.self.now (g.C.MemoryCell.bytes c.args.memory.now) in
    let b : Scene = scene c.loop-done.self (g.C.MemoryCell.bytes c.args.memory.now) in
    subst (λ (x : Scene). NotDue x (event.Take c.args.guest c.args.queue c.args.lane)) (leads_zero (scope.Guest c.args.guest) a b c.loop-done.done c.loop-done.invariant.leads zero)
    (c.has_taken-taken.ensures.no c.if-taken.false).1

pub returns-clause-leads : goal.returns-clause-leads
returns-clause-leads g c = c.loop-done.invariant.leads

pub returns-clause-none : goal.returns-clause-none
returns-clause-none g c = λ zero.
    let end = c.loop-done-test.false in
    let some = c.requires.some in
    absurd (omega (arith, zero, end, some))
