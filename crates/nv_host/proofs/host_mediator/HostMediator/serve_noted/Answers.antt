use Rattle.std.proofs.Common.{◌≡◌, ℕ}
use Rattle.nv_host.proofs.Rounds.{after-fits, first-leads, two-both, two-first}
use Rattle.nv_host.proofs.Works.{ended-within}
use Rattle.nv_host.specs.Work.{NotDue, Scene, scene}
use Rattle.nv_host.specs.declared.worked.Scope.TheVariants as scope
use Rattle.nv_world_model.specs.declared.event.Event.TheVariants as event
use Rattle.nv_host.proofs.host_mediator.HostMediator.serve_noted.Goals as goal

pub returns-then-ends-clause-pass : goal.returns-then-ends-clause-pass
returns-then-ends-clause-pass g c =
    let a : Scene = scene c.args.self.now (g.C.MemoryCell.bytes c.args.memory.now) in
    let b : Scene = scene c.admin_each-first.new.self (g.C.MemoryCell.bytes c.admin_each-first.new.memory) in
    two-first (scope.Guest c.args.guest) _ (NotDue a (event.Admin c.args.guest)) c.args.most c.admin_each-first.result a b
    (ended-within (scope.Guest c.args.guest) c.args.turn c.args.most c.admin_each-first.result.done
    (c.admin_each-first.result.done ≡ 0 → NotDue a (event.Admin c.args.guest)) c.admin_each-first.result.why a b c.admin_each-first.ensures.pass c.requires.within)
    c.args.turn (c.ends.ensures.yes c.if-ends.true) c.requires.some

pub after-requires : goal.after-requires
after-requires g c =
    let a : Scene = scene c.args.self.now (g.C.MemoryCell.bytes c.args.memory.now) in
    let b : Scene = scene c.admin_each-first.new.self (g.C.MemoryCell.bytes c.admin_each-first.new.memory) in
    let n : Scene = scene c.take_queues-rest.new.self (g.C.MemoryCell.bytes c.take_queues-rest.new.memory) in
    let on = c.ends.ensures.no c.if-ends.false in
    after-fits (scope.Guest c.args.guest) c.args.most c.admin_each-first.result.done
    (c.take_queues-rest.result.done ≡ 0 → ((queue lane : ℕ) → NotDue b (event.Take c.args.guest queue lane))) c.take_queues-rest.result b n
    c.take_queues-rest.ensures.pass
    (first-leads (scope.Guest c.args.guest) (NotDue a (event.Admin c.args.guest)) (NotDue a (event.Admin c.args.guest)) c.args.most c.admin_each-first.result a b (ended-within (scope.Guest c.args.guest) c.args.turn c.args.most c.admin_each-first.result.done (c.admin_each-first.result.done ≡ 0 → NotDue a (event.Admin c.args.guest)) c.admin_each-first.result.why a b c.admin_each-first.ensures.pass c.requires.within) on.0).1
    c.ranges.most.fits

pub returns-clause-pass : goal.returns-clause-pass
returns-clause-pass g c =
    let a : Scene = scene c.args.self.now (g.C.MemoryCell.bytes c.args.memory.now) in
    let b : Scene = scene c.admin_each-first.new.self (g.C.MemoryCell.bytes c.admin_each-first.new.memory) in
    let n : Scene = scene c.take_queues-rest.new.self (g.C.MemoryCell.bytes c.take_queues-rest.new.memory) in
    let on = c.ends.ensures.no c.if-ends.false in
    two-both (scope.Guest c.args.guest) _ (NotDue a (event.Admin c.args.guest)) c.args.most c.admin_each-first.result a b
    (ended-within (scope.Guest c.args.guest) c.args.turn c.args.most c.admin_each-first.result.done
    (c.admin_each-first.result.done ≡ 0 → NotDue a (event.Admin c.args.guest)) c.admin_each-first.result.why a b c.admin_each-first.ensures.pass c.requires.within)
    (λ (b : Scene). (queue lane : ℕ) → NotDue b (event.Take c.args.guest queue lane)) c.take_queues-rest.result c.after.result n on.0 c.after.ensures
    c.take_queues-rest.ensures.pass
    (λ no_admin none. record { admin = no_admin; takes = none })
