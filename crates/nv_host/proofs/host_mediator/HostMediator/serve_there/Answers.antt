use Rattle.std.proofs.Common.{◌≡◌, ◌<◌, ℕ, arith}
use Rattle.nv_host.proofs.Rests.{guest-rests}
use Rattle.nv_host.proofs.Rounds.{after-fits, first-leads, two-both, two-first}
use Rattle.nv_host.specs.Passes.{NoneWaits, QueuesRest}
use Rattle.nv_host.specs.Work.{Scene, scene}
use Rattle.nv_host.specs.declared.worked.Scope.TheVariants as scope
use Rattle.nv_host.proofs.host_mediator.HostMediator.serve_there.Goals as goal

pub returns-then-ends-clause-pass : goal.returns-then-ends-clause-pass
returns-then-ends-clause-pass g c =
    let a : Scene = scene c.args.self.now (g.C.MemoryCell.bytes c.args.memory.now) in
    let b : Scene = scene c.plan_lanes-planned.new.self (g.C.MemoryCell.bytes c.plan_lanes-planned.new.memory) in
    two-first (scope.Guest c.args.guest) _ ((lane : ℕ) → lane < c.args.self.now.setup.lanes → NoneWaits a c.args.guest lane) c.args.most c.plan_lanes-planned.result
    a b c.plan_lanes-planned.ensures.pass c.args.turn (c.ends.ensures.yes c.if-ends.true) c.requires.some

pub after-requires : goal.after-requires
after-requires g c =
    let a : Scene = scene c.args.self.now (g.C.MemoryCell.bytes c.args.memory.now) in
    let b : Scene = scene c.plan_lanes-planned.new.self (g.C.MemoryCell.bytes c.plan_lanes-planned.new.memory) in
    let n : Scene = scene c.serve_queues-rest.new.self (g.C.MemoryCell.bytes c.serve_queues-rest.new.memory) in
    let on = c.ends.ensures.no c.if-ends.false in
    after-fits (scope.Guest c.args.guest) c.args.most c.plan_lanes-planned.result.done (c.serve_queues-rest.result.done ≡ 0 → QueuesRest b c.args.guest)
    c.serve_queues-rest.result b n c.serve_queues-rest.ensures.pass
    (first-leads (scope.Guest c.args.guest) (QueuesRest a c.args.guest) ((lane : ℕ) → lane < c.args.self.now.setup.lanes → NoneWaits a c.args.guest lane) c.args.most c.plan_lanes-planned.result a b c.plan_lanes-planned.ensures.pass on.0).1
    c.ranges.most.fits

pub returns-clause-pass : goal.returns-clause-pass
returns-clause-pass g c =
    let a : Scene = scene c.args.self.now (g.C.MemoryCell.bytes c.args.memory.now) in
    let b : Scene = scene c.plan_lanes-planned.new.self (g.C.MemoryCell.bytes c.plan_lanes-planned.new.memory) in
    let n : Scene = scene c.serve_queues-rest.new.self (g.C.MemoryCell.bytes c.serve_queues-rest.new.memory) in
    let on = c.ends.ensures.no c.if-ends.false in
    two-both (scope.Guest c.args.guest) _ ((lane : ℕ) → lane < c.args.self.now.setup.lanes → NoneWaits a c.args.guest lane) c.args.most c.plan_lanes-planned.result a
    b c.plan_lanes-planned.ensures.pass (λ (b : Scene). QueuesRest b c.args.guest) c.serve_queues-rest.result c.after.result n on.0 c.after.ensures
    c.serve_queues-rest.ensures.pass
    (λ none queues. guest-rests a c.args.guest queues (λ lane below. none lane (let many = c.sizes.ensures.lanes in omega (arith, many, below))))
