use Rattle.std.proofs.Common.{arith}
use Rattle.nv_host.proofs.Rounds.{pass-far}
use Rattle.nv_host.proofs.Works.{leads_one}
use Rattle.nv_host.specs.Work.{Scene, scene}
use Rattle.nv_host.specs.declared.worked.Scope.TheVariants as scope
use Rattle.nv_world_model.specs.declared.event.Event.TheVariants as event
use Rattle.nv_host.proofs.host_mediator.HostMediator.carry_out.Goals as goal

pub returns-clause-pass : goal.returns-clause-pass
returns-clause-pass g c =
    let a : Scene = scene c.args.self.now (g.C.MemoryCell.bytes c.args.memory.now) in
    let n : Scene = scene c.submit_plan.new.self (g.C.MemoryCell.bytes c.submit_plan.new.memory) in
    let job = c.args.plan.job in
    let some = c.requires.some in
    pass-far (scope.Guest c.args._guest) ⊥ c.args._most 1 c.so_far.result a n c.so_far.ensures
    (leads_one (scope.Guest c.args._guest) (event.Submit job.lane job.tag) a n c.in-Some._reply c.requires.work c.in-Some.ensures.some.1)
    (omega (arith, some)) (λ zero. omega (arith, zero))
