use Rattle.std.proofs.Common.{ℕ, List, ap, ◌∙◌, subst}
use Rattle.nv_core.specs.Noted.{Rests}
use Rattle.nv_host.proofs.Queues.{quiet-rests}
use Rattle.nv_host.proofs.Rounds.{pass-none}
use Rattle.nv_host.specs.Passes.{QueuesRest}
use Rattle.nv_host.specs.Served.{Served}
use Rattle.nv_host.specs.Work.{Scene, scene}
use Rattle.nv_host.specs.declared.worked.Scope.TheVariants as scope
use Rattle.nv_host.proofs.host_mediator.HostMediator.serve_queues.Goals as goal

pub returns-then-not-is_noted-clause-pass : goal.returns-then-not-is_noted-clause-pass
returns-then-not-is_noted-clause-pass g c =
    let memory : List ℕ = g.C.MemoryCell.bytes c.args.memory.now in
    let a : Scene = scene c.args.self.now memory in
    pass-none (scope.Guest c.args.guest) (QueuesRest a c.args.guest) c.args.most c.so_far.result a (scene c.settle.new.self memory) c.so_far.ensures
    (ap (λ (x : Served). scene x memory) c.settle.ensures)
    (quiet-rests a c.args.guest (subst (λ (x : Served). Rests c.args.guest x.side) (c.self.view_is ∙ c.settle.ensures) (c.is_noted.ensures c.if-not-is_noted.true)))
