use Rattle.std.proofs.Common.{ap, refl}
use Rattle.std.specs.Option.{option_map}
use Rattle.nv_core.specs.declared.holding.Holder.{Holder}
use Rattle.nv_host.proofs.Rests.{none-waiting}
use Rattle.nv_host.proofs.Rounds.{pass-none, pass-some}
use Rattle.nv_host.specs.Passes.{NoneWaitsAt}
use Rattle.nv_host.specs.Work.{Scene, scene}
use Rattle.nv_host.specs.declared.worked.Scope.TheVariants as scope
use Rattle.nv_host.proofs.host_mediator.HostMediator.end_waiting.Goals as goal

pub end_unplanned-requires-clause-may : goal.end_unplanned-requires-clause-may
end_unplanned-requires-clause-may g c =
    record { own = ap (option_map (λ (x : Holder). x.guest)) c.requires.own; waits = c.is_waiting.ensures.0 c.if-is_waiting.true }

pub returns-then-is_waiting-clause-pass : goal.returns-then-is_waiting-clause-pass
returns-then-is_waiting-clause-pass g c =
    pass-some (scope.Guest c.args.guest) _ c.args.most c.end_unplanned.result (scene c.args.self.now (g.C.MemoryCell.bytes c.args.memory.now))
    (scene c.end_unplanned.new.self (g.C.MemoryCell.bytes c.args.memory.now)) c.end_unplanned.ensures.pass

pub returns-clause-pass : goal.returns-clause-pass
returns-clause-pass g c =
    let a : Scene = scene c.args.self.now (g.C.MemoryCell.bytes c.args.memory.now) in
    pass-none (scope.Guest c.args.guest) (NoneWaitsAt a c.args.guest c.args.lane c.args.tag) c.args.most c.so_far.result a a c.so_far.ensures refl
    (none-waiting a c.args.guest c.args.lane c.args.tag c.is_waiting.result c.if-is_waiting.false c.is_waiting.ensures.1)
