use Rattle.std.proofs.Common.{◌≡◌, arith, slice_get, Some, subst, sym}
use Rattle.nv_host.proofs.Rounds.{pass-far}
use Rattle.nv_host.specs.Passes.{IsOwn, IsPass, NoneWaitsAt}
use Rattle.nv_host.specs.Work.{Scene, scene}
use Rattle.nv_host.specs.declared.worked.Scope.TheVariants as scope
use Rattle.nv_world_model.specs.Geometry.{Guest}
use Rattle.nv_world_model.specs.SetUp.{SetUp}
use Rattle.nv_host.proofs.host_mediator.HostMediator.plan_own.Goals as goal

pub returns-then-submitted-clause-pass : goal.returns-then-submitted-clause-pass
returns-then-submitted-clause-pass g c =
    let a : Scene = scene c.args.self.now (g.C.MemoryCell.bytes c.args.memory.now) in
    let n : Scene = scene c.has_submitted.new.self (g.C.MemoryCell.bytes c.has_submitted.new.memory) in
    let some = c.requires.some in
    pass-far (scope.Guest c.args.guest) (NoneWaitsAt a c.args.guest c.args.lane c.args.tag) c.args.most 1 c.so_far.result a n c.so_far.ensures
    (c.in-Ok.ensures.yes c.if-submitted.true) (omega (arith, some)) (λ zero. absurd (omega (arith, zero)))

pub read_for-requires-clause-own : goal.read_for-requires-clause-own
read_for-requires-clause-own g c =
    subst (λ (s : Scene). IsOwn s c.args.guest c.args.lane c.args.tag) (sym (c.in-Ok.ensures.no c.if-submitted.false)) c.requires.own

pub read_for-requires-clause-there : goal.read_for-requires-clause-there
read_for-requires-clause-there g c =
    subst (λ (u : SetUp). (given : Guest) × (slice_get u.geometry.guests c.args.guest ≡ Some given)) (sym c.has_submitted.ensures.setup) c.requires.there

pub returns-else-submitted-clause-pass : goal.returns-else-submitted-clause-pass
returns-else-submitted-clause-pass g c =
    let n : Scene = scene c.read_for.new.self (g.C.MemoryCell.bytes c.read_for.new.memory) in
    subst (λ (s : Scene). IsPass (scope.Guest c.args.guest) (NoneWaitsAt s c.args.guest c.args.lane c.args.tag) c.args.most c.read_for.result s n)
    (c.in-Ok.ensures.no c.if-submitted.false) c.read_for.ensures.pass

pub end_waiting-requires-clause-own : goal.end_waiting-requires-clause-own
end_waiting-requires-clause-own g c =
    subst (λ (s : Scene). IsOwn s c.args.guest c.args.lane c.args.tag) (sym c.in-Err.ensures.err) c.requires.own

pub returns-in-Err-clause-pass : goal.returns-in-Err-clause-pass
returns-in-Err-clause-pass g c =
    let n : Scene = scene c.end_waiting.new.self (g.C.MemoryCell.bytes c.has_submitted.new.memory) in
    subst (λ (s : Scene). IsPass (scope.Guest c.args.guest) (NoneWaitsAt s c.args.guest c.args.lane c.args.tag) c.args.most c.end_waiting.result s n)
    c.in-Err.ensures.err c.end_waiting.ensures.pass
