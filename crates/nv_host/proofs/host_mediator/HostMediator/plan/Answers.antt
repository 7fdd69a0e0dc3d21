use Rattle.std.proofs.Common.{◌∙◌, refl, slice_get, sym}
use Rattle.nv_host.proofs.Rests.{no-limit, no_guest-waits, not-own, some-limit, true-false}
use Rattle.nv_host.proofs.Rounds.{pass-none}
use Rattle.nv_host.specs.Passes.{NoneWaitsAt}
use Rattle.nv_host.specs.Work.{Scene, scene}
use Rattle.nv_host.specs.declared.worked.Scope.TheVariants as scope
use Rattle.nv_host.proofs.host_mediator.HostMediator.plan.Goals as goal

pub returns-then-not-is_own-clause-pass : goal.returns-then-not-is_own-clause-pass
returns-then-not-is_own-clause-pass g c =
    let a : Scene = scene c.args.self.now (g.C.MemoryCell.bytes c.args.memory.now) in
    pass-none (scope.Guest c.args.guest) (NoneWaitsAt a c.args.guest c.args.lane c.args.tag) c.args.most c.so_far.result a a c.so_far.ensures refl
    (not-own a c.args.guest c.args.lane c.args.tag (λ is. true-false c.is_own.result (c.is_own.ensures.1 is) c.if-not-is_own.true))

pub returns-in-None-clause-pass : goal.returns-in-None-clause-pass
returns-in-None-clause-pass g c =
    let a : Scene = scene c.args.self.now (g.C.MemoryCell.bytes c.args.memory.now) in
    pass-none (scope.Guest c.args.guest) (NoneWaitsAt a c.args.guest c.args.lane c.args.tag) c.args.most c.so_far-in-None.result a a c.so_far-in-None.ensures refl
    (no_guest-waits a c.args.guest
    (no-limit (slice_get c.args.self.now.setup.geometry.guests c.args.guest) (sym c.in-None.is ∙ c.limit.ensures.value)) c.args.lane c.args.tag)

pub plan_own-requires-clause-own : goal.plan_own-requires-clause-own
plan_own-requires-clause-own g c = c.is_own.ensures.0 c.if-not-is_own.false

pub plan_own-requires-clause-there : goal.plan_own-requires-clause-there
plan_own-requires-clause-there g c =
    some-limit (slice_get c.args.self.now.setup.geometry.guests c.args.guest) c.in-Some._limit (sym c.in-Some.is ∙ c.limit.ensures.value)
