use Rattle.std.proofs.Common.{◌≡◌, ◌∙◌, sym, refl}
use Rattle.nv_core.specs.declared.holding.Holder.{Holder}
use Rattle.nv_host.proofs.Marked.{holder-waits, nobody-waits}
use Rattle.nv_host.proofs.Rounds.{pass-none}
use Rattle.nv_host.proofs.Works.{ended-all, ended-so}
use Rattle.nv_host.specs.Passes.{NoneWaitsAt, NothingWaitsAt}
use Rattle.nv_host.specs.Work.{Scene, scene}
use Rattle.nv_host.specs.declared.worked.Scope.TheVariants as scope
use Rattle.nv_host.specs.declared.worked.Worked.{Worked}
use Rattle.nv_host.proofs.host_mediator.HostMediator.plan_tag.Goals as goal

pub returns-in-None-clause-pass : goal.returns-in-None-clause-pass
returns-in-None-clause-pass g c =
    let a : Scene = scene c.args.self.now (g.C.MemoryCell.bytes c.args.memory.now) in
    pass-none scope.All (NothingWaitsAt a c.args.lane c.args.tag) c.args.most c.so_far.result a a c.so_far.ensures refl
    (nobody-waits a c.args.lane c.args.tag (sym c.holder.ensures ∙ c.in-None.is))

pub returns-in-Some-clause-pass : goal.returns-in-Some-clause-pass
returns-in-Some-clause-pass g c =
    let a : Scene = scene c.args.self.now (g.C.MemoryCell.bytes c.args.memory.now) in
    let n : Scene = scene c.plan.new.self (g.C.MemoryCell.bytes c.plan.new.memory) in
    let w : Worked = c.plan.result in
    let h : Holder = c.in-Some.holder in
    ended-so scope.All c.args.most w.done (w.done ≡ 0 → NothingWaitsAt a c.args.lane c.args.tag) (w.done ≡ 0 → NoneWaitsAt a h.guest c.args.lane c.args.tag) w.why a
    n
    (ended-all (scope.Guest h.guest) c.args.most w.done (w.done ≡ 0 → NoneWaitsAt a h.guest c.args.lane c.args.tag) w.why a n c.plan.ensures.pass)
    (λ none zero. holder-waits a c.args.lane c.args.tag h (sym c.holder.ensures ∙ c.in-Some.is) (none zero))
