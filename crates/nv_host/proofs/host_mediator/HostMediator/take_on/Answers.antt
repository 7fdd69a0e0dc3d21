use Rattle.std.proofs.Common.{◌≡◌, arith}
use Rattle.nv_host.proofs.Rounds.{after-fits, pass-after, pass-far}
use Rattle.nv_host.specs.Passes.{NoneWaits}
use Rattle.nv_host.specs.Work.{Scene, scene}
use Rattle.nv_host.specs.declared.worked.Scope.TheVariants as scope
use Rattle.nv_host.specs.declared.worked.Worked.{Worked}
use Rattle.nv_host.proofs.host_mediator.HostMediator.take_on.Goals as goal

pub returns-then-done-eq0-clause-pass : goal.returns-then-done-eq0-clause-pass
returns-then-done-eq0-clause-pass g c =
    let a : Scene = scene c.args.self.now (g.C.MemoryCell.bytes c.args.memory.now) in
    let b : Scene = scene c.take_queue-done.new.self (g.C.MemoryCell.bytes c.args.memory.now) in
    let few = c.take_queue-done.ensures.few in
    let within = c.requires.within in
    pass-far (scope.Guest c.args.guest) _ c.args.most c.take_queue-done.result c.so_far.result a b c.so_far.ensures c.take_queue-done.ensures.leads
    (omega (arith, few, within)) c.take_queue-done.ensures.none

pub returns-then-done-turn-clause-pass : goal.returns-then-done-turn-clause-pass
returns-then-done-turn-clause-pass g c =
    let a : Scene = scene c.args.self.now (g.C.MemoryCell.bytes c.args.memory.now) in
    let b : Scene = scene c.take_queue-done.new.self (g.C.MemoryCell.bytes c.args.memory.now) in
    let few = c.take_queue-done.ensures.few in
    let within = c.requires.within in
    pass-far (scope.Guest c.args.guest) _ c.args.most c.take_queue-done.result c.so_far-then-done-turn.result a b c.so_far-then-done-turn.ensures
    c.take_queue-done.ensures.leads (omega (arith, few, within)) c.take_queue-done.ensures.none

pub after-requires : goal.after-requires
after-requires g c =
    let a : Scene = scene c.args.self.now (g.C.MemoryCell.bytes c.args.memory.now) in
    let b : Scene = scene c.take_queue-done.new.self (g.C.MemoryCell.bytes c.args.memory.now) in
    let few = c.take_queue-done.ensures.few in
    let within = c.requires.within in
    let n : Scene = scene c.plan_each-planned.new.self (g.C.MemoryCell.bytes c.plan_each-planned.new.memory) in
    let w : Worked = c.plan_each-planned.result in
    after-fits (scope.Guest c.args.guest) c.args.most c.take_queue-done.result (w.done ≡ 0 → NoneWaits b c.args.guest c.args.lane) w b n
    c.plan_each-planned.ensures.pass (omega (arith, few, within)) c.ranges.most.fits

pub returns-clause-pass : goal.returns-clause-pass
returns-clause-pass g c =
    let a : Scene = scene c.args.self.now (g.C.MemoryCell.bytes c.args.memory.now) in
    let b : Scene = scene c.take_queue-done.new.self (g.C.MemoryCell.bytes c.args.memory.now) in
    let few = c.take_queue-done.ensures.few in
    let within = c.requires.within in
    let n : Scene = scene c.plan_each-planned.new.self (g.C.MemoryCell.bytes c.plan_each-planned.new.memory) in
    let w : Worked = c.plan_each-planned.result in
    pass-after (scope.Guest c.args.guest) _ (w.done ≡ 0 → NoneWaits b c.args.guest c.args.lane) c.args.most c.take_queue-done.result w c.after.result a b n
    c.after.ensures c.take_queue-done.ensures.leads (omega (arith, few, within)) c.plan_each-planned.ensures.pass
    (λ is rest zero. c.take_queue-done.ensures.none (omega (arith, zero)))
