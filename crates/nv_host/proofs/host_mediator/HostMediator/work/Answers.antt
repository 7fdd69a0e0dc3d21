use Rattle.std.proofs.Common.{◌≡◌, ◌∙◌, ◌+◌, ◌/◌, ◌<◌, arith, ap}
use Rattle.std.specs.Bool.{⊤}
use Rattle.nv_host.proofs.Rounds.{after-fits, first-leads, first-stops, round-last, worked-all, worked-on}
use Rattle.nv_host.proofs.Works.{ended-stays}
use Rattle.nv_host.specs.Work.{IsWorked, Rests, Scene, scene}
use Rattle.nv_host.specs.declared.worked.Worked.{Worked}
use Rattle.nv_host.proofs.host_mediator.HostMediator.work.Goals as goal

pub returns-then-stopped-clause-worked : goal.returns-then-stopped-clause-worked
returns-then-stopped-clause-worked g c =
    let a : Scene = scene c.args.self.now (g.C.MemoryCell.bytes c.args.memory.now) in
    let n : Scene = scene c.serve_first-early.new.self (g.C.MemoryCell.bytes c.serve_first-early.new.memory) in
    first-stops c.args.scope (c.args.most / 2) c.args.most c.serve_first-early.result a n c.serve_first-early.ensures.pass (omega arith)
    (c.has_stopped-stopped.ensures.yes c.if-stopped.true)

pub returns-then-stopped-clause-closed : goal.returns-then-stopped-clause-closed
returns-then-stopped-clause-closed g c =
    let a : Scene = scene c.args.self.now (g.C.MemoryCell.bytes c.args.memory.now) in
    let n : Scene = scene c.serve_first-early.new.self (g.C.MemoryCell.bytes c.serve_first-early.new.memory) in
    let w : Worked = c.serve_first-early.result in
    (ended-stays c.args.scope (c.args.most / 2) w.done (w.done ≡ 0 → ⊤) w.why a n c.serve_first-early.ensures.pass).closed

pub returns-then-stopped-clause-spare : goal.returns-then-stopped-clause-spare
returns-then-stopped-clause-spare g c =
    let a : Scene = scene c.args.self.now (g.C.MemoryCell.bytes c.args.memory.now) in
    let n : Scene = scene c.serve_first-early.new.self (g.C.MemoryCell.bytes c.serve_first-early.new.memory) in
    let w : Worked = c.serve_first-early.result in
    (ended-stays c.args.scope (c.args.most / 2) w.done (w.done ≡ 0 → ⊤) w.why a n c.serve_first-early.ensures.pass).spare

pub loop-done-init : goal.loop-done-init
loop-done-init g c =
    let a : Scene = scene c.args.self.now (g.C.MemoryCell.bytes c.args.memory.now) in
    let n : Scene = scene c.serve_first-early.new.self (g.C.MemoryCell.bytes c.serve_first-early.new.memory) in
    let first = first-leads c.args.scope ⊤ ⊤ (c.args.most / 2) c.serve_first-early.result a n c.serve_first-early.ensures.pass
    (c.has_stopped-stopped.ensures.no c.if-stopped.false) in
    let few = first.1 in
    record { leads = first.0; few = omega (arith, few); setup = c.serve_first-early.ensures.setup; len = c.serve_first-early.ensures.len }

pub after-whole-requires : goal.after-whole-requires
after-whole-requires g c =
    let b : Scene = scene c.loop-done.self (g.C.MemoryCell.bytes c.loop-done.memory) in
    let n : Scene = scene c.go_round-round.new.self (g.C.MemoryCell.bytes c.go_round-round.new.memory) in
    let w : Worked = c.go_round-round.result.worked in
    after-fits c.args.scope c.args.most c.loop-done.done (w.done ≡ 0 → Rests c.args.scope b) w b n c.go_round-round.ensures.round.pass c.loop-done.invariant.few c.ranges.most.fits

pub returns-then-is_last-clause-worked : goal.returns-then-is_last-clause-worked
returns-then-is_last-clause-worked g c =
    let a : Scene = scene c.args.self.now (g.C.MemoryCell.bytes c.args.memory.now) in
    let b : Scene = scene c.loop-done.self (g.C.MemoryCell.bytes c.loop-done.memory) in
    let n : Scene = scene c.go_round-round.new.self (g.C.MemoryCell.bytes c.go_round-round.new.memory) in
    round-last c.args.scope c.args.most c.loop-done.done c.go_round-round.result c.after-whole.result a b n c.after-whole.ensures c.loop-done.invariant.leads c.loop-done.invariant.few
    c.go_round-round.ensures.round (c.is_last.ensures.yes c.if-is_last.true)

pub returns-then-is_last-clause-closed : goal.returns-then-is_last-clause-closed
returns-then-is_last-clause-closed g c =
    let a : Scene = scene c.args.self.now (g.C.MemoryCell.bytes c.args.memory.now) in
    let b : Scene = scene c.loop-done.self (g.C.MemoryCell.bytes c.loop-done.memory) in
    let n : Scene = scene c.go_round-round.new.self (g.C.MemoryCell.bytes c.go_round-round.new.memory) in
    let v : Worked = c.after-whole.result in
    let is : IsWorked c.args.scope c.args.most v a n = round-last c.args.scope c.args.most c.loop-done.done c.go_round-round.result c.after-whole.result a b n c.after-whole.ensures c.loop-done.invariant.leads c.loop-done.invariant.few
    c.go_round-round.ensures.round (c.is_last.ensures.yes c.if-is_last.true) in
    (ended-stays c.args.scope c.args.most v.done (v.done < c.args.most → Rests c.args.scope n) v.why a n is).closed

pub returns-then-is_last-clause-spare : goal.returns-then-is_last-clause-spare
returns-then-is_last-clause-spare g c =
    let a : Scene = scene c.args.self.now (g.C.MemoryCell.bytes c.args.memory.now) in
    let b : Scene = scene c.loop-done.self (g.C.MemoryCell.bytes c.loop-done.memory) in
    let n : Scene = scene c.go_round-round.new.self (g.C.MemoryCell.bytes c.go_round-round.new.memory) in
    let v : Worked = c.after-whole.result in
    let is : IsWorked c.args.scope c.args.most v a n = round-last c.args.scope c.args.most c.loop-done.done c.go_round-round.result c.after-whole.result a b n c.after-whole.ensures c.loop-done.invariant.leads c.loop-done.invariant.few
    c.go_round-round.ensures.round (c.is_last.ensures.yes c.if-is_last.true) in
    (ended-stays c.args.scope c.args.most v.done (v.done < c.args.most → Rests c.args.scope n) v.why a n is).spare

pub loop-done-preserved : goal.loop-done-preserved
loop-done-preserved g c =
    let a : Scene = scene c.args.self.now (g.C.MemoryCell.bytes c.args.memory.now) in
    let b : Scene = scene c.loop-done.self (g.C.MemoryCell.bytes c.loop-done.memory) in
    let n : Scene = scene c.go_round-round.new.self (g.C.MemoryCell.bytes c.go_round-round.new.memory) in
    let on = worked-on c.args.scope c.args.most c.loop-done.done c.go_round-round.result.worked c.after-whole.result a b n c.after-whole.ensures c.loop-done.invariant.leads c.loop-done.invariant.few
    c.go_round-round.ensures.round.pass (c.is_last.ensures.no c.if-is_last.false).0 in
    record {
      leads = on.0;
      few = on.1;
      setup = c.go_round-round.ensures.setup ∙ c.loop-done.invariant.setup;
      len = c.go_round-round.ensures.len ∙ c.loop-done.invariant.len;
    }

pub loop-done-smaller : goal.loop-done-smaller
loop-done-smaller g c =
    let a : Scene = scene c.args.self.now (g.C.MemoryCell.bytes c.args.memory.now) in
    let b : Scene = scene c.loop-done.self (g.C.MemoryCell.bytes c.loop-done.memory) in
    let n : Scene = scene c.go_round-round.new.self (g.C.MemoryCell.bytes c.go_round-round.new.memory) in
    let w : Worked = c.go_round-round.result.worked in
    let on = worked-on c.args.scope c.args.most c.loop-done.done w c.after-whole.result a b n c.after-whole.ensures c.loop-done.invariant.leads c.loop-done.invariant.few
    c.go_round-round.ensures.round.pass (c.is_last.ensures.no c.if-is_last.false).0 in
    let few = on.1 in
    let some = (c.is_last.ensures.no c.if-is_last.false).1 in
    let all : c.after-whole.result.done ≡ c.loop-done.done + w.done = ap (λ (x : Worked). x.done) c.after-whole.ensures in
    omega (arith, few, some, all)

pub returns-clause-worked : goal.returns-clause-worked
returns-clause-worked g c =
    let a : Scene = scene c.args.self.now (g.C.MemoryCell.bytes c.args.memory.now) in
    let b : Scene = scene c.loop-done.self (g.C.MemoryCell.bytes c.loop-done.memory) in
    worked-all c.args.scope c.args.most c.loop-done.done c.so_far.result a b c.so_far.ensures c.loop-done.invariant.leads c.loop-done.invariant.few c.loop-done-test.false

pub returns-clause-closed : goal.returns-clause-closed
returns-clause-closed g c =
    let a : Scene = scene c.args.self.now (g.C.MemoryCell.bytes c.args.memory.now) in
    let b : Scene = scene c.loop-done.self (g.C.MemoryCell.bytes c.loop-done.memory) in
    let v : Worked = c.so_far.result in
    let is : IsWorked c.args.scope c.args.most v a b =
    worked-all c.args.scope c.args.most c.loop-done.done v a b c.so_far.ensures c.loop-done.invariant.leads c.loop-done.invariant.few c.loop-done-test.false in
    (ended-stays c.args.scope c.args.most v.done (v.done < c.args.most → Rests c.args.scope b) v.why a b is).closed

pub returns-clause-spare : goal.returns-clause-spare
returns-clause-spare g c =
    let a : Scene = scene c.args.self.now (g.C.MemoryCell.bytes c.args.memory.now) in
    let b : Scene = scene c.loop-done.self (g.C.MemoryCell.bytes c.loop-done.memory) in
    let v : Worked = c.so_far.result in
    let is : IsWorked c.args.scope c.args.most v a b =
    worked-all c.args.scope c.args.most c.loop-done.done v a b c.so_far.ensures c.loop-done.invariant.leads c.loop-done.invariant.few c.loop-done-test.false in
    (ended-stays c.args.scope c.args.most v.done (v.done < c.args.most → Rests c.args.scope b) v.why a b is).spare
