use Rattle.std.proofs.Common.{◌≡◌, ◌∙◌, ◌+◌, ◌-◌, ℕ, arith, ap, refl}
use Rattle.nv_host.proofs.Rounds.{after-fits, first-leads, late-none, round-end, round-full, round-none, round-on, round-skip, round-stop}
use Rattle.nv_host.proofs.Works.{leads_zero}
use Rattle.nv_host.specs.Passes.{LaneRests}
use Rattle.nv_host.specs.Work.{Scene, scene}
use Rattle.nv_host.specs.declared.worked.Scope.TheVariants as scope
use Rattle.nv_host.specs.declared.worked.Worked.{Worked}
use Rattle.nv_host.proofs.host_mediator.HostMediator.serve_lanes.Goals as goal

pub loop-lane-init : goal.loop-lane-init
loop-lane-init g c =
    let a : Scene = scene c.args.self.now (g.C.MemoryCell.bytes c.args.memory.now) in
    record {
      round = round-skip scope.All c.args.most 0 0 (λ (s : Scene) (k : ℕ). LaneRests s k) a a (round-none scope.All c.args.most (λ (s : Scene) (k : ℕ). LaneRests s k) a) c.next_busy-lane.result
          (λ k from below. c.next_busy-lane.ensures.passed k from below);
      late = λ k from below. c.next_busy-lane.ensures.passed k from below;
      setup = refl;
      len = refl;
    }

pub after-whole-requires : goal.after-whole-requires
after-whole-requires g c =
    let a : Scene = scene c.args.self.now (g.C.MemoryCell.bytes c.args.memory.now) in
    let b : Scene = scene c.loop-lane.self (g.C.MemoryCell.bytes c.loop-lane.memory) in
    let n : Scene = scene c.serve_busy-pass.new.self (g.C.MemoryCell.bytes c.serve_busy-pass.new.memory) in
    let w : Worked = c.serve_busy-pass.result in
    after-fits scope.All c.args.most c.loop-lane.done (w.done ≡ 0 → (λ (s : Scene) (k : ℕ). LaneRests s k) b c.loop-lane.lane) w b n
    c.serve_busy-pass.ensures.pass c.loop-lane.invariant.round.few c.ranges.most.fits

pub returns-then-done-most-clause-pass : goal.returns-then-done-most-clause-pass
returns-then-done-most-clause-pass g c =
    let a : Scene = scene c.args.self.now (g.C.MemoryCell.bytes c.args.memory.now) in
    let b : Scene = scene c.loop-lane.self (g.C.MemoryCell.bytes c.loop-lane.memory) in
    round-full scope.All c.args.most c.loop-lane.done c.loop-lane.lane (λ (s : Scene) (k : ℕ). LaneRests s k) a b c.loop-lane.invariant.round _ c.args.most
    c.so_far.result c.so_far.ensures c.if-done-most.true c.requires.some

pub returns-then-stopped-clause-pass : goal.returns-then-stopped-clause-pass
returns-then-stopped-clause-pass g c =
    let a : Scene = scene c.args.self.now (g.C.MemoryCell.bytes c.args.memory.now) in
    let b : Scene = scene c.loop-lane.self (g.C.MemoryCell.bytes c.loop-lane.memory) in
    let n : Scene = scene c.serve_busy-pass.new.self (g.C.MemoryCell.bytes c.serve_busy-pass.new.memory) in
    let w : Worked = c.serve_busy-pass.result in
    round-stop scope.All c.args.most c.loop-lane.done c.loop-lane.lane (λ (s : Scene) (k : ℕ). LaneRests s k) a b n c.loop-lane.invariant.round _ w c.after-whole.result
    c.after-whole.ensures c.serve_busy-pass.ensures.pass (c.has_stopped-stopped.ensures.yes c.if-stopped.true)

pub loop-lane-preserved-then-some : goal.loop-lane-preserved-then-some
loop-lane-preserved-then-some g c =
    let a : Scene = scene c.args.self.now (g.C.MemoryCell.bytes c.args.memory.now) in
    let b : Scene = scene c.loop-lane.self (g.C.MemoryCell.bytes c.loop-lane.memory) in
    let n : Scene = scene c.serve_busy-pass.new.self (g.C.MemoryCell.bytes c.serve_busy-pass.new.memory) in
    let w : Worked = c.serve_busy-pass.result in
    record {
      round = round-skip scope.All c.args.most c.after-whole.result.done (c.loop-lane.lane + 1) (λ (s : Scene) (k : ℕ). LaneRests s k) a n
          (round-on scope.All c.args.most c.loop-lane.done c.loop-lane.lane (λ (s : Scene) (k : ℕ). LaneRests s k) a b n c.loop-lane.invariant.round w c.after-whole.result c.after-whole.ensures
          c.serve_busy-pass.ensures.pass (c.has_stopped-stopped.ensures.no c.if-stopped.false)) c.next_busy-next.result
          (λ k from below. c.next_busy-next.ensures.passed k from below);
      late = λ k from below. c.next_busy-next.ensures.passed k from below;
      setup = c.serve_busy-pass.ensures.setup ∙ c.loop-lane.invariant.setup;
      len = c.serve_busy-pass.ensures.len ∙ c.loop-lane.invariant.len;
    }

pub loop-lane-preserved : goal.loop-lane-preserved
loop-lane-preserved g c =
    let a : Scene = scene c.args.self.now (g.C.MemoryCell.bytes c.args.memory.now) in
    let b : Scene = scene c.loop-lane.self (g.C.MemoryCell.bytes c.loop-lane.memory) in
    let n : Scene = scene c.serve_busy-pass.new.self (g.C.MemoryCell.bytes c.serve_busy-pass.new.memory) in
    let w : Worked = c.serve_busy-pass.result in
    let on = c.has_stopped-stopped.ensures.no c.if-stopped.false in
    let some = c.if-some.false in
    let all : c.after-whole.result.done ≡ c.loop-lane.done + w.done = ap (λ (x : Worked). x.done) c.after-whole.ensures in
    let none : w.done ≡ 0 = omega (arith, some, all) in
    let made = first-leads scope.All (LaneRests b c.loop-lane.lane) (LaneRests b c.loop-lane.lane) (c.args.most - c.loop-lane.done) w b n c.serve_busy-pass.ensures.pass on in
    record {
      round = round-skip scope.All c.args.most c.after-whole.result.done (c.loop-lane.lane + 1) (λ (s : Scene) (k : ℕ). LaneRests s k) a n
          (round-on scope.All c.args.most c.loop-lane.done c.loop-lane.lane (λ (s : Scene) (k : ℕ). LaneRests s k) a b n c.loop-lane.invariant.round w c.after-whole.result c.after-whole.ensures
          c.serve_busy-pass.ensures.pass on) c.next_busy-next.result
          (λ k from below. c.next_busy-next.ensures.passed k from below);
      late = late-none (λ (s : Scene) (k : ℕ). LaneRests s k) b n c.loop-lane.upto c.loop-lane.lane c.next_busy-next.result c.loop-lane.invariant.late
          (made.2 none) (leads_zero scope.All b n w.done made.0 none) (λ k from below. c.next_busy-next.ensures.passed k from below);
      setup = c.serve_busy-pass.ensures.setup ∙ c.loop-lane.invariant.setup;
      len = c.serve_busy-pass.ensures.len ∙ c.loop-lane.invariant.len;
    }

pub returns-clause-pass : goal.returns-clause-pass
returns-clause-pass g c =
    let a : Scene = scene c.args.self.now (g.C.MemoryCell.bytes c.args.memory.now) in
    let b : Scene = scene c.loop-lane.self (g.C.MemoryCell.bytes c.loop-lane.memory) in
    let end = c.loop-lane-test.false in
    let many = c.lanes-count.ensures in
    round-end scope.All c.args.most c.loop-lane.done c.loop-lane.lane (λ (s : Scene) (k : ℕ). LaneRests s k) a b c.loop-lane.invariant.round _ c.so_far-2.result c.so_far-2.ensures
    (λ below k less. below k (omega (arith, less, end, many)))

pub returns-clause-rest : goal.returns-clause-rest
returns-clause-rest g c = λ lane from below.
    let end = c.loop-lane-test.false in
    let many = c.lanes-count.ensures in
    c.loop-lane.invariant.late lane from (omega (arith, below, end, many))
