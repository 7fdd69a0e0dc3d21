use Rattle.std.proofs.Common.{◌≡◌, ◌∙◌, ℕ, arith, inl, inr, length, refl, subst, sym}
use Rattle.nv_host.proofs.Queues.{none-takes}
use Rattle.nv_host.proofs.Works.{leads_zero}
use Rattle.std.proofs.lemmas.Bool.{cases_lt}
use Rattle.nv_host.proofs.Rests.{past-take}
use Rattle.nv_host.proofs.Rounds.{after-fits, pass-far, round-end, round-full, round-none, round-on, round-stop}
use Rattle.nv_world_model.specs.declared.event.Event.TheVariants as event
use Rattle.nv_host.specs.Work.{NotDue, Scene, scene}
use Rattle.nv_host.specs.declared.worked.Scope.TheVariants as scope
use Rattle.nv_host.specs.declared.worked.Worked.{Worked}
use Rattle.nv_host.proofs.host_mediator.HostMediator.take_lanes.Goals as goal

pub loop-lane-init : goal.loop-lane-init
loop-lane-init g c =
    let a : Scene = scene c.args.self.now (g.C.MemoryCell.bytes c.args.memory.now) in
    record
    { round = round-none (scope.Guest c.args.guest) c.args.most (λ (s : Scene) (k : ℕ). NotDue s (event.Take c.args.guest c.args.queue k)) a; setup = refl; len = refl }

pub after-whole-requires : goal.after-whole-requires
after-whole-requires g c =
    let a : Scene = scene c.args.self.now (g.C.MemoryCell.bytes c.args.memory.now) in
    let b : Scene = scene c.loop-lane.self (g.C.MemoryCell.bytes c.loop-lane.memory) in
    let n : Scene = scene c.take_on-pass.new.self (g.C.MemoryCell.bytes c.take_on-pass.new.memory) in
    let w : Worked = c.take_on-pass.result in
    after-fits (scope.Guest c.args.guest) c.args.most c.loop-lane.done
    (w.done ≡ 0 → (λ (s : Scene) (k : ℕ). NotDue s (event.Take c.args.guest c.args.queue k)) b c.loop-lane.lane) w b n c.take_on-pass.ensures.pass
    c.loop-lane.invariant.round.few c.ranges.most.fits

pub returns-then-done-turn-clause-pass : goal.returns-then-done-turn-clause-pass
returns-then-done-turn-clause-pass g c =
    let a : Scene = scene c.args.self.now (g.C.MemoryCell.bytes c.args.memory.now) in
    let b : Scene = scene c.loop-lane.self (g.C.MemoryCell.bytes c.loop-lane.memory) in
    round-full (scope.Guest c.args.guest) c.args.most c.loop-lane.done c.loop-lane.lane (λ (s : Scene) (k : ℕ). NotDue s (event.Take c.args.guest c.args.queue k)) a
    b c.loop-lane.invariant.round _ c.args.turn c.so_far.result c.so_far.ensures c.if-done-turn.true c.requires.some

pub returns-then-not-waits-clause-pass : goal.returns-then-not-waits-clause-pass
returns-then-not-waits-clause-pass g c =
    let a : Scene = scene c.args.self.now (g.C.MemoryCell.bytes c.args.memory.now) in
    let b : Scene = scene c.loop-lane.self (g.C.MemoryCell.bytes c.loop-lane.memory) in
    let round = c.loop-lane.invariant.round in
    pass-far (scope.Guest c.args.guest) _ c.args.most c.loop-lane.done c.so_far-then-not-waits.result a b c.so_far-then-not-waits.ensures round.leads round.few
    (λ zero. subst (λ (s : Scene). (lane : ℕ) → NotDue s (event.Take c.args.guest c.args.queue lane))
    (leads_zero (scope.Guest c.args.guest) a b c.loop-lane.done round.leads zero)
    (none-takes b c.args.guest c.args.queue (sym c.waits.ensures ∙ c.if-not-waits.true)))

pub returns-then-stopped-clause-pass : goal.returns-then-stopped-clause-pass
returns-then-stopped-clause-pass g c =
    let a : Scene = scene c.args.self.now (g.C.MemoryCell.bytes c.args.memory.now) in
    let b : Scene = scene c.loop-lane.self (g.C.MemoryCell.bytes c.loop-lane.memory) in
    let n : Scene = scene c.take_on-pass.new.self (g.C.MemoryCell.bytes c.take_on-pass.new.memory) in
    let w : Worked = c.take_on-pass.result in
    round-stop (scope.Guest c.args.guest) c.args.most c.loop-lane.done c.loop-lane.lane (λ (s : Scene) (k : ℕ). NotDue s (event.Take c.args.guest c.args.queue k)) a
    b n c.loop-lane.invariant.round _ w c.after-whole.result c.after-whole.ensures c.take_on-pass.ensures.pass (c.has_stopped-stopped.ensures.yes c.if-stopped.true)

pub loop-lane-preserved : goal.loop-lane-preserved
loop-lane-preserved g c =
    let a : Scene = scene c.args.self.now (g.C.MemoryCell.bytes c.args.memory.now) in
    let b : Scene = scene c.loop-lane.self (g.C.MemoryCell.bytes c.loop-lane.memory) in
    let n : Scene = scene c.take_on-pass.new.self (g.C.MemoryCell.bytes c.take_on-pass.new.memory) in
    let w : Worked = c.take_on-pass.result in
    record {
      round = round-on (scope.Guest c.args.guest) c.args.most c.loop-lane.done c.loop-lane.lane
          (λ (s : Scene) (k : ℕ). NotDue s (event.Take c.args.guest c.args.queue k)) a b n c.loop-lane.invariant.round w c.after-whole.result c.after-whole.ensures
          c.take_on-pass.ensures.pass (c.has_stopped-stopped.ensures.no c.if-stopped.false);
      setup = c.take_on-pass.ensures.setup ∙ c.loop-lane.invariant.setup;
      len = c.take_on-pass.ensures.len ∙ c.loop-lane.invariant.len;
    }

pub returns-clause-pass : goal.returns-clause-pass
returns-clause-pass g c =
    let a : Scene = scene c.args.self.now (g.C.MemoryCell.bytes c.args.memory.now) in
    let b : Scene = scene c.loop-lane.self (g.C.MemoryCell.bytes c.loop-lane.memory) in
    let end = c.loop-lane-test.false in
    round-end (scope.Guest c.args.guest) c.args.most c.loop-lane.done c.loop-lane.lane (λ (s : Scene) (k : ℕ). NotDue s (event.Take c.args.guest c.args.queue k)) a b
    c.loop-lane.invariant.round _ c.so_far-2.result c.so_far-2.ensures
    (λ below lane. elim (cases_lt lane (length c.args.self.now.side.lanes)) [
      | inl less ↦ below lane (let all = c.sizes.ensures.lanes in let many = c.lanes-lane-end.ensures in omega (arith, less, end, many, all))
      | inr beyond ↦ past-take a c.args.guest c.args.queue lane beyond
    ])
