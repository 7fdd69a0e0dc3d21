use Rattle.std.proofs.Common.{◌≡◌, ◌∙◌, ◌+◌, ◌≤◌, ◌<◌, ℕ, false, arith, inl, inr, refl}
use Rattle.std.proofs.lemmas.Bool.{cases_lt}
use Rattle.std.proofs.lemmas.Bool.Decides.{nat_tests}
use Rattle.nv_host.proofs.Works.{leads_none}
use Rattle.nv_host.proofs.Rests.{no_queue-take}
use Rattle.nv_world_model.specs.Step.{is_io_queue}
use Rattle.nv_host.proofs.Rounds.{after-fits, round-end, round-full, round-on, round-skip, round-stop}
use Rattle.nv_world_model.specs.declared.event.Event.TheVariants as event
use Rattle.nv_host.specs.Work.{NotDue, Scene, scene}
use Rattle.nv_host.specs.declared.worked.Scope.TheVariants as scope
use Rattle.nv_host.specs.declared.worked.Worked.{Worked}
use Rattle.nv_host.proofs.host_mediator.HostMediator.take_queues.Goals as goal

too_low : (queue : ℕ) → queue < 1 → is_io_queue queue ≡ false
too_low queue low = grind (arith, nat_tests)

too_high : (queue : ℕ) → 9 ≤ queue → is_io_queue queue ≡ false
too_high queue high = grind (arith, nat_tests)

pub loop-queue-init : goal.loop-queue-init
loop-queue-init g c =
    let a : Scene = scene c.args.self.now (g.C.MemoryCell.bytes c.args.memory.now) in
    record {
      round = round-skip (scope.Guest c.args.guest) c.args.most 0 1 (λ (s : Scene) (k : ℕ). (lane : ℕ) → NotDue s (event.Take c.args.guest k lane)) a a
          (record {
            leads = leads_none (scope.Guest c.args.guest) a a refl;
            few = omega arith;
            rests = λ zero queue below lane. no_queue-take a c.args.guest queue lane (too_low queue below);
          })
          c.next_waiting-queue.result (λ k from below lane. c.next_waiting-queue.ensures.passed _ k lane from below);
      setup = refl;
      len = refl;
      within = c.next_waiting-queue.ensures.within;
    }

pub after-whole-requires : goal.after-whole-requires
after-whole-requires g c =
    let a : Scene = scene c.args.self.now (g.C.MemoryCell.bytes c.args.memory.now) in
    let b : Scene = scene c.loop-queue.self (g.C.MemoryCell.bytes c.loop-queue.memory) in
    let n : Scene = scene c.take_lanes-pass.new.self (g.C.MemoryCell.bytes c.take_lanes-pass.new.memory) in
    let w : Worked = c.take_lanes-pass.result in
    after-fits (scope.Guest c.args.guest) c.args.most c.loop-queue.done
    (w.done ≡ 0 → (λ (s : Scene) (k : ℕ). (lane : ℕ) → NotDue s (event.Take c.args.guest k lane)) b c.loop-queue.queue) w b n c.take_lanes-pass.ensures.pass
    c.loop-queue.invariant.round.few c.ranges.most.fits

pub returns-then-done-turn-clause-pass : goal.returns-then-done-turn-clause-pass
returns-then-done-turn-clause-pass g c =
    let a : Scene = scene c.args.self.now (g.C.MemoryCell.bytes c.args.memory.now) in
    let b : Scene = scene c.loop-queue.self (g.C.MemoryCell.bytes c.loop-queue.memory) in
    round-full (scope.Guest c.args.guest) c.args.most c.loop-queue.done c.loop-queue.queue
    (λ (s : Scene) (k : ℕ). (lane : ℕ) → NotDue s (event.Take c.args.guest k lane)) a b c.loop-queue.invariant.round _ c.args.turn c.so_far.result c.so_far.ensures
    c.if-done-turn.true c.requires.some

pub returns-then-stopped-clause-pass : goal.returns-then-stopped-clause-pass
returns-then-stopped-clause-pass g c =
    let a : Scene = scene c.args.self.now (g.C.MemoryCell.bytes c.args.memory.now) in
    let b : Scene = scene c.loop-queue.self (g.C.MemoryCell.bytes c.loop-queue.memory) in
    let n : Scene = scene c.take_lanes-pass.new.self (g.C.MemoryCell.bytes c.take_lanes-pass.new.memory) in
    let w : Worked = c.take_lanes-pass.result in
    round-stop (scope.Guest c.args.guest) c.args.most c.loop-queue.done c.loop-queue.queue
    (λ (s : Scene) (k : ℕ). (lane : ℕ) → NotDue s (event.Take c.args.guest k lane)) a b n c.loop-queue.invariant.round _ w c.after-whole.result c.after-whole.ensures
    c.take_lanes-pass.ensures.pass (c.has_stopped-stopped.ensures.yes c.if-stopped.true)

pub loop-queue-preserved : goal.loop-queue-preserved
loop-queue-preserved g c =
    let a : Scene = scene c.args.self.now (g.C.MemoryCell.bytes c.args.memory.now) in
    let b : Scene = scene c.loop-queue.self (g.C.MemoryCell.bytes c.loop-queue.memory) in
    let n : Scene = scene c.take_lanes-pass.new.self (g.C.MemoryCell.bytes c.take_lanes-pass.new.memory) in
    let w : Worked = c.take_lanes-pass.result in
    record {
      round = round-skip (scope.Guest c.args.guest) c.args.most c.after-whole.result.done (c.loop-queue.queue + 1) (λ (s : Scene) (k : ℕ). (lane : ℕ) → NotDue s (event.Take c.args.guest k lane)) a n
          (round-on (scope.Guest c.args.guest) c.args.most c.loop-queue.done c.loop-queue.queue (λ (s : Scene) (k : ℕ). (lane : ℕ) → NotDue s (event.Take c.args.guest k lane)) a b n
          c.loop-queue.invariant.round w c.after-whole.result c.after-whole.ensures c.take_lanes-pass.ensures.pass
          (c.has_stopped-stopped.ensures.no c.if-stopped.false))
          c.next_waiting-queue-in-loop-queue.result (λ k from below lane. c.next_waiting-queue-in-loop-queue.ensures.passed _ k lane from below);
      setup = c.take_lanes-pass.ensures.setup ∙ c.loop-queue.invariant.setup;
      len = c.take_lanes-pass.ensures.len ∙ c.loop-queue.invariant.len;
      within = c.next_waiting-queue-in-loop-queue.ensures.within;
    }

pub returns-clause-pass : goal.returns-clause-pass
returns-clause-pass g c =
    let a : Scene = scene c.args.self.now (g.C.MemoryCell.bytes c.args.memory.now) in
    let b : Scene = scene c.loop-queue.self (g.C.MemoryCell.bytes c.loop-queue.memory) in
    let end = c.loop-queue-test.false in
    round-end (scope.Guest c.args.guest) c.args.most c.loop-queue.done c.loop-queue.queue
    (λ (s : Scene) (k : ℕ). (lane : ℕ) → NotDue s (event.Take c.args.guest k lane)) a b c.loop-queue.invariant.round _ c.so_far-2.result c.so_far-2.ensures
    (λ below queue lane. elim (cases_lt queue 9) [
      | inl less ↦ below queue (omega (arith, less, end)) lane
      | inr high ↦ no_queue-take a c.args.guest queue lane (too_high queue high)
    ])
