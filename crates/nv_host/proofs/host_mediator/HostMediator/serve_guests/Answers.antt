use Rattle.std.proofs.Common.{◌≡◌, ◌∙◌, ◌-◌, ◌<◌, ℕ, refl, subst}
use Rattle.nv_core.specs.Noted.{Rests as Quiet}
use Rattle.nv_host.proofs.Queues.{quiet-rests}
use Rattle.nv_host.specs.Served.{Served}
use Rattle.nv_host.proofs.Works.{ended-all, ended-so}
use Rattle.nv_host.proofs.Rounds.{after-fits}
use Rattle.nv_host.proofs.Searches.{none-left, search-end, search-full, search-none, search-on, search-stop}
use Rattle.nv_host.specs.Passes.{QueuesRest}
use Rattle.nv_host.specs.Work.{Scene, scene}
use Rattle.nv_host.specs.declared.worked.Scope.TheVariants as scope
use Rattle.nv_host.specs.declared.worked.Worked.{Worked}
use Rattle.nv_host.proofs.host_mediator.HostMediator.serve_guests.Goals as goal

pub loop-guest-init : goal.loop-guest-init
loop-guest-init g c =
    let a : Scene = scene c.args.self.now (g.C.MemoryCell.bytes c.args.memory.now) in
    record
    { search = search-none scope.All c.args.most c.noted-noted.result (λ (s : Scene) (k : ℕ). k < 16 → QueuesRest s k) a (λ k out below. quiet-rests a k (subst (λ (x : Served). Quiet k x.side) c.self.view_is (c.noted-noted.ensures k below out))); setup = refl; len = refl }

pub returns-then-done-most-clause-pass : goal.returns-then-done-most-clause-pass
returns-then-done-most-clause-pass g c =
    let a : Scene = scene c.args.self.now (g.C.MemoryCell.bytes c.args.memory.now) in
    let b : Scene = scene c.loop-guest.self (g.C.MemoryCell.bytes c.loop-guest.memory) in
    search-full scope.All c.args.most c.loop-guest.done c.loop-guest.noted (λ (s : Scene) (k : ℕ). k < 16 → QueuesRest s k) a b c.loop-guest.invariant.search _
    c.args.most c.so_far.result c.so_far.ensures c.if-done-most.true c.requires.some

pub after-whole-requires : goal.after-whole-requires
after-whole-requires g c =
    let a : Scene = scene c.args.self.now (g.C.MemoryCell.bytes c.args.memory.now) in
    let b : Scene = scene c.loop-guest.self (g.C.MemoryCell.bytes c.loop-guest.memory) in
    let n : Scene = scene c.serve_queues-pass.new.self (g.C.MemoryCell.bytes c.serve_queues-pass.new.memory) in
    let w : Worked = c.serve_queues-pass.result in
    after-fits scope.All c.args.most c.loop-guest.done (w.done ≡ 0 → (λ (s : Scene) (k : ℕ). k < 16 → QueuesRest s k) b c.in-Some.guest) w b n
    (ended-so scope.All (c.args.most - c.loop-guest.done) w.done (w.done ≡ 0 → (λ (s : Scene) (k : ℕ). k < 16 → QueuesRest s k) b c.in-Some.guest)
    (w.done ≡ 0 → QueuesRest b c.in-Some.guest) w.why b n
    (ended-all (scope.Guest c.in-Some.guest) (c.args.most - c.loop-guest.done) w.done (w.done ≡ 0 → QueuesRest b c.in-Some.guest) w.why b n c.serve_queues-pass.ensures.pass)
    (λ rest zero below. rest zero))
    c.loop-guest.invariant.search.few c.ranges.most.fits

pub returns-then-stopped-clause-pass : goal.returns-then-stopped-clause-pass
returns-then-stopped-clause-pass g c =
    let a : Scene = scene c.args.self.now (g.C.MemoryCell.bytes c.args.memory.now) in
    let b : Scene = scene c.loop-guest.self (g.C.MemoryCell.bytes c.loop-guest.memory) in
    let n : Scene = scene c.serve_queues-pass.new.self (g.C.MemoryCell.bytes c.serve_queues-pass.new.memory) in
    let w : Worked = c.serve_queues-pass.result in
    search-stop scope.All c.args.most c.loop-guest.done c.in-Some.guest c.loop-guest.noted c.pop.new.self (λ (s : Scene) (k : ℕ). k < 16 → QueuesRest s k) a b n
    c.loop-guest.invariant.search c.in-Some.ensures.lowest _ w c.after-whole.result c.after-whole.ensures
    (ended-so scope.All (c.args.most - c.loop-guest.done) w.done (w.done ≡ 0 → (λ (s : Scene) (k : ℕ). k < 16 → QueuesRest s k) b c.in-Some.guest)
    (w.done ≡ 0 → QueuesRest b c.in-Some.guest) w.why b n
    (ended-all (scope.Guest c.in-Some.guest) (c.args.most - c.loop-guest.done) w.done (w.done ≡ 0 → QueuesRest b c.in-Some.guest) w.why b n c.serve_queues-pass.ensures.pass)
    (λ rest zero below. rest zero))
    (c.has_stopped-stopped.ensures.yes c.if-stopped.true)

pub loop-guest-preserved : goal.loop-guest-preserved
loop-guest-preserved g c =
    let a : Scene = scene c.args.self.now (g.C.MemoryCell.bytes c.args.memory.now) in
    let b : Scene = scene c.loop-guest.self (g.C.MemoryCell.bytes c.loop-guest.memory) in
    let n : Scene = scene c.serve_queues-pass.new.self (g.C.MemoryCell.bytes c.serve_queues-pass.new.memory) in
    let w : Worked = c.serve_queues-pass.result in
    record {
      search = search-on scope.All c.args.most c.loop-guest.done c.in-Some.guest c.loop-guest.noted c.pop.new.self (λ (s : Scene) (k : ℕ). k < 16 → QueuesRest s k) a
          b n c.loop-guest.invariant.search c.in-Some.ensures.lowest w c.after-whole.result c.after-whole.ensures
          (ended-so scope.All (c.args.most - c.loop-guest.done) w.done (w.done ≡ 0 → (λ (s : Scene) (k : ℕ). k < 16 → QueuesRest s k) b c.in-Some.guest)
          (w.done ≡ 0 → QueuesRest b c.in-Some.guest) w.why b n
          (ended-all (scope.Guest c.in-Some.guest) (c.args.most - c.loop-guest.done) w.done (w.done ≡ 0 → QueuesRest b c.in-Some.guest) w.why b n c.serve_queues-pass.ensures.pass)
          (λ rest zero below. rest zero))
          (c.has_stopped-stopped.ensures.no c.if-stopped.false);
      setup = c.serve_queues-pass.ensures.setup ∙ c.loop-guest.invariant.setup;
      len = c.serve_queues-pass.ensures.len ∙ c.loop-guest.invariant.len;
    }

pub returns-clause-pass : goal.returns-clause-pass
returns-clause-pass g c =
    let a : Scene = scene c.args.self.now (g.C.MemoryCell.bytes c.args.memory.now) in
    let b : Scene = scene c.loop-guest.self (g.C.MemoryCell.bytes c.loop-guest.memory) in
    search-end scope.All c.args.most c.loop-guest.done c.loop-guest.noted (λ (s : Scene) (k : ℕ). k < 16 → QueuesRest s k) a b c.loop-guest.invariant.search
    (none-left c.pop.result c.loop-guest.noted c.pop.new.self c.in_default.is c.pop.ensures.lowest) _ c.so_far-2.result c.so_far-2.ensures
    (λ none. none)
