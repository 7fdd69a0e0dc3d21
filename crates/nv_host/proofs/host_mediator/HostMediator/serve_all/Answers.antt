use Rattle.std.proofs.Common.{◌≡◌, ◌∙◌, ◌<◌, ◌-◌, ℕ, inl, inr, subst, ap, sym, leb-true, arith}
use Rattle.std.proofs.lemmas.Bool.{cases_lt}
use Rattle.nv_host.proofs.Rests.{all-rests, guest-rests}
use Rattle.nv_host.proofs.Rounds.{after-fits, first-leads, round-of, two-both, two-first}
use Rattle.nv_host.proofs.Works.{leads_zero}
use Rattle.nv_host.specs.Passes.{LaneRests, QueuesRest}
use Rattle.nv_host.specs.Work.{Scene, scene}
use Rattle.nv_host.specs.declared.worked.Scope.TheVariants as scope
use Rattle.nv_host.specs.declared.worked.Worked.{Worked}
use Rattle.nv_world_model.specs.SetUp.{SetUp}
use Rattle.nv_host.proofs.host_mediator.HostMediator.serve_all.Goals as goal

pub returns-then-ends-clause-round : goal.returns-then-ends-clause-round
returns-then-ends-clause-round g c =
    let a : Scene = scene c.args.self.now (g.C.MemoryCell.bytes c.args.memory.now) in
    let b : Scene = scene c.serve_lanes-served.new.self (g.C.MemoryCell.bytes c.serve_lanes-served.new.memory) in
    round-of scope.All c.args.most c.serve_lanes-served.result.0 c.of.result a b c.of.ensures
    (two-first scope.All _ ((lane : ℕ) → lane < c.args.self.now.setup.lanes → LaneRests a lane) c.args.most c.serve_lanes-served.result.0 a b
    c.serve_lanes-served.ensures.pass c.args.most (c.ends.ensures.yes c.if-ends.true) c.requires.some)

pub after-worked-requires : goal.after-worked-requires
after-worked-requires g c =
    let a : Scene = scene c.args.self.now (g.C.MemoryCell.bytes c.args.memory.now) in
    let b : Scene = scene c.serve_lanes-served.new.self (g.C.MemoryCell.bytes c.serve_lanes-served.new.memory) in
    let n : Scene = scene c.serve_guests-guests.new.self (g.C.MemoryCell.bytes c.serve_guests-guests.new.memory) in
    let first : Type 0 = (lane : ℕ) → lane < c.args.self.now.setup.lanes → LaneRests a lane in
    let on = c.ends.ensures.no c.if-ends.false in
    after-fits scope.All c.args.most c.serve_lanes-served.result.0.done (c.serve_guests-guests.result.done ≡ 0 → ((guest : ℕ) → guest < 16 → QueuesRest b guest))
    c.serve_guests-guests.result b n c.serve_guests-guests.ensures.pass
    (first-leads scope.All first first c.args.most c.serve_lanes-served.result.0 a b c.serve_lanes-served.ensures.pass on.0).1 c.ranges.most.fits

pub returns-then-ends-2-clause-round : goal.returns-then-ends-2-clause-round
returns-then-ends-2-clause-round g c =
    let a : Scene = scene c.args.self.now (g.C.MemoryCell.bytes c.args.memory.now) in
    let b : Scene = scene c.serve_lanes-served.new.self (g.C.MemoryCell.bytes c.serve_lanes-served.new.memory) in
    let n : Scene = scene c.serve_guests-guests.new.self (g.C.MemoryCell.bytes c.serve_guests-guests.new.memory) in
    let many = c.sizes.ensures.lanes in
    let on = c.ends.ensures.no c.if-ends.false in
    round-of scope.All c.args.most c.after-worked.result c.of-then-ends-2.result a n c.of-then-ends-2.ensures
    (two-both scope.All _ ((lane : ℕ) → lane < c.args.self.now.setup.lanes → LaneRests a lane) c.args.most c.serve_lanes-served.result.0 a b
    c.serve_lanes-served.ensures.pass (λ (b : Scene). (guest : ℕ) → guest < 16 → QueuesRest b guest) c.serve_guests-guests.result c.after-worked.result n on.0
    c.after-worked.ensures c.serve_guests-guests.ensures.pass
    (λ idle queues. all-rests a c.sizes.ensures.guests (λ lane below. (idle lane (omega (arith, many, below))).0)
    (λ guest there. guest-rests a guest (queues guest there) (λ lane below tag. (idle lane (omega (arith, many, below))).1 tag guest))))

pub returns-clause-round : goal.returns-clause-round
returns-clause-round g c =
    let a : Scene = scene c.args.self.now (g.C.MemoryCell.bytes c.args.memory.now) in
    let b : Scene = scene c.serve_lanes-served.new.self (g.C.MemoryCell.bytes c.serve_lanes-served.new.memory) in
    let n : Scene = scene c.serve_guests-guests.new.self (g.C.MemoryCell.bytes c.serve_guests-guests.new.memory) in
    let many = c.sizes.ensures.lanes in
    let on = c.ends.ensures.no c.if-ends.false in
    let quiet = c.ends-2.ensures.no c.if-ends-2.false in
    let few = quiet.1 in
    let none : c.serve_guests-guests.result.done ≡ 0 = omega (arith, few) in
    let queues : Type 0 = (guest : ℕ) → guest < 16 → QueuesRest b guest in
    let made = first-leads scope.All queues queues (c.args.most - c.serve_lanes-served.result.0.done) c.serve_guests-guests.result b n c.serve_guests-guests.ensures.pass quiet.0 in
    let same : n ≡ b = leads_zero scope.All b n c.serve_guests-guests.result.done made.0 none in
    let now = c.sizes-2.ensures.lanes in
    let kept = ap (λ (x : SetUp). x.lanes) c.serve_guests-guests.ensures.setup ∙ ap (λ (x : SetUp). x.lanes) c.serve_lanes-served.ensures.setup in
    record {
      pass = two-both scope.All _ ((lane : ℕ) → lane < c.args.self.now.setup.lanes → LaneRests a lane) c.args.most c.serve_lanes-served.result.0 a b
          c.serve_lanes-served.ensures.pass (λ (b : Scene). (guest : ℕ) → guest < 16 → QueuesRest b guest) c.serve_guests-guests.result c.after-worked.result n on.0
          c.after-worked.ensures c.serve_guests-guests.ensures.pass
          (λ idle queues. all-rests a c.sizes.ensures.guests (λ lane below. (idle lane (omega (arith, many, below))).0)
          (λ guest there. guest-rests a guest (queues guest there) (λ lane below tag. (idle lane (omega (arith, many, below))).1 tag guest)));
      rest = λ is.
          let over = leb-true c.serve_lanes-served.result.1 c.next_busy-busy.result is in
          let lanes : (lane : ℕ) → lane < c.args.self.now.setup.lanes → LaneRests n lane =
          λ lane below. elim (cases_lt lane c.serve_lanes-served.result.1) [
            | inl low ↦ c.next_busy-busy.ensures.passed lane (omega arith) (omega (arith, low, over))
            | inr high ↦ subst (λ (x : Scene). LaneRests x lane) (sym same) (c.serve_lanes-served.ensures.rest lane high below)
          ] in (
            ap (λ (x : Worked). x.why) c.after-worked.ensures ∙ quiet.0,
            all-rests n c.sizes-2.ensures.guests (λ lane below. (lanes lane (omega (arith, now, kept, below))).0)
                (λ guest there. guest-rests n guest (subst (λ (x : Scene). QueuesRest x guest) (sym same) (made.2 none guest there))
                (λ lane below tag. (lanes lane (omega (arith, now, kept, below))).1 tag guest)),
          );
    }
