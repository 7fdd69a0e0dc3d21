use Rattle.std.proofs.Common.{◌≡◌, ◌∙◌, ◌+◌, sym, subst, refl, arith}
use Rattle.nv_host.proofs.Readings.{reading-may, reading-same}
use Rattle.nv_host.proofs.Rounds.{after-fits, pass-after, pass-far}
use Rattle.nv_host.proofs.Works.{leads_more, leads_none}
use Rattle.nv_host.specs.Work.{IsWanting, Leads, Scene, scene}
use Rattle.nv_host.specs.declared.worked.Scope.TheVariants as scope
use Rattle.nv_host.proofs.host_mediator.HostMediator.read_on.Goals as goal

pub loop-done-init : goal.loop-done-init
loop-done-init g c =
    let a : Scene = scene c.args.self.now (g.C.MemoryCell.bytes c.args.memory.now) in
    record { leads = leads_none (scope.Guest c.args.guest) a a refl; few = omega arith; reading = c.requires.reading; setup = refl; len = refl }

pub read_next-requires-clause-reading : goal.read_next-requires-clause-reading
read_next-requires-clause-reading g c = c.loop-done.invariant.reading

pub loop-done-preserved : goal.loop-done-preserved
loop-done-preserved g c =
    let a : Scene = scene c.args.self.now (g.C.MemoryCell.bytes c.args.memory.now) in
    let b : Scene = scene c.loop-done.self (g.C.MemoryCell.bytes c.loop-done.memory) in
    let n : Scene = scene c.read_next.new.self (g.C.MemoryCell.bytes c.loop-done.memory) in
    let below = c.loop-done-test.true in
    record {
      leads = leads_more (scope.Guest c.args.guest) c.loop-done.done 1 a b n c.loop-done.invariant.leads c.in-Read.ensures.stride.0;
      few = omega (arith, below);
      reading = c.in-Read.ensures.stride.1;
      setup = c.read_next.ensures.setup ∙ c.loop-done.invariant.setup;
      len = c.loop-done.invariant.len;
    }

pub hand_over-rest-requires-clause-reading : goal.hand_over-rest-requires-clause-reading
hand_over-rest-requires-clause-reading g c =
    reading-same c.args.guest (scene c.loop-done.self (g.C.MemoryCell.bytes c.loop-done.memory)) (scene c.read_next.new.self (g.C.MemoryCell.bytes c.loop-done.memory)) c.loop-done.planning c.read_next.new.planning c.in-Planned.ensures.stride.0 c.in-Planned.ensures.stride.1 c.loop-done.invariant.reading

pub after-requires : goal.after-requires
after-requires g c =
    let a : Scene = scene c.args.self.now (g.C.MemoryCell.bytes c.args.memory.now) in
    let b : Scene = scene c.loop-done.self (g.C.MemoryCell.bytes c.loop-done.memory) in
    let n : Scene = scene c.read_next.new.self (g.C.MemoryCell.bytes c.loop-done.memory) in
    let k : Scene = scene c.hand_over-rest.new.self (g.C.MemoryCell.bytes c.hand_over-rest.new.memory) in
    after-fits (scope.Guest c.args.guest) c.args.most c.loop-done.done (c.hand_over-rest.result.done ≡ 0 → ⊥) c.hand_over-rest.result n k c.hand_over-rest.ensures.pass c.loop-done.invariant.few c.ranges.most.fits

pub returns-in-Planned-clause-pass : goal.returns-in-Planned-clause-pass
returns-in-Planned-clause-pass g c =
    let a : Scene = scene c.args.self.now (g.C.MemoryCell.bytes c.args.memory.now) in
    let b : Scene = scene c.loop-done.self (g.C.MemoryCell.bytes c.loop-done.memory) in
    let n : Scene = scene c.read_next.new.self (g.C.MemoryCell.bytes c.loop-done.memory) in
    let k : Scene = scene c.hand_over-rest.new.self (g.C.MemoryCell.bytes c.hand_over-rest.new.memory) in
    pass-after (scope.Guest c.args.guest) ⊥ (c.hand_over-rest.result.done ≡ 0 → ⊥) c.args.most c.loop-done.done c.hand_over-rest.result c.after.result a n k c.after.ensures
    (subst (λ (x : Scene). Leads (scope.Guest c.args.guest) c.loop-done.done a x) (sym c.in-Planned.ensures.stride.0) c.loop-done.invariant.leads) c.loop-done.invariant.few
    c.hand_over-rest.ensures.pass (λ is some zero. some (omega (arith, zero)))

pub end_unplanned-rest-requires-clause-may : goal.end_unplanned-rest-requires-clause-may
end_unplanned-rest-requires-clause-may g c =
    reading-may c.args.guest (scene c.loop-done.self (g.C.MemoryCell.bytes c.loop-done.memory)) (scene c.read_next.new.self (g.C.MemoryCell.bytes c.loop-done.memory)) c.loop-done.planning c.read_next.new.planning c.into_job-lane.result c.in-Starved.ensures.stride.0 c.in-Starved.ensures.stride.1 c.into_job-lane.ensures
    c.loop-done.invariant.reading

pub returns-in-Starved-clause-pass : goal.returns-in-Starved-clause-pass
returns-in-Starved-clause-pass g c =
    let a : Scene = scene c.args.self.now (g.C.MemoryCell.bytes c.args.memory.now) in
    let b : Scene = scene c.loop-done.self (g.C.MemoryCell.bytes c.loop-done.memory) in
    let n : Scene = scene c.read_next.new.self (g.C.MemoryCell.bytes c.loop-done.memory) in
    let k : Scene = scene c.end_unplanned-rest.new.self (g.C.MemoryCell.bytes c.loop-done.memory) in
    pass-after (scope.Guest c.args.guest) ⊥ (c.end_unplanned-rest.result.done ≡ 0 → ⊥) c.args.most c.loop-done.done c.end_unplanned-rest.result c.after-in-Starved.result a n k c.after-in-Starved.ensures
    (subst (λ (x : Scene). Leads (scope.Guest c.args.guest) c.loop-done.done a x) (sym c.in-Starved.ensures.stride.0) c.loop-done.invariant.leads) c.loop-done.invariant.few
    c.end_unplanned-rest.ensures.pass (λ is some zero. some (omega (arith, zero)))

pub returns-in-Full-clause-pass : goal.returns-in-Full-clause-pass
returns-in-Full-clause-pass g c =
    let a : Scene = scene c.args.self.now (g.C.MemoryCell.bytes c.args.memory.now) in
    let b : Scene = scene c.loop-done.self (g.C.MemoryCell.bytes c.loop-done.memory) in
    let n : Scene = scene c.read_next.new.self (g.C.MemoryCell.bytes c.loop-done.memory) in
    let same = c.in-Full.ensures.stride.0 in (
      subst (λ (x : Scene). Leads (scope.Guest c.args.guest) c.loop-done.done a x) (sym same) c.loop-done.invariant.leads,
      c.loop-done-test.true,
      subst (λ (x : Scene). IsWanting (scope.Guest c.args.guest) x) (sym same) c.in-Full.ensures.stride.1,
    )

pub returns-in-Lost-clause-pass : goal.returns-in-Lost-clause-pass
returns-in-Lost-clause-pass g c =
    let a : Scene = scene c.args.self.now (g.C.MemoryCell.bytes c.args.memory.now) in
    let b : Scene = scene c.loop-done.self (g.C.MemoryCell.bytes c.loop-done.memory) in
    let n : Scene = scene c.read_next.new.self (g.C.MemoryCell.bytes c.loop-done.memory) in
    let below = c.loop-done-test.true in
    pass-far (scope.Guest c.args.guest) ⊥ c.args.most (c.loop-done.done + 1) c.so_far.result a n c.so_far.ensures
    (leads_more (scope.Guest c.args.guest) c.loop-done.done 1 a b n c.loop-done.invariant.leads c.in-Lost.ensures.stride) (omega (arith, below)) (λ zero. omega (arith, zero))

pub returns-clause-pass : goal.returns-clause-pass
returns-clause-pass g c =
    let a : Scene = scene c.args.self.now (g.C.MemoryCell.bytes c.args.memory.now) in
    let b : Scene = scene c.loop-done.self (g.C.MemoryCell.bytes c.loop-done.memory) in
    let end = c.loop-done-test.false in
    let some = c.requires.some in
    pass-far (scope.Guest c.args.guest) ⊥ c.args.most c.loop-done.done c.so_far-2.result a b c.so_far-2.ensures c.loop-done.invariant.leads c.loop-done.invariant.few
    (λ zero. omega (arith, zero, end, some))
