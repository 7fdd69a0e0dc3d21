use Rattle.std.proofs.Common.{◌≡◌, ℕ}
use Rattle.nv_host.proofs.Rounds.{after-fits, first-leads, two-both, two-first}
use Rattle.nv_host.proofs.Works.{ended-all}
use Rattle.nv_host.specs.Passes.{NothingWaitsAt}
use Rattle.nv_host.specs.Work.{Rests, Scene, scene}
use Rattle.nv_host.specs.declared.worked.Scope.TheVariants as scope
use Rattle.nv_host.specs.declared.worked.Worked.{Worked}
use Rattle.nv_host.proofs.host_mediator.HostMediator.serve_busy.Goals as goal

pub returns-then-ends-clause-pass : goal.returns-then-ends-clause-pass
returns-then-ends-clause-pass g c =
    let a : Scene = scene c.args.self.now (g.C.MemoryCell.bytes c.args.memory.now) in
    let b : Scene = scene c.serve_news-served.new.self (g.C.MemoryCell.bytes c.serve_news-served.new.memory) in
    let w : Worked = c.serve_news-served.result in
    let first : Type 0 = Rests (scope.Lane c.args.lane) a in
    two-first scope.All _ first c.args.most w a b
    (ended-all (scope.Lane c.args.lane) c.args.most w.done (w.done ≡ 0 → first) w.why a b c.serve_news-served.ensures.pass) c.args.most
    (c.ends.ensures.yes c.if-ends.true) c.requires.some

pub after-requires : goal.after-requires
after-requires g c =
    let a : Scene = scene c.args.self.now (g.C.MemoryCell.bytes c.args.memory.now) in
    let b : Scene = scene c.serve_news-served.new.self (g.C.MemoryCell.bytes c.serve_news-served.new.memory) in
    let n : Scene = scene c.plan_lane-planned.new.self (g.C.MemoryCell.bytes c.plan_lane-planned.new.memory) in
    let w : Worked = c.serve_news-served.result in
    let first : Type 0 = Rests (scope.Lane c.args.lane) a in
    let on = c.ends.ensures.no c.if-ends.false in
    after-fits scope.All c.args.most w.done (c.plan_lane-planned.result.done ≡ 0 → (tag : ℕ) → NothingWaitsAt b c.args.lane tag) c.plan_lane-planned.result b n
    c.plan_lane-planned.ensures.pass
    (first-leads scope.All first first c.args.most w a b
    (ended-all (scope.Lane c.args.lane) c.args.most w.done (w.done ≡ 0 → first) w.why a b c.serve_news-served.ensures.pass) on.0).1
    c.ranges.most.fits

pub returns-clause-pass : goal.returns-clause-pass
returns-clause-pass g c =
    let a : Scene = scene c.args.self.now (g.C.MemoryCell.bytes c.args.memory.now) in
    let b : Scene = scene c.serve_news-served.new.self (g.C.MemoryCell.bytes c.serve_news-served.new.memory) in
    let n : Scene = scene c.plan_lane-planned.new.self (g.C.MemoryCell.bytes c.plan_lane-planned.new.memory) in
    let w : Worked = c.serve_news-served.result in
    let first : Type 0 = Rests (scope.Lane c.args.lane) a in
    let on = c.ends.ensures.no c.if-ends.false in
    two-both scope.All _ first c.args.most w a b
    (ended-all (scope.Lane c.args.lane) c.args.most w.done (w.done ≡ 0 → first) w.why a b c.serve_news-served.ensures.pass)
    (λ (b : Scene). (tag : ℕ) → NothingWaitsAt b c.args.lane tag) c.plan_lane-planned.result c.after.result n on.0 c.after.ensures
    c.plan_lane-planned.ensures.pass (λ rests none. (rests, none))
