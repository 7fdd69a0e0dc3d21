use Rattle.std.proofs.Common.{◌≡◌, ◌∙◌, ℕ, refl, slice_get}
use Rattle.nv_laws_sound.specs.Side.{Side}
use Rattle.nv_core.specs.Tags.{taken_in}
use Rattle.nv_host.proofs.Made.{made}
use Rattle.nv_host.proofs.Rounds.{after-fits}
use Rattle.nv_host.proofs.Marked.{among-same, not-taken}
use Rattle.nv_host.proofs.Searches.{none-left, search-end, search-full, search-none, search-on, search-stop}
use Rattle.nv_host.specs.Passes.{NothingWaitsAt}
use Rattle.nv_host.specs.Work.{Scene, scene}
use Rattle.nv_host.specs.declared.worked.Scope.TheVariants as scope
use Rattle.nv_host.specs.declared.worked.Worked.{Worked}
use Rattle.nv_host.proofs.host_mediator.HostMediator.plan_lane.Goals as goal

pub loop-tag-init : goal.loop-tag-init
loop-tag-init g c =
    let a : Scene = scene c.args.self.now (g.C.MemoryCell.bytes c.args.memory.now) in
    record
    { search = search-none scope.All c.args.most c.taken-taken.result (λ (s : Scene) (k : ℕ). NothingWaitsAt s c.args.lane k) a (λ k out. not-taken a c.args.lane k (among-same (λ (x : Side). taken_in (slice_get x.lanes c.args.lane)) c.self.inside.front c.args.self.now (made c.self.inside.host_bytes c.self.inside.lanes c.self.inside.layout c.self.inside.front c.self.inside.closed.items c.self.inside.spare.items) c.self.view_is refl c.taken-taken.result c.taken-taken.ensures k out)); setup = refl; len = refl }

pub returns-then-done-turn-clause-pass : goal.returns-then-done-turn-clause-pass
returns-then-done-turn-clause-pass g c =
    let a : Scene = scene c.args.self.now (g.C.MemoryCell.bytes c.args.memory.now) in
    let b : Scene = scene c.loop-tag.self (g.C.MemoryCell.bytes c.loop-tag.memory) in
    search-full scope.All c.args.most c.loop-tag.done c.loop-tag.taken (λ (s : Scene) (k : ℕ). NothingWaitsAt s c.args.lane k) a b c.loop-tag.invariant.search _
    c.args.turn c.so_far.result c.so_far.ensures c.if-done-turn.true c.requires.some

pub after-whole-requires : goal.after-whole-requires
after-whole-requires g c =
    let a : Scene = scene c.args.self.now (g.C.MemoryCell.bytes c.args.memory.now) in
    let b : Scene = scene c.loop-tag.self (g.C.MemoryCell.bytes c.loop-tag.memory) in
    let n : Scene = scene c.plan_tag-pass.new.self (g.C.MemoryCell.bytes c.plan_tag-pass.new.memory) in
    let w : Worked = c.plan_tag-pass.result in
    after-fits scope.All c.args.most c.loop-tag.done (w.done ≡ 0 → (λ (s : Scene) (k : ℕ). NothingWaitsAt s c.args.lane k) b c.in-Some.tag) w b n
    c.plan_tag-pass.ensures.pass c.loop-tag.invariant.search.few c.ranges.most.fits

pub returns-then-stopped-clause-pass : goal.returns-then-stopped-clause-pass
returns-then-stopped-clause-pass g c =
    let a : Scene = scene c.args.self.now (g.C.MemoryCell.bytes c.args.memory.now) in
    let b : Scene = scene c.loop-tag.self (g.C.MemoryCell.bytes c.loop-tag.memory) in
    let n : Scene = scene c.plan_tag-pass.new.self (g.C.MemoryCell.bytes c.plan_tag-pass.new.memory) in
    let w : Worked = c.plan_tag-pass.result in
    search-stop scope.All c.args.most c.loop-tag.done c.in-Some.tag c.loop-tag.taken c.pop.new.self (λ (s : Scene) (k : ℕ). NothingWaitsAt s c.args.lane k) a b n
    c.loop-tag.invariant.search c.in-Some.ensures.lowest _ w c.after-whole.result c.after-whole.ensures c.plan_tag-pass.ensures.pass
    (c.has_stopped-stopped.ensures.yes c.if-stopped.true)

pub loop-tag-preserved : goal.loop-tag-preserved
loop-tag-preserved g c =
    let a : Scene = scene c.args.self.now (g.C.MemoryCell.bytes c.args.memory.now) in
    let b : Scene = scene c.loop-tag.self (g.C.MemoryCell.bytes c.loop-tag.memory) in
    let n : Scene = scene c.plan_tag-pass.new.self (g.C.MemoryCell.bytes c.plan_tag-pass.new.memory) in
    let w : Worked = c.plan_tag-pass.result in
    record {
      search = search-on scope.All c.args.most c.loop-tag.done c.in-Some.tag c.loop-tag.taken c.pop.new.self (λ (s : Scene) (k : ℕ). NothingWaitsAt s c.args.lane k)
          a b n c.loop-tag.invariant.search c.in-Some.ensures.lowest w c.after-whole.result c.after-whole.ensures c.plan_tag-pass.ensures.pass
          (c.has_stopped-stopped.ensures.no c.if-stopped.false);
      setup = c.plan_tag-pass.ensures.setup ∙ c.loop-tag.invariant.setup;
      len = c.plan_tag-pass.ensures.len ∙ c.loop-tag.invariant.len;
    }

pub returns-clause-pass : goal.returns-clause-pass
returns-clause-pass g c =
    let a : Scene = scene c.args.self.now (g.C.MemoryCell.bytes c.args.memory.now) in
    let b : Scene = scene c.loop-tag.self (g.C.MemoryCell.bytes c.loop-tag.memory) in
    search-end scope.All c.args.most c.loop-tag.done c.loop-tag.taken (λ (s : Scene) (k : ℕ). NothingWaitsAt s c.args.lane k) a b c.loop-tag.invariant.search
    (none-left c.pop.result c.loop-tag.taken c.pop.new.self c.in_default.is c.pop.ensures.lowest) _ c.so_far-2.result c.so_far-2.ensures
    (λ none. none)
