use Rattle.std.proofs.Common.{◌∙◌, ℕ, List, ap, arith, length, refl, subst, sym}
use Rattle.nv_host.proofs.Searches.{IsSearch, fewer, none-left, search-count, search-drop, search-end, search-full, search-none, search-same}
use Rattle.nv_world_model.specs.declared.event.Event.TheVariants as event
use Rattle.nv_host.specs.Served.{Served}
use Rattle.nv_host.specs.Work.{NotDue, Scene, scene}
use Rattle.nv_host.specs.declared.worked.Scope.TheVariants as scope
use Rattle.nv_host.proofs.host_mediator.HostMediator.post_each.Goals as goal

pub loop-tag-init : goal.loop-tag-init
loop-tag-init g c =
    let a : Scene = scene c.args.self.now (g.C.MemoryCell.bytes c.args.memory.now) in
    record {
      search = search-none (scope.Lane c.args.lane) c.args.most c.to_post-ended.result (λ (s : Scene) (k : ℕ). NotDue s (event.Post c.args.lane k)) a
          (λ k out. c.to_post-ended.ensures (g.C.MemoryCell.bytes c.args.memory.now) k out);
      setup = refl;
      len = refl;
    }

pub returns-then-done-most-clause-pass : goal.returns-then-done-most-clause-pass
returns-then-done-most-clause-pass g c =
    let a : Scene = scene c.args.self.now (g.C.MemoryCell.bytes c.args.memory.now) in
    let b : Scene = scene c.loop-tag.self (g.C.MemoryCell.bytes c.loop-tag.memory) in
    search-full (scope.Lane c.args.lane) c.args.most c.loop-tag.done c.loop-tag.ended (λ (s : Scene) (k : ℕ). NotDue s (event.Post c.args.lane k)) a b
    c.loop-tag.invariant.search _ c.args.most c.so_far.result c.so_far.ensures c.if-done-most.true c.requires.some

pub loop-tag-preserved-then-posted : goal.loop-tag-preserved-then-posted
loop-tag-preserved-then-posted g c =
    let a : Scene = scene c.args.self.now (g.C.MemoryCell.bytes c.args.memory.now) in
    let b : Scene = scene c.loop-tag.self (g.C.MemoryCell.bytes c.loop-tag.memory) in
    let n : Scene = scene c.has_posted-posted.new.self (g.C.MemoryCell.bytes c.has_posted-posted.new.memory) in
    let below = c.if-done-most.false in
    record {
      search = search-count (scope.Lane c.args.lane) c.args.most c.loop-tag.done c.in-Some.tag c.loop-tag.ended c.pop.new.self
          (λ (s : Scene) (k : ℕ). NotDue s (event.Post c.args.lane k)) a b n c.loop-tag.invariant.search c.in-Some.ensures.lowest 1
          (c.has_posted-posted.ensures.yes c.if-posted.true) (omega (arith, below)) (λ none. absurd (omega (arith, none)));
      setup = c.has_posted-posted.ensures.setup ∙ c.loop-tag.invariant.setup;
      len = c.has_posted-posted.ensures.len ∙ c.loop-tag.invariant.len;
    }

pub loop-tag-preserved : goal.loop-tag-preserved
loop-tag-preserved g c =
    let a : Scene = scene c.args.self.now (g.C.MemoryCell.bytes c.args.memory.now) in
    let b : Scene = scene c.loop-tag.self (g.C.MemoryCell.bytes c.loop-tag.memory) in
    let n : Scene = scene c.has_posted-posted.new.self (g.C.MemoryCell.bytes c.has_posted-posted.new.memory) in
    let not = c.has_posted-posted.ensures.no c.if-posted.false in
    let same = search-same (scope.Lane c.args.lane) c.args.most c.loop-tag.done c.in-Some.tag c.loop-tag.ended c.pop.new.self
    (λ (s : Scene) (k : ℕ). NotDue s (event.Post c.args.lane k)) a b n c.loop-tag.invariant.search c.in-Some.ensures.lowest not.0 not.1 in
    record {
      search = subst (λ (x : Served). IsSearch (scope.Lane c.args.lane) c.args.most c.loop-tag.done c.drop_all.new.self
          (λ (s : Scene) (k : ℕ). NotDue s (event.Post c.args.lane k)) a (scene x (g.C.MemoryCell.bytes c.has_posted-posted.new.memory)))
          (sym c.note_held.ensures.same)
          (search-drop (scope.Lane c.args.lane) c.args.most c.loop-tag.done c.pop.new.self c.note_held.result c.drop_all.new.self
          (λ (s : Scene) (k : ℕ). NotDue s (event.Post c.args.lane k)) a n same c.drop_all.ensures
          (λ k among. c.note_held.ensures.others (g.C.MemoryCell.bytes c.has_posted-posted.new.memory) k among));
      setup = ap (λ (x : Served). x.setup) c.note_held.ensures.same ∙ c.has_posted-posted.ensures.setup ∙ c.loop-tag.invariant.setup;
      len = c.has_posted-posted.ensures.len ∙ c.loop-tag.invariant.len;
    }

pub returns-clause-pass : goal.returns-clause-pass
returns-clause-pass g c =
    let a : Scene = scene c.args.self.now (g.C.MemoryCell.bytes c.args.memory.now) in
    let b : Scene = scene c.loop-tag.self (g.C.MemoryCell.bytes c.loop-tag.memory) in
    search-end (scope.Lane c.args.lane) c.args.most c.loop-tag.done c.loop-tag.ended (λ (s : Scene) (k : ℕ). NotDue s (event.Post c.args.lane k)) a b
    c.loop-tag.invariant.search
    (none-left c.pop.result c.loop-tag.ended c.pop.new.self c.in_default.is c.pop.ensures.lowest) _ c.so_far-2.result c.so_far-2.ensures
    (λ none. none)

pub loop-tag-smaller : goal.loop-tag-smaller
loop-tag-smaller g c =
    let less = fewer c.note_held.result c.pop.new.self c.drop_all.new.self c.drop_all.ensures in
    let popped = ap (λ (tags : List ℕ). length tags) c.in-Some.ensures.lowest in
    omega (arith, less, popped)
