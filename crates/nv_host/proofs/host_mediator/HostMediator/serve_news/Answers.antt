use Rattle.std.proofs.Common.{◌≡◌}
use Rattle.nv_host.proofs.Rounds.{after-fits, first-leads, two-both, two-first}
use Rattle.nv_host.proofs.Rests.{lane-rests}
use Rattle.nv_host.specs.Passes.{NonePosts}
use Rattle.nv_host.specs.Work.{NotDue, Scene, scene}
use Rattle.nv_host.specs.declared.worked.Scope.TheVariants as scope
use Rattle.nv_world_model.specs.declared.event.Event.TheVariants as event
use Rattle.nv_host.proofs.host_mediator.HostMediator.serve_news.Goals as goal

pub returns-then-ends-clause-pass : goal.returns-then-ends-clause-pass
returns-then-ends-clause-pass g c =
    let a : Scene = scene c.args.self.now (g.C.MemoryCell.bytes c.args.memory.now) in
    let b : Scene = scene c.reap_each-read.new.self (g.C.MemoryCell.bytes c.args.memory.now) in
    two-first (scope.Lane c.args.lane) _ (NotDue a (event.Reap c.args.lane)) c.args.most c.reap_each-read.result a b (c.reap_each-read.ensures.pass) c.args.most
    (c.ends.ensures.yes c.if-ends.true) c.requires.some

pub after-requires : goal.after-requires
after-requires g c =
    let a : Scene = scene c.args.self.now (g.C.MemoryCell.bytes c.args.memory.now) in
    let b : Scene = scene c.reap_each-read.new.self (g.C.MemoryCell.bytes c.args.memory.now) in
    let n : Scene = scene c.post_each-posted.new.self (g.C.MemoryCell.bytes c.post_each-posted.new.memory) in
    let on = c.ends.ensures.no c.if-ends.false in
    after-fits (scope.Lane c.args.lane) c.args.most c.reap_each-read.result.done (c.post_each-posted.result.done ≡ 0 → NonePosts b c.args.lane)
    c.post_each-posted.result b n c.post_each-posted.ensures.pass
    (first-leads (scope.Lane c.args.lane) (NotDue a (event.Reap c.args.lane)) (NotDue a (event.Reap c.args.lane)) c.args.most c.reap_each-read.result a b (c.reap_each-read.ensures.pass) on.0).1
    c.ranges.most.fits

pub returns-clause-pass : goal.returns-clause-pass
returns-clause-pass g c =
    let a : Scene = scene c.args.self.now (g.C.MemoryCell.bytes c.args.memory.now) in
    let b : Scene = scene c.reap_each-read.new.self (g.C.MemoryCell.bytes c.args.memory.now) in
    let n : Scene = scene c.post_each-posted.new.self (g.C.MemoryCell.bytes c.post_each-posted.new.memory) in
    let on = c.ends.ensures.no c.if-ends.false in
    two-both (scope.Lane c.args.lane) _ (NotDue a (event.Reap c.args.lane)) c.args.most c.reap_each-read.result a b (c.reap_each-read.ensures.pass)
    (λ (b : Scene). NonePosts b c.args.lane) c.post_each-posted.result c.after.result n on.0 c.after.ensures c.post_each-posted.ensures.pass
    (λ no_reap none_posts. lane-rests a c.args.lane no_reap none_posts)
