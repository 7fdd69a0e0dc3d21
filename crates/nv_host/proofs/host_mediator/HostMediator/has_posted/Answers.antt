use Rattle.std.proofs.Common.{refl}
use Rattle.nv_host.proofs.Reports.{post-due, post-dull, post-undue}
use Rattle.nv_host.proofs.Works.{leads_one}
use Rattle.nv_host.specs.Work.{Scene, scene}
use Rattle.nv_host.specs.declared.worked.Scope.TheVariants as scope
use Rattle.nv_world_model.specs.declared.event.Event.TheVariants as event
use Rattle.nv_host.proofs.host_mediator.HostMediator.has_posted.Goals as goal

pub returns-clause-yes : goal.returns-clause-yes
returns-clause-yes g c = λ so.
    let a : Scene = scene c.args.self.now (g.C.MemoryCell.bytes c.args.memory.now) in
    let b : Scene = scene c.post.new.self (g.C.MemoryCell.bytes c.post.new.memory) in
    leads_one (scope.Lane c.args.lane) (event.Post c.args.lane c.args.tag) a b c.post.result
    (record { own = refl; due_now = post-due a c.args.lane c.args.tag c.post.result b c.post.ensures.done (c.is_done.ensures.yes so) }) c.post.ensures.done

pub returns-clause-no : goal.returns-clause-no
returns-clause-no g c = λ isnt.
    let a : Scene = scene c.args.self.now (g.C.MemoryCell.bytes c.args.memory.now) in
    let b : Scene = scene c.post.new.self (g.C.MemoryCell.bytes c.post.new.memory) in
    let other = c.is_done.ensures.no isnt in
    (post-dull a c.args.lane c.args.tag c.post.result b c.post.ensures.done other, post-undue a c.args.lane c.args.tag c.post.result b c.post.ensures.done other)
