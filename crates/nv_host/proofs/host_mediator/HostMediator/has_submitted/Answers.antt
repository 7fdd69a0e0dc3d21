use Rattle.nv_host.proofs.Reports.{submit-dull, submit-work}
use Rattle.nv_host.proofs.Works.{leads_one, scene-same}
use Rattle.nv_host.specs.Work.{Scene, scene}
use Rattle.nv_host.specs.declared.worked.Scope.TheVariants as scope
use Rattle.nv_world_model.specs.declared.event.Event.TheVariants as event
use Rattle.nv_host.proofs.host_mediator.HostMediator.has_submitted.Goals as goal

pub returns-in-Ok-clause-yes : goal.returns-in-Ok-clause-yes
returns-in-Ok-clause-yes g c = λ so.
    let a : Scene = scene c.args.self.now (g.C.MemoryCell.bytes c.args.memory.now) in
    let b : Scene = scene c.submit.new.self (g.C.MemoryCell.bytes c.submit.new.memory) in
    leads_one (scope.Guest c.args.guest) (event.Submit c.args.lane c.args.tag) a b c.in-Ok.reply
    (submit-work a c.args.guest c.args.lane c.args.tag c.in-Ok.reply b c.in-Ok.ensures.ok c.requires.own (c.is_done.ensures.yes so)) c.in-Ok.ensures.ok

pub returns-in-Ok-clause-no : goal.returns-in-Ok-clause-no
returns-in-Ok-clause-no g c = λ isnt.
    let a : Scene = scene c.args.self.now (g.C.MemoryCell.bytes c.args.memory.now) in
    let b : Scene = scene c.submit.new.self (g.C.MemoryCell.bytes c.submit.new.memory) in
    submit-dull a c.args.lane c.args.tag c.in-Ok.reply b c.in-Ok.ensures.ok (c.is_done.ensures.no isnt)

pub returns-in-Err-clause-err : goal.returns-in-Err-clause-err
returns-in-Err-clause-err g c = scene-same _ _ _ _ c.in-Err.ensures.err.0 c.in-Err.ensures.err.1
