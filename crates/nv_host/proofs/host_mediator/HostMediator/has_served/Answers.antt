use Rattle.std.proofs.Common.{refl}
use Rattle.nv_host.proofs.Rests.{not-told, told}
use Rattle.nv_host.proofs.Works.{leads_one}
use Rattle.nv_host.specs.Work.{Scene, scene}
use Rattle.nv_host.specs.declared.worked.Scope.TheVariants as scope
use Rattle.nv_world_model.specs.declared.event.Event.TheVariants as event
use Rattle.nv_host.proofs.host_mediator.HostMediator.has_served.Goals as goal

pub returns-then-admin_due-clause-yes : goal.returns-then-admin_due-clause-yes
returns-then-admin_due-clause-yes g c = λ so.
    let a : Scene = scene c.args.self.now (g.C.MemoryCell.bytes c.args.memory.now) in
    leads_one (scope.Guest c.args.guest) (event.Admin c.args.guest) a (scene c.admin-done.new.self (g.C.MemoryCell.bytes c.admin-done.new.memory)) c.admin-done.result
    (record { own = refl; due_now = told a (event.Admin c.args.guest) c.admin_due.result c.if-admin_due.true (c.admin_due.ensures (g.C.MemoryCell.bytes c.args.memory.now)) }) c.admin-done.ensures.done

pub returns-clause-no : goal.returns-clause-no
returns-clause-no g c = λ isnt. (
  refl,
  let a : Scene = scene c.args.self.now (g.C.MemoryCell.bytes c.args.memory.now) in
      (λ w on is. not-told a (event.Admin c.args.guest) c.admin_due.result c.if-admin_due.false (c.admin_due.ensures (g.C.MemoryCell.bytes c.args.memory.now)) w on is.0 is.1),
)
