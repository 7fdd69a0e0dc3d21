use Rattle.std.proofs.Common.{◌∙◌, ap, not, refl, sym}
use Rattle.nv_host.proofs.Reports.{take-due, take-dull, take-undue}
use Rattle.nv_host.proofs.Rests.{and-both, true-false}
use Rattle.nv_host.proofs.Works.{leads_one}
use Rattle.nv_host.specs.Served.{has_share, is_closed}
use Rattle.nv_host.specs.Work.{Scene, scene}
use Rattle.nv_host.specs.declared.worked.Scope.TheVariants as scope
use Rattle.nv_world_model.specs.declared.event.Event.TheVariants as event
use Rattle.nv_host.proofs.host_mediator.HostMediator.has_taken.Goals as goal

pub returns-then-not-has_share-clause-no : goal.returns-then-not-has_share-clause-no
returns-then-not-has_share-clause-no g c = λ isnt. (
  refl,
  λ w on is. true-false (has_share c.args.self.now c.args.guest c.args.lane) (and-both _ _ is.0).1 (sym c.has_share.ensures ∙ c.if-not-has_share.true),
)

pub returns-in-Ok-clause-yes : goal.returns-in-Ok-clause-yes
returns-in-Ok-clause-yes g c = λ so.
    let a : Scene = scene c.args.self.now (g.C.MemoryCell.bytes c.args.memory.now) in
    let b : Scene = scene c.take.new.self (g.C.MemoryCell.bytes c.args.memory.now) in
    leads_one (scope.Guest c.args.guest) (event.Take c.args.guest c.args.queue c.args.lane) a b c.in-Ok.reply
    (record {
      own = refl;
      due_now = take-due a c.args.guest c.args.queue c.args.lane c.in-Ok.reply b c.in-Ok.ensures.ok c.in-Ok.ensures.open
          (sym c.has_share.ensures ∙ c.if-not-has_share.false) (c.is_done.ensures.yes so);
    }) c.in-Ok.ensures.ok

pub returns-in-Ok-clause-no : goal.returns-in-Ok-clause-no
returns-in-Ok-clause-no g c = λ isnt.
    let a : Scene = scene c.args.self.now (g.C.MemoryCell.bytes c.args.memory.now) in
    let b : Scene = scene c.take.new.self (g.C.MemoryCell.bytes c.args.memory.now) in
    let other = c.is_done.ensures.no isnt in (
      ap (λ (s : Scene). s.served) (take-dull a c.args.guest c.args.queue c.args.lane c.in-Ok.reply b c.in-Ok.ensures.ok other),
      take-undue a c.args.guest c.args.queue c.args.lane c.in-Ok.reply b c.in-Ok.ensures.ok other,
    )

pub returns-in-Err-clause-no : goal.returns-in-Err-clause-no
returns-in-Err-clause-no g c = λ isnt. (
  c.in-Err.ensures.err.1,
  λ w on is. true-false (not (is_closed c.args.self.now c.args.lane)) (and-both _ _ is.0).0 (ap not c.in-Err.ensures.err.0),
)
