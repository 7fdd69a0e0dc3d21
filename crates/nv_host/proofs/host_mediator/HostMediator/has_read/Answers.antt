use Rattle.std.proofs.Common.{◌≡◌, ◌∙◌, ap, sym}
use Rattle.std.specs.Prelude.{Ok}
use Rattle.std.specs.Result.{result_ok}
use Rattle.nv_host.proofs.Rests.{done-waits, other-waits, true-false}
use Rattle.nv_host.proofs.Works.{leads_one}
use Rattle.nv_host.specs.Work.{scene}
use Rattle.nv_host.specs.declared.worked.Scope.TheVariants as scope
use Rattle.nv_model.specs.declared.reply.Reply.TheVariants as reply
use Rattle.nv_world_model.specs.declared.event.Event.TheVariants as event
use Rattle.std.proofs.Common.{slice_get, refl}
use Rattle.nv_host.proofs.host_mediator.HostMediator.has_read.Goals as goal

pub returns-in-Ok-clause-yes : goal.returns-in-Ok-clause-yes
returns-in-Ok-clause-yes g c = λ so.
    let h = c.args.self.now in
    let is : c.reap.result ≡ Ok reply.Done = (let told = c.is_done.ensures.yes so in cc) in
    leads_one (scope.Lane c.args.lane) (event.Reap c.args.lane) (scene c.args.self.now (g.C.MemoryCell.bytes c.args.memory.now)) (scene c.reap.new.self (g.C.MemoryCell.bytes c.args.memory.now)) c.in-Ok.reply
    (record {
      own = refl;
      due_now = λ w on. done-waits h.setup.geometry c.args.lane (g.C.MemoryCell.bytes c.args.memory.now) (slice_get h.side.lanes c.args.lane) (sym c.reap.ensures.answer ∙ ap result_ok is);
    })
    (record { next = c.in-Ok.ensures.ok; ended = c.reap.ensures.ended is; memory = refl })

pub returns-in-Ok-clause-no : goal.returns-in-Ok-clause-no
returns-in-Ok-clause-no g c = λ isnt.
    let h = c.args.self.now in
    let other = c.is_done.ensures.no isnt in (
      c.reap.ensures.same (λ e. other (cc)),
      λ w on is. true-false _ is
          (other-waits h.setup.geometry c.args.lane (g.C.MemoryCell.bytes c.args.memory.now) (slice_get h.side.lanes c.args.lane) c.in-Ok.reply (sym c.reap.ensures.answer ∙ ap result_ok c.in-Ok.is) other),
    )

pub returns-in-Err-clause-stray : goal.returns-in-Err-clause-stray
returns-in-Err-clause-stray g c = (
  c.reap.ensures.same (λ e. cc),
  record { own = refl; stray = sym c.reap.ensures.answer ∙ ap result_ok c.in-Err.is; unreached = c.in-Err.ensures.stray },
)
