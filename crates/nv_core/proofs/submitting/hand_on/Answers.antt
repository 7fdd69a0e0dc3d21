use Rattle.std.proofs.Common.{◌≡◌, ◌∙◌, ℕ, List, Some, ap, sym}
use Rattle.nv_core.proofs.SubmitJobs.{going-host, going-tags, going-tail, shares-some}
use Rattle.nv_core.specs.Groups.{all_handed}
use Rattle.nv_core.specs.Submit.{host_behind, tail_behind}
use Rattle.nv_model.specs.Memory.{byte_in}
use Rattle.nv_plan.specs.Made.{plan_made}
use Rattle.nv_world_model.specs.Share.{shares_of, tags_of_entry}
use Rattle.nv_world_model.specs.World.{group_in}
use Rattle.nv_core.proofs.submitting.hand_on.Goals as goal

pub fly-requires-clause-some : goal.fly-requires-clause-some
fly-requires-clause-some g c =
    let p = c.args.plan in
    let led = c.requires.waits.led in
    shares-some p (tags_of_entry p.given.namespace led.command.entry) c.requires.is_plan c.requires.goes
    (ap (tags_of_entry p.given.namespace) (c.requires.whose led.command led.reads led.is)) c.requires.waits.some

pub returns-clause-done : goal.returns-clause-done
returns-clause-done g c = λ command reads there.
    let p = c.args.plan in
    let place = c.args.place in
    let plan = plan_made p in
    let tags = group_in (Some c.args.ring.now) place.tag in
    let entry : p.job.sqe ≡ command.entry = sym (c.requires.whose command reads there) in
    record {
      memory =
          c.hand_all.ensures.bytes ∙ going-host plan tags p.given p.job.sqe place.mediator place.lane c.args.tail.now (byte_in (g.C.MemoryCell.bytes c.args.host.now)) c.requires.goes
          ∙ ap (λ (e : List ℕ). host_behind plan tags p.given e place.mediator place.lane c.args.tail.now (byte_in (g.C.MemoryCell.bytes c.args.host.now))) entry;
      tail =
          c.hand_all.ensures.tail ∙ going-tail plan tags p.given.namespace p.job.sqe c.args.tail.now c.requires.goes
          ∙ ap (λ (e : List ℕ). tail_behind plan tags p.given.namespace e c.args.tail.now) entry;
      tags_are =
          c.fly.ensures command reads there
          ∙ ap (λ (e : List ℕ). all_handed tags (shares_of p.given.namespace e plan) command c.args.ring.now) entry
          ∙ going-tags plan tags p.given.namespace command c.args.ring.now c.requires.goes;
    }
