use Rattle.std.proofs.Common.{◌∙◌, ℕ, List, Option, ap}
use Rattle.nv_core.proofs.CallSteps.{quiet-step}
use Rattle.nv_core.proofs.ListReads.{list-law}
use Rattle.nv_core.specs.Listing.{bytes_or}
use Rattle.nv_machine.proofs.SideWorlds.{begun}
use Rattle.nv_machine.specs.Doing.{replied}
use Rattle.nv_model.specs.declared.reply.Reply.{Reply}
use Rattle.nv_model.specs.declared.reply.Reply.TheVariants as reply
use Rattle.nv_world_model.specs.declared.event.Event.TheVariants as event
use Rattle.nv_core.proofs.front.Front.list.Goals as goal

pub returns-in-None-clause-ok : goal.returns-in-None-clause-ok
returns-in-None-clause-ok g c =
    let m : List ℕ = g.C.MemoryCell.bytes c.args.host.now in
    quiet-step c.args.layout.now (event.List c.args.lane c.args.tag c.args.addr c.args.len) c.in_ok-kept.kept c.args.self.now c.list_fetched.new.self m
    (reply.Bytes c.in_ok-shown.shown)
    (list-law c.args.layout.now c.args.lane c.args.tag c.args.addr c.args.len c.args.self.now m c.in_ok-kept.kept
    (c.in_ok-kept.ensures ∙ c.as_slice-2.ensures ∙ c.in_ok-shown.ensures))
    (c.in_ok-list_fetched.ensures.call
    ∙ ap (λ (o : Option Reply). replied (bytes_or c.in_ok-kept.kept o) (begun c.list_fetched.new.self)) c.in-None.is
    ∙ ap (λ (xs : List ℕ). replied (reply.Bytes xs) (begun c.list_fetched.new.self)) (c.in_ok-kept.ensures ∙ c.as_slice-2.ensures))

pub returns-in-Some-clause-ok : goal.returns-in-Some-clause-ok
returns-in-Some-clause-ok g c =
    let m : List ℕ = g.C.MemoryCell.bytes c.args.host.now in
    quiet-step c.args.layout.now (event.List c.args.lane c.args.tag c.args.addr c.args.len) c.in_ok-kept.kept c.args.self.now c.list_fetched.new.self m
    c.in-Some.reply
    (list-law c.args.layout.now c.args.lane c.args.tag c.args.addr c.args.len c.args.self.now m c.in_ok-kept.kept
    (c.in_ok-kept.ensures ∙ c.as_slice-2.ensures ∙ c.in_ok-shown.ensures))
    (c.in_ok-list_fetched.ensures.call
    ∙ ap (λ (o : Option Reply). replied (bytes_or c.in_ok-kept.kept o) (begun c.list_fetched.new.self)) c.in-Some.is)
