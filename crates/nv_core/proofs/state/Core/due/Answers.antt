use Rattle.std.proofs.Common.{◌∙◌, ap, sym}
use Rattle.nv_core.specs.State.{world_of}
use Rattle.nv_world_model.specs.Due.{due}
use Rattle.nv_world_model.specs.declared.event.Event.{Event}
use Rattle.nv_core.proofs.Delegated.{due-here, kept-here, lent-due, lent-due-live, lent-kept}
use Rattle.nv_world_model.specs.declared.event.Event.TheVariants as event
use Rattle.nv_core.proofs.state.Core.due.Goals as goal

pub admin_due-requires : goal.admin_due-requires
admin_due-requires c =
    kept-here c.args.layout.now c.self.inside.host c.self.inside.device c.self.inside.front c.args.self.now c.self.view_is c.requires c.self.invariant

pub take_due-requires : goal.take_due-requires
take_due-requires c =
    lent-kept c.args.layout.now c.from_ref-host.result.now c.self.inside.host c.from_ref-host.ensures.value c.self.inside.device c.self.inside.front c.args.self.now c.self.view_is c.requires c.self.invariant

pub reap_due-requires : goal.reap_due-requires
reap_due-requires c =
    lent-kept c.args.layout.now c.from_ref.result.now c.self.inside.host c.from_ref.ensures.value c.self.inside.device c.self.inside.front c.args.self.now c.self.view_is c.requires c.self.invariant

pub post_due-requires : goal.post_due-requires
post_due-requires c =
    kept-here c.args.layout.now c.self.inside.host c.self.inside.device c.self.inside.front c.args.self.now c.self.view_is c.requires c.self.invariant

pub returns-in-Admin : goal.returns-in-Admin
returns-in-Admin c =
    due-here c.args.layout.now c.self.inside.host c.self.inside.device c.self.inside.front c.args.self.now c.self.view_is c.requires c.self.invariant
    (event.Admin c.in-Admin.guest) tt c.admin_due.result (λ w is. c.admin_due.ensures c.self.inside.host w is)
    ∙ ap (λ (x : Event). due c.args.layout.now x (world_of c.args.self.now)) (sym c.in-Admin.is)

pub returns-in-Take : goal.returns-in-Take
returns-in-Take c =
    lent-due c.args.layout.now c.from_ref-host.result.now c.self.inside.host c.from_ref-host.ensures.value c.self.inside.device c.self.inside.front c.args.self.now c.self.view_is c.requires c.self.invariant
    (event.Take c.in-Take.guest c.in-Take.queue c.in-Take.lane) tt c.take_due.result c.take_due.ensures
    ∙ ap (λ (x : Event). due c.args.layout.now x (world_of c.args.self.now)) (sym c.in-Take.is)

pub returns-in-Reap : goal.returns-in-Reap
returns-in-Reap c =
    lent-due-live c.args.layout.now c.from_ref.result.now c.self.inside.host c.from_ref.ensures.value c.self.inside.device c.self.inside.front c.args.self.now c.self.view_is c.requires c.self.invariant
    (event.Reap c.in-Reap.lane) c.reap_due.result c.reap_due.ensures.beside
    ∙ ap (λ (x : Event). due c.args.layout.now x (world_of c.args.self.now)) (sym c.in-Reap.is)

pub returns-in-Post : goal.returns-in-Post
returns-in-Post c =
    due-here c.args.layout.now c.self.inside.host c.self.inside.device c.self.inside.front c.args.self.now c.self.view_is c.requires c.self.invariant
    (event.Post c.in-Post.lane c.in-Post.tag) tt c.post_due.result (λ w is. c.post_due.ensures c.self.inside.host w is)
    ∙ ap (λ (x : Event). due c.args.layout.now x (world_of c.args.self.now)) (sym c.in-Post.is)
