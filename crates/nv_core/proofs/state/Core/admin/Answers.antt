use Rattle.nv_core.proofs.Delegated.{lent-kept, lent-step}
use Rattle.nv_world_model.specs.declared.event.Event.TheVariants as event
use Rattle.nv_core.proofs.state.Core.admin.Goals as goal

pub admin-requires : goal.admin-requires
admin-requires c =
    lent-kept c.args.layout.now c.from_mut-host.result.now c.self.inside.host c.from_mut-host.ensures.value c.self.inside.device c.self.inside.front c.args.self.now c.self.view_is c.requires c.self.invariant

pub returns : goal.returns
returns c =
    lent-step c.args.layout.now c.from_mut-host.result.now c.self.inside.host c.from_mut-host.ensures.value c.self.inside.device c.self.inside.front c.args.self.now c.self.view_is c.requires c.self.invariant c.admin.new.host c.admin.ensures.len
    (event.Admin c.args.guest) tt c.admin.result c.admin.new.self c.admin.ensures.step c.admin.ensures.tails
