use Rattle.nv_core.proofs.Delegated.{lent-kept, lent-step}
use Rattle.nv_model.specs.declared.act.Act.TheVariants as act
use Rattle.nv_world_model.specs.declared.event.Event.TheVariants as event
use Rattle.std.proofs.Common.{refl}
use Rattle.nv_core.proofs.state.Core.store.Goals as goal

pub store-requires : goal.store-requires
store-requires c =
    lent-kept c.args.layout.now c.from_mut-host.result.now c.self.inside.host c.from_mut-host.ensures.value c.self.inside.device c.self.inside.front c.args.self.now c.self.view_is c.requires c.self.invariant

pub returns : goal.returns
returns c =
    lent-step c.args.layout.now c.from_mut-host.result.now c.self.inside.host c.from_mut-host.ensures.value c.self.inside.device c.self.inside.front c.args.self.now c.self.view_is c.requires c.self.invariant c.store.new.host c.store.ensures.len
    (event.Guest c.args.guest (act.Store c.args.addr c.args.bytes.now)) tt c.store.result c.self.inside.front c.store.ensures.step refl
