use Rattle.nv_core.proofs.Delegated.{lent-beside, lent-kept, lent-live, shown-live}
use Rattle.nv_world_model.specs.declared.event.Event.TheVariants as event
use Rattle.nv_core.proofs.state.Core.reap.Goals as goal

pub reap-requires : goal.reap-requires
reap-requires c =
    lent-kept c.args._layout.now c.from_ref-host.result.now c.self.inside.host c.from_ref-host.ensures.value c.self.inside.device c.self.inside.front c.args.self.now c.self.view_is c.requires c.self.invariant

pub returns : goal.returns
returns c =
    shown-live c.args._layout.now c.from_ref-host.result.now c.self.inside.host c.from_ref-host.ensures.value c.self.inside.device c.self.inside.front c.args.self.now c.self.view_is c.requires c.self.invariant
    (event.Reap c.args.lane) c.in-Ok.reply c.reap.new.self c.in-Ok.ensures.ok c.in-Ok.ensures.tails

pub unreachable-requires : goal.unreachable-requires
unreachable-requires c =
    c.in_default.ensures.stray _
    (lent-beside c.args._layout.now c.from_ref-host.result.now c.self.inside.host c.from_ref-host.ensures.value c.self.inside.device c.self.inside.front c.args.self.now c.self.view_is c.requires c.self.invariant)
    (lent-live c.args._layout.now c.from_ref-host.result.now c.self.inside.host c.from_ref-host.ensures.value c.self.inside.device c.self.inside.front c.args.self.now c.self.view_is c.requires c.self.invariant)
