use Rattle.nv_core.proofs.Delegated.{kept-here, quiet-step}
use Rattle.nv_world_model.specs.declared.event.Event.TheVariants as event
use Rattle.std.proofs.Common.{refl}
use Rattle.nv_core.proofs.state.Core.give_up.Goals as goal

pub give_up-requires : goal.give_up-requires
give_up-requires c =
    kept-here c.args._layout.now c.self.inside.host c.self.inside.device c.self.inside.front c.args.self.now c.self.view_is c.requires c.self.invariant

pub returns : goal.returns
returns c =
    quiet-step c.args._layout.now c.self.inside.host c.self.inside.device c.self.inside.front c.args.self.now c.self.view_is c.requires c.self.invariant
    (event.GiveUp c.args.lane c.args.tag) tt c.give_up.result c.give_up.new.self c.self.inside.host (c.give_up.ensures.step c.self.inside.host) c.give_up.ensures.tails refl
