use Rattle.nv_core.proofs.Delegated.{lent-kept, shown-step}
use Rattle.nv_world_model.specs.declared.event.Event.TheVariants as event
use Rattle.nv_core.proofs.state.Core.take.Goals as goal

pub take-requires-clause-lent : goal.take-requires-clause-lent
take-requires-clause-lent c =
    lent-kept c.args.layout.now c.from_ref-host.result.now c.self.inside.host c.from_ref-host.ensures.value c.self.inside.device c.self.inside.front c.args.self.now c.self.view_is c.requires.of c.self.invariant

pub returns : goal.returns
returns c =
    shown-step c.args.layout.now c.from_ref-host.result.now c.self.inside.host c.from_ref-host.ensures.value c.self.inside.device c.self.inside.front c.args.self.now c.self.view_is c.requires.of c.self.invariant
    (event.Take c.args.guest c.args.queue c.args.lane) tt c.take.result c.take.new.self c.take.ensures.step c.take.ensures.tails
