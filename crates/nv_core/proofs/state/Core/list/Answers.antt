use Rattle.nv_core.proofs.Delegated.{lent-kept, shown-step}
use Rattle.nv_world_model.specs.declared.event.Event.TheVariants as event
use Rattle.std.proofs.lemmas.Result.{IfOk-weaker}
use Rattle.nv_core.proofs.state.Core.list.Goals as goal

pub list-requires : goal.list-requires
list-requires c =
    lent-kept c.args.layout.now c.from_ref-host.result.now c.self.inside.host c.from_ref-host.ensures.value c.self.inside.device c.self.inside.front c.args.self.now c.self.view_is c.requires c.self.invariant

pub returns-clause-ok : goal.returns-clause-ok
returns-clause-ok c =
    IfOk-weaker c.list.result _ _
    (λ told made. shown-step c.args.layout.now c.from_ref-host.result.now c.self.inside.host c.from_ref-host.ensures.value c.self.inside.device c.self.inside.front c.args.self.now c.self.view_is c.requires c.self.invariant
    (event.List c.args.lane c.args.tag c.args.addr c.args.len) tt told.0 c.list.new.self made c.list.ensures.tails) c.list.ensures.ok
