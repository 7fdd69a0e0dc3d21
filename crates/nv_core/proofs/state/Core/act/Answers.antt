use Rattle.nv_core.proofs.Delegated.{lent-kept, lent-step}
use Rattle.nv_world_model.specs.declared.event.Event.TheVariants as event
use Rattle.std.proofs.lemmas.Result.{IfOk-weaker}
use Rattle.nv_core.proofs.state.Core.act.Goals as goal

pub act-requires : goal.act-requires
act-requires c =
    lent-kept c.args.layout.now c.from_mut-host.result.now c.self.inside.host c.from_mut-host.ensures.value c.self.inside.device c.self.inside.front c.args.self.now c.self.view_is c.requires c.self.invariant

pub returns-clause-ok : goal.returns-clause-ok
returns-clause-ok c =
    IfOk-weaker c.act.result _ _
    (λ r made. lent-step c.args.layout.now c.from_mut-host.result.now c.self.inside.host c.from_mut-host.ensures.value c.self.inside.device c.self.inside.front c.args.self.now c.self.view_is c.requires c.self.invariant c.act.new.host c.act.ensures.len
    (event.Guest c.args.guest c.args.act.now) tt r c.act.new.self made c.act.ensures.tails) c.act.ensures.ok
