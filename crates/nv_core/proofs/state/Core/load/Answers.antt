use Rattle.nv_core.proofs.Delegated.{lent-kept, loaded-so, shown-step}
use Rattle.nv_core.specs.State.{IsStep, State}
use Rattle.nv_model.specs.declared.act.Act.TheVariants as act
use Rattle.nv_world_model.specs.declared.event.Event.TheVariants as event
use Rattle.std.proofs.Common.{refl, subst, length}
use Rattle.nv_core.proofs.state.Core.load.Goals as goal

pub load-requires : goal.load-requires
load-requires c =
    lent-kept c.args.layout.now c.from_ref.result.now c.self.inside.host c.from_ref.ensures.value c.self.inside.device c.self.inside.front c.args.self.now c.self.view_is c.requires c.self.invariant

pub returns : goal.returns
returns c =
    loaded-so _ _
    (λ r made. subst (λ (o : State). IsStep c.args.layout.now (event.Guest c.args.guest (act.Load c.args.addr (length c.args.room.now))) c.args.self.now r o) c.self.view_is
    (shown-step c.args.layout.now c.from_ref.result.now c.self.inside.host c.from_ref.ensures.value c.self.inside.device c.self.inside.front c.args.self.now c.self.view_is c.requires c.self.invariant
    (event.Guest c.args.guest (act.Load c.args.addr (length c.args.room.now))) tt r c.self.inside.front made refl))
    c.load.result c.args.room.now c.load.new.room c.load.ensures
