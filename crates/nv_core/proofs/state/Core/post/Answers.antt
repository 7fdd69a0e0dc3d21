use Rattle.nv_core.proofs.Delegated.{lent-kept, lent-step}
use Rattle.nv_core.proofs.Alike.{counted-alike}
use Rattle.nv_core.proofs.PlacesFollow.{lanes-unplaced}
use Rattle.nv_laws_sound.specs.Unplaced.{unplaced_lane}
use Rattle.nv_model.specs.Memory.{byte_in}
use Rattle.nv_core.specs.State.{State, state_of, world_of}
use Rattle.nv_laws_sound.specs.Counted.{IsCounted}
use Rattle.nv_world_model.specs.declared.event.Event.TheVariants as event
use Rattle.std.proofs.Common.{◌∙◌, ap, map, sym, subst}
use Rattle.nv_core.proofs.state.Core.post.Goals as goal

pub post-requires-clause-lent : goal.post-requires-clause-lent
post-requires-clause-lent c =
    lent-kept c.args.layout.now c.from_mut-host.result.now c.self.inside.host c.from_mut-host.ensures.value c.self.inside.device c.self.inside.front c.args.self.now c.self.view_is c.requires.of c.self.invariant

pub post-requires-clause-counted : goal.post-requires-clause-counted
post-requires-clause-counted c = λ w is.
    let s : State = state_of c.self.inside.host c.self.inside.device c.self.inside.front in
    counted-alike c.args.layout.now (world_of s) w
    (ap (map unplaced_lane) is.lanes
    ∙ sym (lanes-unplaced c.self.inside.device.mediator 0 (byte_in c.self.inside.host) c.self.inside.device.lanes c.self.inside.front.lanes))
    is.controllers (subst (λ (o : State). IsCounted c.args.layout.now (world_of o)) (sym c.self.view_is) c.requires.counted)

pub returns : goal.returns
returns c =
    lent-step c.args.layout.now c.from_mut-host.result.now c.self.inside.host c.from_mut-host.ensures.value c.self.inside.device c.self.inside.front c.args.self.now c.self.view_is c.requires.of c.self.invariant c.post.new.host c.post.ensures.len
    (event.Post c.args.lane c.args.tag) tt c.post.result c.post.new.self c.post.ensures.step c.post.ensures.tails
