use Rattle.nv_host.proofs.Made.{made}
use Rattle.std.proofs.Common.{◌≡◌, ℕ, ◌<◌, Option, arith, ap, subst, sym, ◌∙◌}
use Rattle.std.specs.Option.{unwrap_or}
use Rattle.nv_host.proofs.Ring.{few-bytes, head-small, lane-inside, ring-start}
use Rattle.nv_world_model.specs.Area.{completion_slot, ring_size}
use Rattle.nv_host.proofs.host_mediator.HostMediator.next_slot.Goals as goal

pub overflow_add-result : goal.overflow_add-result
overflow_add-result c =
    let h = made c.self.inside.host_bytes c.self.inside.lanes c.self.inside.layout c.self.inside.front c.self.inside.closed.items c.self.inside.spare.items in
    let ring : c.unwrap_or-ring.result ≡ completion_slot c.args.self.now.setup.geometry.mediator c.args.lane 0 =
    c.unwrap_or-ring.ensures
    ∙ ring-start c.completion_ring.result c.args.self.now.setup.lanes c.args.lane (completion_slot c.args.self.now.setup.geometry.mediator c.args.lane 0)
    c.completion_ring.ensures c.requires in
    let read : c.from.result < ring_size =
    subst (λ (n : ℕ). n < ring_size) (sym (c.from.ensures ∙ c.unwrap_or-head.ensures ∙ ap (λ (x : Option ℕ). unwrap_or x 0) c.head.ensures.value))
    (head-small h c.args.self.now c.self.view_is c.self.invariant.served c.args.lane) in
    let room = lane-inside h c.args.self.now c.self.view_is c.self.invariant.served c.args.lane c.requires in
    let few = few-bytes h c.args.self.now c.self.view_is c.self.invariant.served c.args.lane in
    omega (arith, ring, read, room, few)

pub returns-clause-inside : goal.returns-clause-inside
returns-clause-inside c =
    let h = made c.self.inside.host_bytes c.self.inside.lanes c.self.inside.layout c.self.inside.front c.self.inside.closed.items c.self.inside.spare.items in
    let ring : c.unwrap_or-ring.result ≡ completion_slot c.args.self.now.setup.geometry.mediator c.args.lane 0 =
    c.unwrap_or-ring.ensures
    ∙ ring-start c.completion_ring.result c.args.self.now.setup.lanes c.args.lane (completion_slot c.args.self.now.setup.geometry.mediator c.args.lane 0)
    c.completion_ring.ensures c.requires in
    let read : c.from.result < ring_size =
    subst (λ (n : ℕ). n < ring_size) (sym (c.from.ensures ∙ c.unwrap_or-head.ensures ∙ ap (λ (x : Option ℕ). unwrap_or x 0) c.head.ensures.value))
    (head-small h c.args.self.now c.self.view_is c.self.invariant.served c.args.lane) in
    let room = lane-inside h c.args.self.now c.self.view_is c.self.invariant.served c.args.lane c.requires in
    let few = few-bytes h c.args.self.now c.self.view_is c.self.invariant.served c.args.lane in
    omega (arith, ring, read, room)

pub returns-clause-high : goal.returns-clause-high
returns-clause-high c =
    let h = made c.self.inside.host_bytes c.self.inside.lanes c.self.inside.layout c.self.inside.front c.self.inside.closed.items c.self.inside.spare.items in
    let ring : c.unwrap_or-ring.result ≡ completion_slot c.args.self.now.setup.geometry.mediator c.args.lane 0 =
    c.unwrap_or-ring.ensures
    ∙ ring-start c.completion_ring.result c.args.self.now.setup.lanes c.args.lane (completion_slot c.args.self.now.setup.geometry.mediator c.args.lane 0)
    c.completion_ring.ensures c.requires in
    let read : c.from.result < ring_size =
    subst (λ (n : ℕ). n < ring_size) (sym (c.from.ensures ∙ c.unwrap_or-head.ensures ∙ ap (λ (x : Option ℕ). unwrap_or x 0) c.head.ensures.value))
    (head-small h c.args.self.now c.self.view_is c.self.invariant.served c.args.lane) in
    let room = lane-inside h c.args.self.now c.self.view_is c.self.invariant.served c.args.lane c.requires in
    let few = few-bytes h c.args.self.now c.self.view_is c.self.invariant.served c.args.lane in
    omega (arith, ring, read)
