use Rattle.std.proofs.Common.{ℕ, ◌+◌, arith, false, refl, replicate, ap, subst, sym, ◌∙◌}
use Rattle.nv_host.proofs.Accepted.{lanes-small, may-have}
use Rattle.nv_host.proofs.HoldNotes.{held-none}
use Rattle.nv_host.proofs.Starts.{made-is, spare-is, starts-served}
use Rattle.nv_host.specs.Holds.{AreHeld}
use Rattle.nv_host.specs.Shares.{needed_in_all}
use Rattle.nv_host.specs.declared.holds.Holds.{Holds}
use Rattle.nv_world_model.specs.SetUp.{SetUp}
use Rattle.nv_host.proofs.host_mediator.HostMediator.open.Goals as goal

pub into_layout-requires : goal.into_layout-requires
into_layout-requires c = may-have c.args.setup c.requires.accepted

pub overflow_cast-lanes : goal.overflow_cast-lanes
overflow_cast-lanes c =
    let few = lanes-small c.args.setup c.requires.accepted in
    let same = ap (λ (s : SetUp). s.lanes) c.setup.view_is in
    omega (arith, few, same)

pub invariant_of-result : goal.invariant_of-result
invariant_of-result c =
    let s : SetUp = record { host_bytes = c.setup.inside.host_bytes; lanes = c.setup.inside.lanes; geometry = record { mediator = c.setup.inside.mediator; disk_blocks = c.setup.inside.disk_blocks; guests = c.setup.inside.guests.items } } in
    record {
      served =
          starts-served c.args.setup s c.setup.view_is c.in_ok-layout.layout c.in_ok-front.front (c.in_ok-layout.ensures.given ∙ ap (λ (t : SetUp). t.geometry) (sym c.setup.view_is)) c.in_ok-front.ensures c.in_ok-closed.closed.items (c.in_ok-closed.ensures.items_if_clones_equal (λ y e. e) ∙ ap (λ (n : ℕ). replicate n false) c.from.ensures)
          c.in_ok-spare.spare.items
          (c.in_ok-spare.ensures.items_if_clones_equal (λ y e. e)
          ∙ spare-is c.args.setup s c.setup.view_is c.args.left c.len-guests.result c.max.result _ c.requires.left (let l = c.len-guests.ensures in omega (arith, l)) c.max.ensures refl)
          c.args.left (ap (λ (t : SetUp). c.args.left + needed_in_all t.geometry.guests) c.setup.view_is ∙ c.requires.left) c.requires.accepted
          c.in_ok-layout.ensures.sound;
      held = subst (λ (x : Holds). AreHeld c.in_ok-front.front x) (sym c.none.ensures) (held-none c.in_ok-front.front);
    }

pub returns : goal.returns
returns c =
    let s : SetUp = record { host_bytes = c.setup.inside.host_bytes; lanes = c.setup.inside.lanes; geometry = record { mediator = c.setup.inside.mediator; disk_blocks = c.setup.inside.disk_blocks; guests = c.setup.inside.guests.items } } in
    made-is c.args.setup s c.setup.view_is c.in_ok-layout.layout c.in_ok-front.front (c.in_ok-layout.ensures.given ∙ ap (λ (t : SetUp). t.geometry) (sym c.setup.view_is)) c.in_ok-front.ensures c.in_ok-closed.closed.items (c.in_ok-closed.ensures.items_if_clones_equal (λ y e. e) ∙ ap (λ (n : ℕ). replicate n false) c.from.ensures)
    c.in_ok-spare.spare.items
    (c.in_ok-spare.ensures.items_if_clones_equal (λ y e. e)
    ∙ spare-is c.args.setup s c.setup.view_is c.args.left c.len-guests.result c.max.result _ c.requires.left (let l = c.len-guests.ensures in omega (arith, l)) c.max.ensures refl)
