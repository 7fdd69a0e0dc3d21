use Rattle.std.proofs.Common.{◌≡◌, arith, sym, subst, ap, ◌∙◌}
use Rattle.nv_mediator.proofs.Starts.{fits-limits, lanes-small, may-be-given, starts-at, starts-hosted}
use Rattle.nv_world_model.specs.Geometry.{Geometry}
use Rattle.nv_device.specs.Physical.{FitsLimits}
use Rattle.nv_world_model.specs.SetUp.{SetUp, refusal_of}
use Rattle.nv_mediator.proofs.mediator.Mediator.open.Goals as goal

pub into_layout-requires : goal.into_layout-requires
into_layout-requires c = may-be-given c.args.setup c.requires

pub overflow_cast-lanes : goal.overflow_cast-lanes
overflow_cast-lanes c =
    let s : SetUp = record { host_bytes = c.setup.inside.host_bytes; lanes = c.setup.inside.lanes; geometry = record { mediator = c.setup.inside.mediator; disk_blocks = c.setup.inside.disk_blocks; guests = c.setup.inside.guests.items } } in
    let few = lanes-small s (ap refusal_of c.setup.view_is ∙ c.requires) in omega (arith, few)

pub new-requires : goal.new-requires
new-requires c =
    let s : SetUp = record { host_bytes = c.setup.inside.host_bytes; lanes = c.setup.inside.lanes; geometry = record { mediator = c.setup.inside.mediator; disk_blocks = c.setup.inside.disk_blocks; guests = c.setup.inside.guests.items } } in
    let is : c.in_ok-layout.layout ≡ s.geometry = c.in_ok-layout.ensures.given ∙ ap (λ (t : SetUp). t.geometry) (sym c.setup.view_is) in
    subst (λ (g : Geometry). FitsLimits g.mediator s.lanes g.disk_blocks) (sym is) (fits-limits s (ap refusal_of c.setup.view_is ∙ c.requires))

pub invariant_of-result : goal.invariant_of-result
invariant_of-result c =
    let s : SetUp = record { host_bytes = c.setup.inside.host_bytes; lanes = c.setup.inside.lanes; geometry = record { mediator = c.setup.inside.mediator; disk_blocks = c.setup.inside.disk_blocks; guests = c.setup.inside.guests.items } } in
    let is : c.in_ok-layout.layout ≡ s.geometry = c.in_ok-layout.ensures.given ∙ ap (λ (t : SetUp). t.geometry) (sym c.setup.view_is) in
    starts-hosted c.args.setup s c.in_ok-layout.layout c.in_ok-core.core c.setup.view_is is c.in_ok-core.ensures c.requires c.in_ok-layout.ensures.sound

pub returns : goal.returns
returns c =
    let s : SetUp = record { host_bytes = c.setup.inside.host_bytes; lanes = c.setup.inside.lanes; geometry = record { mediator = c.setup.inside.mediator; disk_blocks = c.setup.inside.disk_blocks; guests = c.setup.inside.guests.items } } in
    let is : c.in_ok-layout.layout ≡ s.geometry = c.in_ok-layout.ensures.given ∙ ap (λ (t : SetUp). t.geometry) (sym c.setup.view_is) in
    starts-at c.args.setup s c.in_ok-layout.layout c.in_ok-core.core c.setup.view_is is c.in_ok-core.ensures
