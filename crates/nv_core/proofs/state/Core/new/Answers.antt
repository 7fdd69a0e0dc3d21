use Rattle.std.proofs.Common.{◌∙◌, List, ap, length, sym}
use Rattle.nv_core.proofs.Delegated.{tails-opening}
use Rattle.nv_laws_sound.specs.Side.{Side, tails_of}
use Rattle.nv_core.specs.State.{State, state_of}
use Rattle.nv_device.specs.State.{Physical}
use Rattle.nv_world_model.specs.Geometry.{Geometry}
use Rattle.nv_core.proofs.Openings.{opening-of, opening-placed}
use Rattle.nv_core.specs.Places.{placed_lanes}
use Rattle.nv_model.specs.Memory.{byte_in}
use Rattle.nv_world_model.specs.World.{Lane}
use Rattle.nv_core.proofs.state.Core.new.Goals as goal

pub returns : goal.returns
returns c =
    let f : Side = c.in_ok-front.front in
    let s : State = state_of c.in_ok-host.host c.in_ok-device.device f in
    let g : Geometry = record { mediator = c.layout.inside.mediator; disk_blocks = c.layout.inside.disk_blocks; guests = c.layout.inside.guests.items } in
    opening-of c.args.layout.now g c.args.host_bytes c.args.lanes (length c.args.layout.now.guests) s c.layout.view_is c.in_ok-host.ensures c.in_ok-device.ensures
    (ap (λ (ls : List Lane). placed_lanes c.in_ok-device.device.mediator 0 (byte_in c.in_ok-host.host) c.in_ok-device.device.lanes ls)
    (ap (λ (x : Side). x.lanes) c.in_ok-front.ensures)
    ∙ opening-placed c.in_ok-device.device.mediator 0 (byte_in c.in_ok-host.host) c.in_ok-device.device.lanes c.args.lanes) (ap (λ (x : Side). x.controllers) c.in_ok-front.ensures)
    (ap (λ (x : Geometry). length x.guests) (sym c.layout.view_is))

pub invariant_of-result : goal.invariant_of-result
invariant_of-result c =
    ap (λ (p : Physical). tails_of p.lanes) c.in_ok-device.ensures ∙ tails-opening c.args.lanes ∙ sym (ap (λ (x : Side). x.tails) c.in_ok-front.ensures)
