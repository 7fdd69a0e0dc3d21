use Rattle.std.proofs.Common.{arith}
use Rattle.nv_world_model.specs.Geometry.{Guest}
use Rattle.nv_world_model.specs.SetUp.{SetUp}
use Rattle.nv_mediator.proofs.Areas.{area-cut}
use Rattle.nv_mediator.proofs.checking.meets_area.Goals as goal

pub returns : goal.returns
returns c =
    let s : SetUp = record {
      host_bytes = c.setup.inside.host_bytes;
      lanes = c.setup.inside.lanes;
      geometry = record { mediator = c.setup.inside.mediator; disk_blocks = c.setup.inside.disk_blocks; guests = c.setup.inside.guests.items };
    } in
    let g : Guest = record {
      memory_map = c.guest.inside.map;
      namespace = c.guest.inside.extents.items;
      limit = c.guest.inside.limit;
    } in
    area-cut c.args.setup.now s c.args.guest.now g c.saturating_mul-area.result c.meets_host.result c.setup.view_is c.guest.view_is
    c.host_len-known.ensures.sound (let e = c.host_len-known.ensures.value in let t = c.host_len-known.type_inv in omega arith) c.saturating_mul-area.ensures c.meets_host.ensures
