use Rattle.std.proofs.Common.{◌∙◌}
use Rattle.nv_core.proofs.ListReads.{listed-read}
use Rattle.nv_model.specs.Memory.{byte_in}
use Rattle.nv_core.proofs.front.Front.part_of_list.Goals as goal

pub read_bytes-requires-clause-host : goal.read_bytes-requires-clause-host
read_bytes-requires-clause-host g c = (c.requires.laid_out.given c.in-Ok.guest c.in-Some.given.now c.in-Some.ensures).host

pub returns : goal.returns
returns g c =
    c.in_ok-bytes.ensures.ok
    ∙ listed-read c.args.layout.now c.args.lane c.args.tag c.args.addr c.args.len c.args.self.now c.in-Ok.guest c.in-Some.given.now
    (byte_in (g.C.MemoryCell.bytes c.args.host.now)) c.in-Ok.ensures.ok c.in-Some.ensures
