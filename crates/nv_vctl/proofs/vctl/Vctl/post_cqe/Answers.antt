use Rattle.nv_mem.specs.GuestMap.{mapped}
use Rattle.nv_vctl.proofs.Entries.{completions-fit, host-stored, post-mapped}
use Rattle.nv_model.specs.Controller.{post}
use Rattle.nv_model.specs.Memory.{byte_in}
use Rattle.nv_vctl.proofs.vctl.Vctl.post_cqe.Goals as goal

pub post-requires-clause-fits : goal.post-requires-clause-fits
post-requires-clause-fits g c = completions-fit c.args.map.now c.args.self.now c.host_len-known.ensures.sound c.requires.in_place

pub store-requires-clause-mapped : goal.store-requires-clause-mapped
store-requires-clause-mapped g c =
    post-mapped (mapped c.args.map.now.regions) c.args.self.now c.args.queue c.args.dw0 c.args.cid c.args.status c.in-Some.posting c.requires.in_place
    c.in-Some.ensures.posting

pub returns-clause-host : goal.returns-clause-host
returns-clause-host g c =
    host-stored c.args.map.now.regions (byte_in (g.C.MemoryCell.bytes c.args.host.now)) (byte_in (g.C.MemoryCell.bytes c.store.new.host))
    (post c.args.self.now c.args.queue c.args.dw0 c.args.cid c.args.status) c.in-Some.posting c.in-Some.ensures.posting c.store.ensures.bytes

pub returns-clause-in_place : goal.returns-clause-in_place
returns-clause-in_place g c = c.in-Some.ensures.in_place (mapped c.args.map.now.regions) c.requires.in_place
