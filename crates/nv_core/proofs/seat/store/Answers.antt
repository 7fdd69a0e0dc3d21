use Rattle.std.proofs.Common.{length, refl, subst, false}
use Rattle.nv_mem.specs.GuestMap.{IsSound}
use Rattle.nv_model.specs.Memory.{byte_in}
use Rattle.nv_core.proofs.Placed.{held-is, store-not}
use Rattle.nv_core.proofs.seat.store.Goals as goal

pub returns-then-not-holds-clause-acted : goal.returns-then-not-holds-clause-acted
returns-then-not-holds-clause-acted g c = λ k.
    store-not c.args.given.now (byte_in (g.C.MemoryCell.bytes c.args.host.now)) k c.args.addr c.args.bytes.now
    (subst IsSound c.map-map.ensures c.host_len-known.ensures.sound)
    (held-is c.map-map.result.now c.args.given.now c.args.addr (length c.args.bytes.now) (length c.args.bytes.now) c.holds.result false
    c.map-map.ensures refl c.holds.ensures.value c.if-not-holds.true)
