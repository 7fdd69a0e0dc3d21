use Rattle.std.proofs.Common.{subst, refl, true, false}
use Rattle.nv_mem.specs.GuestMap.{IsSound}
use Rattle.nv_model.specs.Memory.{byte_in}
use Rattle.nv_core.proofs.Placed.{held-is, load-done, load-not}
use Rattle.nv_core.proofs.seat.load.Goals as goal

pub returns-then-not-holds-clause-ok : goal.returns-then-not-holds-clause-ok
returns-then-not-holds-clause-ok g c = λ k.
    load-not c.args.given.now (byte_in (g.C.MemoryCell.bytes c.args.host.now)) k c.args.addr c.args.len
    (subst IsSound c.map-map.ensures c.host_len-known.ensures.sound)
    (held-is c.map-map.result.now c.args.given.now c.args.addr c.args.len c.args.len c.holds.result false
    c.map-map.ensures refl c.holds.ensures.value c.if-not-holds.true)

pub returns-clause-ok : goal.returns-clause-ok
returns-clause-ok g c = λ k.
    load-done c.args.given.now (byte_in (g.C.MemoryCell.bytes c.args.host.now)) k c.args.addr c.args.len c.in_ok-bytes.bytes
    (subst IsSound c.map-map.ensures c.host_len-known.ensures.sound)
    (held-is c.map-map.result.now c.args.given.now c.args.addr c.args.len c.args.len c.holds.result true
    c.map-map.ensures refl c.holds.ensures.value c.if-not-holds.false)
    c.in_ok-bytes.ensures.ok
