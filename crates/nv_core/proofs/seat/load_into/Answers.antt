use Rattle.std.proofs.Common.{◌≡◌, inl, inr, length, refl, subst, true, false}
use Rattle.nv_mem.specs.GuestMap.{IsSound, Mapping}
use Rattle.nv_model.specs.Memory.{byte_in, bytes_from, image}
use Rattle.nv_core.proofs.Placed.{held-is, load-done, load-not}
use Rattle.nv_core.proofs.seat.load_into.Goals as goal

pub returns-then-not-holds : goal.returns-then-not-holds
returns-then-not-holds g c = λ k.
    inr (
      refl,
      refl,
      load-not c.args.given.now (byte_in (g.C.MemoryCell.bytes c.args.host.now)) k c.args.addr (length c.args.room.now)
          (subst IsSound c.map-map.ensures c.host_len-known.ensures.sound)
          (held-is c.map-map.result.now c.args.given.now c.args.addr (length c.args.room.now) (length c.args.room.now) c.holds.result false
          c.map-map.ensures refl c.holds.ensures.value c.if-not-holds.true),
    )

pub returns : goal.returns
returns g c = λ k.
    inl (
      refl,
      load-done c.args.given.now (byte_in (g.C.MemoryCell.bytes c.args.host.now)) k c.args.addr (length c.args.room.now) c.load.new.out
          (subst IsSound c.map-map.ensures c.host_len-known.ensures.sound)
          (held-is c.map-map.result.now c.args.given.now c.args.addr (length c.args.room.now) (length c.args.room.now) c.holds.result true
          c.map-map.ensures refl c.holds.ensures.value c.if-not-holds.false)
          (subst (λ (m : Mapping). c.load.new.out ≡ bytes_from (image m.regions (byte_in (g.C.MemoryCell.bytes c.args.host.now))) c.args.addr (length c.args.room.now)) c.map-map.ensures
          c.load.ensures),
    )
