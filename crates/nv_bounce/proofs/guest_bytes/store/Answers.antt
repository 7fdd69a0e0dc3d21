use Rattle.std.proofs.Common.{◌+◌, ◌-◌, ◌<◌, ◌≤◌, ◌^◌, length, arith}
use Rattle.nv_mem.proofs.MappedRuns.{mapped-below, mapped-none, run-inside}
use Rattle.nv_bounce.proofs.GuestMemory.{IsWrittenTo-end, IsWrittenTo-first, IsWrittenTo-next, part-length}
use Rattle.nv_bounce.proofs.guest_bytes.store.Goals as goal

pub loop-done-init : goal.loop-done-init
loop-done-init g c = IsWrittenTo-first c.args.map.now.regions (g.C.MemoryCell.bytes c.args.host.now) c.args.addr c.args.bytes.now c.host_len-known.ensures.sound.apart

pub overflow_add-addr : goal.overflow_add-addr
overflow_add-addr g c =
    let below : c.args.addr + c.loop-done.done < 2 ^ 64 =
    mapped-below c.args.map.now c.args.addr (length c.args.bytes.now) c.loop-done.done c.host_len-known.ensures.sound c.requires.mapped c.loop-done-test.true in
    omega arith

pub returns-in_default-clause-bytes : goal.returns-in_default-clause-bytes
returns-in_default-clause-bytes g c =
    absurd (mapped-none c.args.map.now.regions c.args.addr (length c.args.bytes.now) c.loop-done.done c.requires.mapped c.loop-done-test.true c.in_default.ensures)

pub store-requires : goal.store-requires
store-requires g c = λ some.
    let inside : c.in-Some.to + c.in-Some.n ≤ c.args.map.now.host_len =
    run-inside c.args.map.now (c.args.addr + c.loop-done.done) (length c.args.bytes.now - c.loop-done.done) c.in-Some.to c.in-Some.n
    c.host_len-known.ensures.sound c.in-Some.ensures in
    let part =
    part-length c.args.bytes.now c.loop-done.done (c.loop-done.done + c.in-Some.n - c.loop-done.done) c.in-Some.n (omega arith) c.in-Some.ensures.within in
    let host = c.requires.host in
    let size = c.loop-done.invariant.size in
    omega arith

pub loop-done-preserved : goal.loop-done-preserved
loop-done-preserved g c =
    let inside : c.in-Some.to + c.in-Some.n ≤ c.args.map.now.host_len =
    run-inside c.args.map.now (c.args.addr + c.loop-done.done) (length c.args.bytes.now - c.loop-done.done) c.in-Some.to c.in-Some.n
    c.host_len-known.ensures.sound c.in-Some.ensures in
    let host = c.requires.host in
    let size = c.loop-done.invariant.size in
    IsWrittenTo-next c.args.map.now.regions (g.C.MemoryCell.bytes c.args.host.now) c.args.addr c.args.bytes.now (g.C.MemoryCell.bytes c.loop-done.host) (g.C.MemoryCell.bytes c.store.new.memory) c.loop-done.done
    c.in-Some.to (c.loop-done.done + c.in-Some.n - c.loop-done.done) c.in-Some.n c.host_len-known.ensures.sound.apart c.loop-done.invariant
    c.in-Some.ensures.run c.in-Some.ensures.within (omega arith) (omega arith) c.loop-done-test.true c.store.ensures.bytes c.store.ensures.len

pub returns-clause-bytes : goal.returns-clause-bytes
returns-clause-bytes g c =
    IsWrittenTo-end c.args.map.now.regions (g.C.MemoryCell.bytes c.args.host.now) c.args.addr c.args.bytes.now (g.C.MemoryCell.bytes c.loop-done.host) c.loop-done.done
    c.loop-done-test.false c.loop-done.invariant
