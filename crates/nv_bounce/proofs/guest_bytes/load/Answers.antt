use Rattle.std.proofs.Common.{◌+◌, ◌-◌, ◌<◌, ◌≤◌, ◌^◌, length, arith}
use Rattle.nv_mem.proofs.MappedRuns.{mapped-below, mapped-none, run-inside}
use Rattle.nv_model.specs.Memory.{byte_in, image}
use Rattle.nv_bounce.proofs.GuestMemory.{IsReadTo-end, IsReadTo-first, IsReadTo-next, part-length}
use Rattle.nv_bounce.proofs.guest_bytes.load.Goals as goal

pub loop-done-init : goal.loop-done-init
loop-done-init g c = IsReadTo-first (image c.args.map.now.regions (byte_in (g.C.MemoryCell.bytes c.args.host.now))) c.args.addr c.args.out.now

pub overflow_add-addr : goal.overflow_add-addr
overflow_add-addr g c =
    let size = c.loop-done.invariant.size in
    let some = c.loop-done-test.true in
    let below : c.args.addr + c.loop-done.done < 2 ^ 64 =
    mapped-below c.args.map.now c.args.addr (length c.args.out.now) c.loop-done.done c.host_len-known.ensures.sound c.requires.mapped (omega arith) in
    omega arith

pub returns-in_default : goal.returns-in_default
returns-in_default g c =
    let size = c.loop-done.invariant.size in
    let some = c.loop-done-test.true in
    absurd (mapped-none c.args.map.now.regions c.args.addr (length c.args.out.now) c.loop-done.done c.requires.mapped (omega arith) c.in_default.ensures)

pub load-requires : goal.load-requires
load-requires g c = λ some.
    let inside : c.in-Some.from + c.in-Some.n ≤ c.args.map.now.host_len =
    run-inside c.args.map.now (c.args.addr + c.loop-done.done) (length c.loop-done.out - c.loop-done.done) c.in-Some.from c.in-Some.n
    c.host_len-known.ensures.sound c.in-Some.ensures in
    let size =
    part-length c.loop-done.out c.loop-done.done (c.loop-done.done + c.in-Some.n - c.loop-done.done) c.in-Some.n (omega arith) c.in-Some.ensures.within in
    let host = c.requires.host in
    omega arith

pub loop-done-preserved : goal.loop-done-preserved
loop-done-preserved g c =
    let inside : c.in-Some.from + c.in-Some.n ≤ c.args.map.now.host_len =
    run-inside c.args.map.now (c.args.addr + c.loop-done.done) (length c.loop-done.out - c.loop-done.done) c.in-Some.from c.in-Some.n
    c.host_len-known.ensures.sound c.in-Some.ensures in
    let host = c.requires.host in
    IsReadTo-next c.args.map.now.regions (g.C.MemoryCell.bytes c.args.host.now) c.args.addr (length c.args.out.now) c.loop-done.out c.load.new.out c.loop-done.done
    c.in-Some.from (c.loop-done.done + c.in-Some.n - c.loop-done.done) c.in-Some.n c.loop-done.invariant c.in-Some.ensures.run
    c.in-Some.ensures.within (omega arith) (omega arith) c.loop-done-test.true c.load.ensures

pub returns : goal.returns
returns g c =
    IsReadTo-end (image c.args.map.now.regions (byte_in (g.C.MemoryCell.bytes c.args.host.now))) c.args.addr (length c.args.out.now) c.loop-done.out c.loop-done.done
    c.loop-done-test.false c.loop-done.invariant
