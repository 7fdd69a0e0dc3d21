use Rattle.std.proofs.Common.{◌+◌, ◌-◌, ◌<◌, ◌≤◌, ◌^◌, arith}
use Rattle.nv_bounce.specs.Bounce.{gathered_to}
use Rattle.nv_bounce.proofs.Copies.{IsAtRow-end, IsAtRow-first}
use Rattle.nv_mem.proofs.MappedRuns.{longest-apart, mapped-below, mapped-none, run-inside}
use Rattle.nv_bounce.proofs.Gathered.{gathered-next, gathering-in_order}
use Rattle.nv_bounce.proofs.gathering.gather_run.Goals as goal

pub loop-done-init : goal.loop-done-init
loop-done-init g c = IsAtRow-first (gathered_to c.args.map.now.regions) (g.C.MemoryCell.bytes c.args.host.now) c.args.to c.args.addr c.args.len

pub overflow_add-addr : goal.overflow_add-addr
overflow_add-addr g c =
    let below : c.args.addr + c.loop-done.done < 2 ^ 64 =
    mapped-below c.args.map.now c.args.addr c.args.len c.loop-done.done c.host_len-known.ensures.sound c.requires.mapped c.loop-done-test.true in
    omega arith

pub returns-in_default-clause-bytes : goal.returns-in_default-clause-bytes
returns-in_default-clause-bytes g c =
    absurd (mapped-none c.args.map.now.regions c.args.addr c.args.len c.loop-done.done c.requires.mapped c.loop-done-test.true c.in_default.ensures)

pub copy-requires-clause-from : goal.copy-requires-clause-from
copy-requires-clause-from g c = λ some.
    let inside : c.in-Some.from + c.in-Some.n ≤ c.args.map.now.host_len =
    run-inside c.args.map.now (c.args.addr + c.loop-done.done) (c.args.len - c.loop-done.done) c.in-Some.from c.in-Some.n
    c.host_len-known.ensures.sound c.in-Some.ensures in
    let size = c.loop-done.invariant.size in
    let host = c.requires.host in
    omega arith

pub copy-requires-clause-apart : goal.copy-requires-clause-apart
copy-requires-clause-apart g c =
    longest-apart c.args.map.now.regions c.args.addr c.args.len c.loop-done.done c.in-Some.from c.in-Some.n c.args.to
    c.requires.apart c.in-Some.ensures c.loop-done-test.true

pub loop-done-preserved : goal.loop-done-preserved
loop-done-preserved g c =
    gathered-next c.args.map.now (g.C.MemoryCell.bytes c.args.host.now) (g.C.MemoryCell.bytes c.loop-done.host) (g.C.MemoryCell.bytes c.copy.new.memory) c.args.to c.args.addr c.args.len c.loop-done.done
    c.in-Some.from c.in-Some.n c.host_len-known.ensures.sound c.requires.host c.requires.apart c.requires.inside
    c.loop-done.invariant c.loop-done-test.true c.in-Some.ensures c.copy.ensures.bytes c.copy.ensures.len

pub returns-clause-bytes : goal.returns-clause-bytes
returns-clause-bytes g c =
    IsAtRow-end (gathered_to c.args.map.now.regions) (g.C.MemoryCell.bytes c.args.host.now) c.args.to c.args.addr c.args.len (g.C.MemoryCell.bytes c.loop-done.host) c.loop-done.done
    (gathering-in_order c.args.map.now.regions c.args.to c.args.len c.requires.apart) c.loop-done.invariant c.loop-done-test.false
