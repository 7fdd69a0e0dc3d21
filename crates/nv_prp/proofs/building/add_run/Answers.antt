use Rattle.std.proofs.Common.{◌+◌, ◌-◌, ◌<◌, ◌≤◌, ◌^◌, arith}
use Rattle.nv_prp.proofs.Builds.{Rows-end, Rows-next, Rows-room}
use Rattle.nv_mem.proofs.MappedRuns.{mapped-below, mapped-none, run-inside}
use Rattle.nv_prp.proofs.building.add_run.Goals as goal

pub overflow_add-addr : goal.overflow_add-addr
overflow_add-addr c =
    let below : c.args.addr + c.loop-done.done < 2 ^ 64 =
    mapped-below c.args.map.now c.args.addr c.args.len c.loop-done.done c.host_len-known.ensures.sound c.requires.mapped c.loop-done-test.true in
    omega arith

pub returns-in_default : goal.returns-in_default
returns-in_default c =
    absurd (mapped-none c.args.map.now.regions c.args.addr c.args.len c.loop-done.done c.requires.mapped c.loop-done-test.true c.in_default.ensures)

pub add_row-requires-clause-inside : goal.add_row-requires-clause-inside
add_row-requires-clause-inside c =
    let inside : c.in-Some.host + c.in-Some.n ≤ c.args.map.now.host_len =
    run-inside c.args.map.now (c.args.addr + c.loop-done.done) (c.args.len - c.loop-done.done) c.in-Some.host c.in-Some.n c.host_len-known.ensures.sound c.in-Some.ensures in
    let is = c.host_len-known.ensures.value in
    omega arith

pub add_row-requires-clause-room : goal.add_row-requires-clause-room
add_row-requires-clause-room c =
    Rows-room
    c.args.map.now.regions c.args.met.now c.args.addr c.args.len c.loop-done.done c.loop-done.met c.in-Some.host c.in-Some.n c.loop-done.invariant c.loop-done-test.true c.in-Some.ensures
    c.requires.room

pub loop-done-preserved : goal.loop-done-preserved
loop-done-preserved c =
    Rows-next
    c.args.map.now.regions c.args.met.now c.args.addr c.args.len c.loop-done.done c.loop-done.met c.add_row.new.self c.in-Some.host c.in-Some.n c.loop-done.invariant c.loop-done-test.true
    c.in-Some.ensures c.add_row.ensures

pub returns : goal.returns
returns c =
    Rows-end c.args.map.now.regions c.args.met.now c.args.addr c.args.len c.loop-done.done c.loop-done.met c.loop-done.invariant c.loop-done-test.false
