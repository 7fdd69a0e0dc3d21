use Rattle.std.proofs.Common.{◌+◌, ◌-◌, ◌<◌, ◌≤◌, ◌^◌, ◌⊎◌, arith, inl, inr}
use Rattle.nv_bounce.specs.Bounce.{scattered_from}
use Rattle.nv_bounce.proofs.Copies.{IsAtRow-end, IsAtRow-first}
use Rattle.nv_mem.proofs.MappedRuns.{longest-apart, mapped-below, mapped-none, run-inside}
use Rattle.nv_bounce.proofs.Scattered.{scattered-next, scattering-in_order}
use Rattle.nv_bounce.proofs.scattering.scatter_run.Goals as goal

swapped : {A B : Type 0} → A ⊎ B → B ⊎ A
swapped either = elim either [ inl a ↦ inr a | inr b ↦ inl b ]

pub loop-done-init : goal.loop-done-init
loop-done-init g c = IsAtRow-first (scattered_from c.args.map.now.regions) (g.C.MemoryCell.bytes c.args.host.now) c.args.from c.args.addr c.args.len

pub overflow_add-addr : goal.overflow_add-addr
overflow_add-addr g c =
    let below : c.args.addr + c.loop-done.done < 2 ^ 64 =
    mapped-below c.args.map.now c.args.addr c.args.len c.loop-done.done c.host_len-known.ensures.sound c.requires.mapped c.loop-done-test.true in
    omega arith

pub returns-in_default-clause-bytes : goal.returns-in_default-clause-bytes
returns-in_default-clause-bytes g c =
    absurd (mapped-none c.args.map.now.regions c.args.addr c.args.len c.loop-done.done c.requires.mapped c.loop-done-test.true c.in_default.ensures)

pub copy-requires-clause-to : goal.copy-requires-clause-to
copy-requires-clause-to g c = λ some.
    let inside : c.in-Some.to + c.in-Some.n ≤ c.args.map.now.host_len =
    run-inside c.args.map.now (c.args.addr + c.loop-done.done) (c.args.len - c.loop-done.done) c.in-Some.to c.in-Some.n
    c.host_len-known.ensures.sound c.in-Some.ensures in
    let size = c.loop-done.invariant.size in
    let host = c.requires.host in
    omega arith

pub copy-requires-clause-apart : goal.copy-requires-clause-apart
copy-requires-clause-apart g c =
    swapped (longest-apart c.args.map.now.regions c.args.addr c.args.len c.loop-done.done c.in-Some.to c.in-Some.n c.args.from
    c.requires.apart c.in-Some.ensures c.loop-done-test.true)

pub loop-done-preserved : goal.loop-done-preserved
loop-done-preserved g c =
    scattered-next c.args.map.now (g.C.MemoryCell.bytes c.args.host.now) (g.C.MemoryCell.bytes c.loop-done.host) (g.C.MemoryCell.bytes c.copy.new.memory) c.args.from c.args.addr c.args.len c.loop-done.done
    c.in-Some.to c.in-Some.n c.host_len-known.ensures.sound c.requires.host c.requires.apart c.requires.inside
    c.loop-done.invariant c.loop-done-test.true c.in-Some.ensures c.copy.ensures.bytes c.copy.ensures.len

pub returns-clause-bytes : goal.returns-clause-bytes
returns-clause-bytes g c =
    IsAtRow-end (scattered_from c.args.map.now.regions) (g.C.MemoryCell.bytes c.args.host.now) c.args.from c.args.addr c.args.len (g.C.MemoryCell.bytes c.loop-done.host) c.loop-done.done
    (scattering-in_order c.args.map.now.regions c.args.from c.args.len c.host_len-known.ensures.sound.apart c.requires.apart) c.loop-done.invariant c.loop-done-test.false
