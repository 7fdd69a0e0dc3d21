use Rattle.std.proofs.Common.{arith}
use Rattle.nv_core.proofs.Handed.{host-end, part-next, tail-end}
use Rattle.nv_laws_sound.proofs.Lists.{slice_get-there}
use Rattle.nv_plan.specs.Made.{shares_made}
use Rattle.nv_core.proofs.handing.hand_parts.Goals as goal

pub loop-part-preserved : goal.loop-part-preserved
loop-part-preserved g c =
    let p = c.args.plan.now in
    let place = c.args.place in
    let many = c.parts-part-end.ensures.value in
    let inside = c.loop-part-test.true in
    let s = slice_get-there (shares_made p) c.loop-part.part (omega (arith, many, inside)) in
    part-next c.args.tags (shares_made p) p.given p.job.sqe place.mediator place.lane (g.C.MemoryCell.bytes c.args.host.now) c.args.tail.now
    c.loop-part.tags c.pop.new.self c.in-Some.tag (g.C.MemoryCell.bytes c.loop-part.host) (g.C.MemoryCell.bytes c.hand_part.new.host) c.loop-part.tail c.hand_part.new.tail c.loop-part.part s.0
    c.loop-part.invariant c.in-Some.ensures.lowest s.1 (c.hand_part.ensures.bytes s.0 s.1) (c.hand_part.ensures.tail s.0 s.1) c.hand_part.ensures.len c.hand_part.ensures.fits

pub returns-clause-bytes : goal.returns-clause-bytes
returns-clause-bytes g c =
    let p = c.args.plan.now in
    let place = c.args.place in
    let many = c.parts-part-end.ensures.value in
    let past = c.loop-part-test.false in
    host-end c.args.tags (shares_made p) p.given p.job.sqe place.mediator place.lane (g.C.MemoryCell.bytes c.args.host.now) c.args.tail.now
    c.loop-part.tags (g.C.MemoryCell.bytes c.loop-part.host) c.loop-part.tail c.loop-part.part c.loop-part.invariant (omega (arith, many, past))

pub returns-clause-tail : goal.returns-clause-tail
returns-clause-tail g c =
    let p = c.args.plan.now in
    let place = c.args.place in
    let many = c.parts-part-end.ensures.value in
    let past = c.loop-part-test.false in
    tail-end c.args.tags (shares_made p) p.given p.job.sqe place.mediator place.lane (g.C.MemoryCell.bytes c.args.host.now) c.args.tail.now
    c.loop-part.tags (g.C.MemoryCell.bytes c.loop-part.host) c.loop-part.tail c.loop-part.part c.loop-part.invariant (omega (arith, many, past))
