use Rattle.std.proofs.Common.{ℕ, length, ap, sym, subst}
use Rattle.nv_core.proofs.Delivers.{delivers-all, delivers-none, delivers-nothing, first-part, first-read, others-read, succeeded}
use Rattle.nv_core.specs.Ending.{AreReadParts}
use Rattle.nv_model.specs.Memory.{byte_in}
use Rattle.nv_world_model.specs.World.{Command}
use Rattle.nv_core.proofs.posting.deliver.Goals as goal

pub returns-in_default-clause-bytes : goal.returns-in_default-clause-bytes
returns-in_default-clause-bytes g c =
    let t = c.requires.ended in
    let place = c.args.place in
    delivers-none c.args.status place.mediator place.lane place.tag c.args.ring.now (length (g.C.MemoryCell.bytes c.args.host.now)) c.args.map.now.regions t.command.entry
    t (byte_in (g.C.MemoryCell.bytes c.args.host.now)) (c.in_default.ensures.which t.command t.status t.share t.is)
    (c.requires.parts t.command t.status t.share t.is)

pub scatter_part-requires-clause-part : goal.scatter_part-requires-clause-part
scatter_part-requires-clause-part g c =
    let t = c.requires.ended in
    let place = c.args.place in
    let went = succeeded c.kind.result _ c.args.status c.delivers.result c.delivers.ensures c.if-delivers.true in
    let are = c.requires.parts t.command t.status t.share t.is went in
    let first = first-part c.args.status place.mediator place.lane place.tag c.args.ring.now (length (g.C.MemoryCell.bytes c.args.host.now)) c.args.map.now.regions t.command.entry are in
    c.in-Some.ensures.some first.command first.status first.share first.is

pub scatter_part-requires-clause-read : goal.scatter_part-requires-clause-read
scatter_part-requires-clause-read g c =
    let t = c.requires.ended in
    let place = c.args.place in
    let its = c.in-Some.ensures.which t.command t.status t.share t.is in
    let entry = ap (λ (d : Command). d.entry) (c.ended.ensures t.command t.status t.share t.is) in
    let went = succeeded c.kind.result _ c.args.status c.delivers.result c.delivers.ensures c.if-delivers.true in
    let are = c.requires.parts t.command t.status t.share t.is went in
    first-read c.args.status place.mediator place.lane place.tag c.args.ring.now (length (g.C.MemoryCell.bytes c.args.host.now)) c.args.map.now.regions t.command.entry
    t c.in-Some.plan.now c.in-Some.part its c.kind.result c.kind.ensures.made _ entry c.delivers.result c.delivers.ensures are c.if-delivers.true

pub deliver_others-requires-clause-parts : goal.deliver_others-requires-clause-parts
deliver_others-requires-clause-parts g c =
    let t = c.requires.ended in
    let place = c.args.place in
    let its = c.in-Some.ensures.which t.command t.status t.share t.is in
    let entry = ap (λ (d : Command). d.entry) (c.ended.ensures t.command t.status t.share t.is) in
    let went = succeeded c.kind.result _ c.args.status c.delivers.result c.delivers.ensures c.if-delivers.true in
    let are = c.requires.parts t.command t.status t.share t.is went in
    subst (λ (n : ℕ). AreReadParts place.mediator place.lane place.tag c.args.ring.now n c.args.map.now.regions) (sym c.scatter_part.ensures.len)
    (others-read c.args.status place.mediator place.lane place.tag c.args.ring.now (length (g.C.MemoryCell.bytes c.args.host.now)) c.args.map.now.regions t.command.entry
    t c.in-Some.plan.now c.in-Some.part its c.kind.result c.kind.ensures.made _ entry c.delivers.result c.delivers.ensures are c.if-delivers.true)

pub returns-then-delivers-clause-bytes : goal.returns-then-delivers-clause-bytes
returns-then-delivers-clause-bytes g c =
    let t = c.requires.ended in
    let place = c.args.place in
    let its = c.in-Some.ensures.which t.command t.status t.share t.is in
    let entry = ap (λ (d : Command). d.entry) (c.ended.ensures t.command t.status t.share t.is) in
    let went = succeeded c.kind.result _ c.args.status c.delivers.result c.delivers.ensures c.if-delivers.true in
    let are = c.requires.parts t.command t.status t.share t.is went in
    delivers-all c.args.status place.mediator place.lane place.tag c.args.ring.now (length (g.C.MemoryCell.bytes c.args.host.now)) c.args.map.now.regions t.command.entry
    t c.in-Some.plan.now c.in-Some.part its c.kind.result c.kind.ensures.made _ entry c.delivers.result c.delivers.ensures are
    (byte_in (g.C.MemoryCell.bytes c.args.host.now)) (byte_in (g.C.MemoryCell.bytes c.scatter_part.new.host)) (byte_in (g.C.MemoryCell.bytes c.deliver_others.new.host)) c.if-delivers.true c.scatter_part.ensures.bytes
    c.deliver_others.ensures.bytes

pub returns-else-delivers-clause-bytes : goal.returns-else-delivers-clause-bytes
returns-else-delivers-clause-bytes g c =
    let t = c.requires.ended in
    let place = c.args.place in
    let its = c.in-Some.ensures.which t.command t.status t.share t.is in
    let entry = ap (λ (d : Command). d.entry) (c.ended.ensures t.command t.status t.share t.is) in
    delivers-nothing c.args.status place.mediator place.lane place.tag c.args.ring.now (length (g.C.MemoryCell.bytes c.args.host.now)) c.args.map.now.regions t.command.entry
    t c.in-Some.plan.now c.in-Some.part its c.kind.result c.kind.ensures.made _ entry c.delivers.result c.delivers.ensures
    (byte_in (g.C.MemoryCell.bytes c.args.host.now)) c.if-delivers.false (c.requires.parts t.command t.status t.share t.is)
