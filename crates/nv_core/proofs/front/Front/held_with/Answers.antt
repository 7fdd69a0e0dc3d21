use Rattle.std.proofs.Common.{slice_get, sym, ap, ◌∙◌, arith}
use Rattle.nv_core.proofs.FullQueues.{all-waiting, full-held, held-with, none-waits}
use Rattle.nv_core.proofs.GroupWorlds.{looked-up}
use Rattle.nv_laws_sound.specs.Side.{Side}
use Rattle.nv_core.proofs.front.Front.held_with.Goals as goal

pub returns-clause-all : goal.returns-clause-all
returns-clause-all c =
    all-waiting c.args.self.now c.args.lane c.args.tag c.index-ring.result.now
    (sym (ap (λ (f : Side). slice_get f.lanes c.args.lane) c.self.view_is)
    ∙ looked-up c.self.inside.lanes.items c.args.lane c.from-number.result c.index-ring.result.now c.from-number.ensures (omega arith) c.index-ring.ensures)
    c.in-Some.origin (sym c.origin.ensures ∙ c.in-Some.is) c.from_queue.result c.from_queue.ensures

pub returns-clause-none : goal.returns-clause-none
returns-clause-none c =
    none-waits c.args.self.now c.args.lane c.args.tag c.index-ring.result.now
    (sym (ap (λ (f : Side). slice_get f.lanes c.args.lane) c.self.view_is)
    ∙ looked-up c.self.inside.lanes.items c.args.lane c.from-number.result c.index-ring.result.now c.from-number.ensures (omega arith) c.index-ring.ensures)
    c.in-Some.origin (sym c.origin.ensures ∙ c.in-Some.is) (c.may_post.ensures.no c.if-may_post.false) c.from_queue.result

pub returns-clause-rest : goal.returns-clause-rest
returns-clause-rest c = λ layout other memory w among on.
    full-held layout c.args.self.now memory w on c.args.lane other c.in-Some.origin.guest c.in-Some.origin.queue (c.may_post.ensures.no c.if-may_post.false)
    c.index-ring.result.now
    (sym (ap (λ (f : Side). slice_get f.lanes c.args.lane) c.self.view_is)
    ∙ looked-up c.self.inside.lanes.items c.args.lane c.from-number.result c.index-ring.result.now c.from-number.ensures (omega arith) c.index-ring.ensures)
    c.from_queue.result c.from_queue.ensures among

pub returns-clause-full : goal.returns-clause-full
returns-clause-full c =
    held-with c.args.self.now c.args.lane c.args.tag c.index-ring.result.now
    (sym (ap (λ (f : Side). slice_get f.lanes c.args.lane) c.self.view_is)
    ∙ looked-up c.self.inside.lanes.items c.args.lane c.from-number.result c.index-ring.result.now c.from-number.ensures (omega arith) c.index-ring.ensures)
    c.in-Some.origin (sym c.origin.ensures ∙ c.in-Some.is) (c.may_post.ensures.no c.if-may_post.false) c.from_queue.result c.from_queue.ensures
