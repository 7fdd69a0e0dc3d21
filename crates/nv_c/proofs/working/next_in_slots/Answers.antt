use Rattle.std.proofs.Common.{◌∙◌, ℕ, ap, sym, List}
use Rattle.nv_c.proofs.Rests.{all-popped, popped, slot-unheld}
use Rattle.nv_c.proofs.Works.{dev_move-unheld, dev_post-unheld}
use Rattle.nv_c.specs.Work.{SlotRests}
use Rattle.nv_mediator.specs.Hosted.{hosted_world}
use Rattle.nv_tags.proofs.Rows.{is_among}
use Rattle.nv_c.proofs.working.next_in_slots.Goals as goal

pub loop-slot-init : goal.loop-slot-init
loop-slot-init c = λ slot out.
    let h = c.args.mediator.now in
    let none = slot-unheld h.geometry (hosted_world h) c.promise.ensures.consistent c.args.lane slot
    (ap (λ (xs : List ℕ). is_among xs slot) (sym c.flying-flying.ensures) ∙ out) in
    record {
      moves = λ number. dev_move-unheld h.geometry (hosted_world h) c.args.lane slot number none;
      posts = dev_post-unheld h.geometry (hosted_world h) c.args.lane slot none;
    }

pub loop-slot-preserved : goal.loop-slot-preserved
loop-slot-preserved c =
    popped (λ (k : ℕ). SlotRests c.args.lane c.args.mediator.now k) c.loop-slot.flying c.pop.new.self c.in-Some.slot c.in-Some.ensures.lowest
    c.loop-slot.invariant c.in_default-next_in_slot.ensures

pub returns : goal.returns
returns c =
    all-popped (λ (k : ℕ). SlotRests c.args.lane c.args.mediator.now k) c.pop.result c.loop-slot.flying c.pop.new.self c.in_default.is c.pop.ensures.lowest
    c.loop-slot.invariant
