use Rattle.std.proofs.Common.{arith, subst, sym, List}
use Rattle.nv_model.specs.declared.reply.Reply.{Reply}
use Rattle.nv_world.proofs.Runs.{answered-more, answered-none}
use Rattle.nv_world.specs.Mediated.{AreAnswered, mediated}
use Rattle.nv_world.proofs.world.World.run_all.Goals as goal

pub loop-event-init : goal.loop-event-init
loop-event-init c =
    let many = c.in_ok-reserve.ensures.ok in
    let same = c.in_ok-reserve.ensures.len in
    record {
      answered =
          subst (λ (l : List Reply). AreAnswered _ (mediated c.args.self.now) c.args.replies.now.items l (mediated c.args.self.now)) (sym c.in_ok-reserve.ensures.items)
          (answered-none c.args.events.now (mediated c.args.self.now) c.args.replies.now.items);
      room = omega (arith, many, same);
    }

pub loop-event-preserved : goal.loop-event-preserved
loop-event-preserved c =
    let room = c.loop-event.invariant.room in
    let len = c.push_reserved.ensures.len in
    let capacity = c.push_reserved.ensures.capacity in
    record {
      answered =
          answered-more c.args.events.now c.loop-event.event-index c.event-item.result (mediated c.args.self.now) (mediated c.loop-event.self) (mediated c.step_lent.new.self)
          c.args.replies.now.items c.loop-event.replies.items c.push_reserved.new.self.items c.step_lent.result c.loop-event-test.true c.event-item.is
          c.loop-event.invariant.answered c.step_lent.ensures c.push_reserved.ensures.items;
      room = omega (arith, room, len, capacity);
    }
