use Rattle.std.proofs.Common.{[], slice_get, sym, ap, ◌∙◌, arith}
use Rattle.nv_core.proofs.FullQueues.{no-room, none-posted}
use Rattle.nv_core.proofs.GroupWorlds.{looked-up}
use Rattle.nv_laws_sound.specs.Side.{Side}
use Rattle.nv_model.specs.Controller.{is_enabled, post}
use Rattle.nv_world_model.specs.Step.{deciding}
use Rattle.nv_core.proofs.front.Front.may_post.Goals as goal

pub returns-clause-no : goal.returns-clause-no
returns-clause-no c = λ no.
    let v = c.index.result.now in
    record {
      guest_is = omega arith;
      queue_is = omega arith;
      controller = v;
      there = sym (ap (λ (f : Side). slice_get f.controllers c.args.guest) c.self.view_is)
          ∙ looked-up c.self.inside.controllers.items c.args.guest c.from-number.result v c.from-number.ensures (omega arith) c.index.ensures;
      enabled = (no-room (is_enabled v) (post v c.args.queue 0 0 (deciding [])) (sym (c.may_end.ensures 0 (deciding [])) ∙ no)).0;
      full = λ cid st. (no-room (is_enabled v) (post v c.args.queue 0 cid st) (sym (c.may_end.ensures cid st) ∙ no)).1;
    }

pub returns-clause-yes : goal.returns-clause-yes
returns-clause-yes c = λ full.
    c.may_end.ensures 0 (deciding [])
    ∙ none-posted c.args.guest c.args.queue c.args.self.now full c.index.result.now
    (sym (ap (λ (f : Side). slice_get f.controllers c.args.guest) c.self.view_is)
    ∙ looked-up c.self.inside.controllers.items c.args.guest c.from-number.result c.index.result.now c.from-number.ensures (omega arith) c.index.ensures)
