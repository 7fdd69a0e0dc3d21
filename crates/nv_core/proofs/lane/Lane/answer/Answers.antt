use Rattle.std.proofs.Common.{◌∙◌, ℕ, List, None, ap, slice_get, sym}
use Rattle.nv_core.specs.Groups.{tags_changed}
use Rattle.nv_core.specs.Tags.{IsTaken, state_in}
use Rattle.nv_entry.specs.StatusCode.{done_with}
use Rattle.nv_entry.specs.declared.status_code.StatusCode.TheVariants.{Success}
use Rattle.nv_world_model.specs.World.{Ended}
use Rattle.nv_core.proofs.AnsweredTags.{first-behind, first-goes, first-taken, its-led, left-goes, left-rises, left-taken, none-left, start-behind, start-group, start-rise, start-taken}
use Rattle.nv_core.proofs.lane.Lane.answer.Goals as goal

pub loop-other-init : goal.loop-other-init
loop-other-init c =
    let i = c.self.inside in
    let t = c.requires.led in
    record {
      rise =
          start-rise i.head i.phase i.tags i.progress.items c.args.self.now c.self.invariant c.self.view_is c.args.tag t
          c.pop-leader.result c.taken_group-others.result c.pop-leader.new.self c.taken_group-others.ensures c.pop-leader.ensures.lowest;
      taken = λ command reads there.
          (let t : IsTaken c.args.tag (slice_get c.args.self.now.tags c.args.tag) =
          record { command = command; reads = reads; is = there; led = its-led c.args.tag _ command reads c.requires.led there } in
          first-behind c.args.self.now c.end_taken.new.self c.args.tag c.pop-leader.new.self c.args.status
          (start-behind i.head i.phase i.tags i.progress.items c.args.self.now c.self.invariant c.self.view_is c.args.tag t
          c.pop-leader.result c.taken_group-others.result c.pop-leader.new.self c.taken_group-others.ensures c.pop-leader.ensures.lowest)
          c.end_taken.ensures command reads there
          (start-taken i.head i.phase i.tags i.progress.items c.args.self.now c.self.invariant c.self.view_is c.args.tag t
          c.pop-leader.result c.taken_group-others.result c.pop-leader.new.self c.taken_group-others.ensures c.pop-leader.ensures.lowest
          c.requires.together));
      goes = λ command reads there.
          first-goes c.args.self.now c.end_taken.new.self c.args.tag c.pop-leader.new.self c.args.status
          (start-behind i.head i.phase i.tags i.progress.items c.args.self.now c.self.invariant c.self.view_is c.args.tag t
          c.pop-leader.result c.taken_group-others.result c.pop-leader.new.self c.taken_group-others.ensures c.pop-leader.ensures.lowest)
          c.end_taken.ensures _ command reads there
          (start-group i.head i.phase i.tags i.progress.items c.args.self.now c.self.invariant c.self.view_is c.args.tag t
          c.pop-leader.result c.taken_group-others.result c.pop-leader.new.self c.taken_group-others.ensures c.pop-leader.ensures.lowest);
    }

pub end_taken-requires-in-Some : goal.end_taken-requires-in-Some
end_taken-requires-in-Some c =
    let t = c.requires.led in
    let taken = c.loop-other.invariant.taken t.command t.reads t.is in
    ap state_in (first-taken t.command c.loop-other.self c.in-Some.other c.loop-other.others c.pop.new.self c.in-Some.ensures.lowest taken).1

pub loop-other-preserved : goal.loop-other-preserved
loop-other-preserved c =
    let so_far = c.loop-other.invariant in
    let t = c.requires.led in
    record {
      rise =
          left-rises t.command c.loop-other.self c.end_taken-in-Some.new.self c.in-Some.other c.loop-other.others c.pop.new.self c.status.result
          c.in-Some.ensures.lowest so_far.rise (so_far.taken t.command t.reads t.is) c.end_taken-in-Some.ensures c.status.ensures;
      taken = λ command reads there.
          left-taken command c.loop-other.self c.end_taken-in-Some.new.self c.in-Some.other c.loop-other.others c.pop.new.self c.status.result
          c.in-Some.ensures.lowest so_far.rise (so_far.taken command reads there) c.end_taken-in-Some.ensures c.status.ensures;
      goes = λ command reads there.
          left-goes command c.loop-other.self c.end_taken-in-Some.new.self c.in-Some.other c.loop-other.others c.pop.new.self c.status.result
          c.in-Some.ensures.lowest so_far.rise (so_far.taken command reads there) c.end_taken-in-Some.ensures c.status.ensures
          ∙ so_far.goes command reads there;
    }

pub returns : goal.returns
returns c = λ command reads there.
    let none = none-left c.pop.result c.loop-other.others c.pop.new.self c.in_default.is c.pop.ensures.lowest in
    sym (ap (λ (tags : List ℕ). tags_changed tags (Ended command (done_with Success) None) c.loop-other.self) none)
    ∙ c.loop-other.invariant.goes command reads there
