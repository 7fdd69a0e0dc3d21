use Rattle.std.proofs.Common.{◌∙◌, ◌∷◌, List, None, Option, Some, ap, arith, sym}
use Rattle.std.specs.Option.{option_map}
use Rattle.nv_core.specs.Tags.{command_at}
use Rattle.nv_core.proofs.GroupTags.{led-below}
use Rattle.nv_core.proofs.LaneTags.{lane-command}
use Rattle.nv_core.proofs.OutcomeTags.{decided-first, decided-next, front-left, statuses-front, told-status}
use Rattle.nv_entry.specs.Status.{StatusField}
use Rattle.nv_world_model.specs.Step.{deciding}
use Rattle.nv_core.proofs.lane.Lane.outcome.Goals as goal

pub state-requires : goal.state-requires
state-requires c =
    let i = c.self.inside in
    let t = c.requires.ended in
    let whose = lane-command i.head i.phase i.tags i.progress.items c.args.self.now c.self.invariant c.self.view_is c.args.tag t.command (ap command_at t.is) in
    let below = led-below i.head i.tags i.progress.items c.self.invariant c.args.tag t.command whose (c.requires.led t.command t.status t.share t.is) in
    let many = c.self.invariant.slots_are in
    record { there = omega arith }

pub returns-in_err-outcome : goal.returns-in_err-outcome
returns-in_err-outcome c =
    let i = c.self.inside in
    let t = c.requires.ended in
    let whose = lane-command i.head i.phase i.tags i.progress.items c.args.self.now c.self.invariant c.self.view_is c.args.tag t.command (ap command_at t.is) in
    let led = c.requires.led t.command t.status t.share t.is in
    let below = led-below i.head i.tags i.progress.items c.self.invariant c.args.tag t.command whose led in
    let many = c.self.invariant.slots_are in
    let front = front-left i.head i.phase i.tags i.progress.items c.args.self.now c.self.invariant c.self.view_is c.args.tag t.command whose led
    c.pop-leader.result c.ended_group-others.result c.pop-leader.new.self c.ended_group-others.ensures c.pop-leader.ensures.lowest in
    c.from_residual.ensures
    ∙ sym (ap (λ (o : Option (List StatusField)). option_map deciding o)
    (statuses-front c.args.self.now c.args.tag _ c.pop-leader.new.self None front
    (told-status i.head i.phase i.tags i.progress.items c.args.self.now c.self.invariant c.self.view_is c.args.tag c.state.result None (omega arith)
    c.state.ensures c.in_err-outcome.ensures)))

pub loop-other-init : goal.loop-other-init
loop-other-init c =
    let i = c.self.inside in
    let t = c.requires.ended in
    let whose = lane-command i.head i.phase i.tags i.progress.items c.args.self.now c.self.invariant c.self.view_is c.args.tag t.command (ap command_at t.is) in
    let led = c.requires.led t.command t.status t.share t.is in
    let below = led-below i.head i.tags i.progress.items c.self.invariant c.args.tag t.command whose led in
    let many = c.self.invariant.slots_are in
    let front = front-left i.head i.phase i.tags i.progress.items c.args.self.now c.self.invariant c.self.view_is c.args.tag t.command whose led
    c.pop-leader.result c.ended_group-others.result c.pop-leader.new.self c.ended_group-others.ensures c.pop-leader.ensures.lowest in
    record {
      goes =
          decided-first c.in_ok-outcome.outcome _
          ∙ sym (ap (λ (o : Option (List StatusField)). option_map deciding o)
          (statuses-front c.args.self.now c.args.tag _ c.pop-leader.new.self (Some c.in_ok-outcome.outcome) front
          (told-status i.head i.phase i.tags i.progress.items c.args.self.now c.self.invariant c.self.view_is c.args.tag c.state.result (Some c.in_ok-outcome.outcome)
          (omega arith) c.state.ensures c.in_ok-outcome.ensures)));
    }

pub returns-in_err-status : goal.returns-in_err-status
returns-in_err-status c =
    let i = c.self.inside in
    c.from_residual-in_err-status.ensures
    ∙ sym (ap (λ (o : Option (List StatusField)). option_map (λ (sts : List StatusField). deciding (c.loop-other.outcome ∷ sts)) o)
    (statuses-front c.args.self.now c.in-Some.other c.loop-other.others c.pop.new.self None c.in-Some.ensures.lowest
    (told-status i.head i.phase i.tags i.progress.items c.args.self.now c.self.invariant c.self.view_is c.in-Some.other c.state-in-Some.result None
    c.in-Some.ensures.there c.state-in-Some.ensures c.in_err-status.ensures)))
    ∙ c.loop-other.invariant.goes

pub loop-other-preserved : goal.loop-other-preserved
loop-other-preserved c =
    let i = c.self.inside in
    record {
      goes =
          decided-next c.loop-other.outcome c.in_ok-status.status c.first_failure-outcome.result _ c.first_failure-outcome.ensures
          ∙ sym (ap (λ (o : Option (List StatusField)). option_map (λ (sts : List StatusField). deciding (c.loop-other.outcome ∷ sts)) o)
          (statuses-front c.args.self.now c.in-Some.other c.loop-other.others c.pop.new.self (Some c.in_ok-status.status) c.in-Some.ensures.lowest
          (told-status i.head i.phase i.tags i.progress.items c.args.self.now c.self.invariant c.self.view_is c.in-Some.other c.state-in-Some.result
          (Some c.in_ok-status.status) c.in-Some.ensures.there c.state-in-Some.ensures c.in_ok-status.ensures)))
          ∙ c.loop-other.invariant.goes;
    }
