use Rattle.std.proofs.Common.{sym, subst, refl, arith}
use Rattle.nv_c.proofs.Readings.{reading-may, reading-same}
use Rattle.nv_c.proofs.Works.{leads_more, leads_none, turn_after}
use Rattle.nv_c.specs.Work.{IsTurn, Leads}
use Rattle.nv_c.specs.declared.working.Turn.{Turn}
use Rattle.nv_mediator.specs.Hosted.{Hosted}
use Rattle.nv_c.specs.declared.working.Turn.TheVariants as turn
use Rattle.nv_c.proofs.reading.read_on.Goals as goal

pub loop-done-init : goal.loop-done-init
loop-done-init c =
    record { leads = leads_none c.args.scope c.args.mediator.now c.args.mediator.now refl; few = omega arith; reading = c.requires.reading }

pub returns-then-is_another_waiting : goal.returns-then-is_another_waiting
returns-then-is_another_waiting c =
    let some = c.if-done-gt0.true in
    (c.loop-done.invariant.leads, omega (arith, some), c.loop-done.invariant.few)

pub read_next-requires : goal.read_next-requires
read_next-requires c = c.loop-done.invariant.reading

pub loop-done-preserved : goal.loop-done-preserved
loop-done-preserved c =
    let below = c.loop-done-test.true in
    record {
      leads = leads_more c.args.scope c.loop-done.done 1 c.args.mediator.now c.loop-done.mediator c.read_next.new.mediator c.loop-done.invariant.leads c.in-Read.ensures.0;
      few = omega (arith, below);
      reading = c.in-Read.ensures.1;
    }

pub hand_over-turn-requires-clause-reading : goal.hand_over-turn-requires-clause-reading
hand_over-turn-requires-clause-reading c =
    reading-same c.args.scope c.loop-done.mediator c.read_next.new.mediator c.loop-done.planning c.read_next.new.planning c.in-Planned.ensures.0 c.in-Planned.ensures.1 c.loop-done.invariant.reading

pub returns-in-Planned : goal.returns-in-Planned
returns-in-Planned c =
    subst (λ (t : Turn). IsTurn c.args.scope c.args.most c.args.mediator.now t c.hand_over-turn.new.mediator) (sym c.after.ensures)
    (turn_after c.loop-done.done c.hand_over-turn.result c.args.scope c.args.most c.args.mediator.now c.read_next.new.mediator c.hand_over-turn.new.mediator
    (subst (λ (x : Hosted). Leads c.args.scope c.loop-done.done c.args.mediator.now x) (sym c.in-Planned.ensures.0) c.loop-done.invariant.leads)
    c.loop-done-test.true c.hand_over-turn.ensures)

pub give_up-turn-requires-clause-may : goal.give_up-turn-requires-clause-may
give_up-turn-requires-clause-may c =
    reading-may c.args.scope c.loop-done.mediator c.read_next.new.mediator c.loop-done.planning c.read_next.new.planning c.into_job-lane.result c.in-Starved.ensures.0 c.in-Starved.ensures.1 c.into_job-lane.ensures
    c.loop-done.invariant.reading

pub returns-in-Starved : goal.returns-in-Starved
returns-in-Starved c =
    subst (λ (t : Turn). IsTurn c.args.scope c.args.most c.args.mediator.now t c.give_up-turn.new.mediator) (sym c.after-in-Starved.ensures)
    (turn_after c.loop-done.done c.give_up-turn.result c.args.scope c.args.most c.args.mediator.now c.read_next.new.mediator c.give_up-turn.new.mediator
    (subst (λ (x : Hosted). Leads c.args.scope c.loop-done.done c.args.mediator.now x) (sym c.in-Starved.ensures.0) c.loop-done.invariant.leads)
    c.loop-done-test.true c.give_up-turn.ensures)

pub returns-in-Full : goal.returns-in-Full
returns-in-Full c =
    subst (λ (t : Turn). IsTurn c.args.scope c.args.most c.args.mediator.now t c.read_next.new.mediator) (sym c.after-in-Full.ensures)
    (turn_after c.loop-done.done turn.Starved c.args.scope c.args.most c.args.mediator.now c.loop-done.mediator c.read_next.new.mediator
    c.loop-done.invariant.leads c.loop-done-test.true c.in-Full.ensures)

pub returns-in-Lost : goal.returns-in-Lost
returns-in-Lost c =
    let below = c.loop-done-test.true in
    (leads_more c.args.scope c.loop-done.done 1 c.args.mediator.now c.loop-done.mediator c.read_next.new.mediator c.loop-done.invariant.leads c.in-Lost.ensures, omega arith, omega (arith, below))

pub returns : goal.returns
returns c =
    let some = c.requires.some in
    let few = c.loop-done.invariant.few in
    let end = c.loop-done-test.false in
    (c.loop-done.invariant.leads, omega (arith, some, few, end), few)
