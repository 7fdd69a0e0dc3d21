use Rattle.std.proofs.Common.{refl, arith}
use Rattle.nv_c.proofs.Works.{leads_more, leads_none, leads_up, worked_all, worked_idle, worked_starved}
use Rattle.nv_c.proofs.working.work.Goals as goal

pub loop-done-init : goal.loop-done-init
loop-done-init c = record { leads = leads_none c.args.scope c.args.mediator.now c.args.mediator.now refl; few = omega arith }

pub loop-done-preserved : goal.loop-done-preserved
loop-done-preserved c =
    let below = c.loop-done-test.true in
    let few = c.in-Served.ensures.2 in
    record {
      leads = leads_more c.args.scope c.loop-done.done c.in-Served.count c.args.mediator.now c.loop-done.mediator c.serve.new.mediator c.loop-done.invariant.leads c.in-Served.ensures.0;
      few = omega (arith, below, few);
    }

pub returns-in-GaveUp : goal.returns-in-GaveUp
returns-in-GaveUp c =
    let below = c.loop-done-test.true in
    let few = c.in-GaveUp.ensures.1 in
    record {
      leads = leads_up c.args.scope c.loop-done.done c.in-GaveUp.count c.args.mediator.now c.loop-done.mediator c.serve.new.mediator c.loop-done.invariant.leads c.in-GaveUp.ensures.0;
      few = omega (arith, below, few);
    }

pub returns-in-Idle : goal.returns-in-Idle
returns-in-Idle c =
    worked_idle c.args.scope c.args.most c.loop-done.done c.args.mediator.now c.loop-done.mediator c.serve.new.mediator c.loop-done.invariant.leads c.loop-done-test.true c.in-Idle.ensures.0 c.in-Idle.ensures.1

pub returns-in-Starved : goal.returns-in-Starved
returns-in-Starved c =
    worked_starved c.args.scope c.args.most c.loop-done.done c.args.mediator.now c.loop-done.mediator c.serve.new.mediator c.loop-done.invariant.leads c.loop-done-test.true c.in-Starved.ensures.0 c.in-Starved.ensures.1

pub returns : goal.returns
returns c =
    let few = c.loop-done.invariant.few in
    let end = c.loop-done-test.false in
    worked_all c.args.scope c.args.most c.loop-done.done c.args.mediator.now c.loop-done.mediator c.loop-done.invariant.leads few (omega (arith, end))
