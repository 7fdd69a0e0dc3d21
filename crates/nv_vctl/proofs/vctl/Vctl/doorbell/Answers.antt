use Rattle.std.proofs.Common.{Option, is_some, sym, ap, ◌∙◌, subst}
use Rattle.nv_model.specs.Controller.{Controller}
use Rattle.nv_model.specs.Laws.{QueuesInPlace}
use Rattle.nv_vctl.specs.Vctl.{or_unchanged}
use Rattle.nv_vctl.proofs.Ringing.{doorbell-head, doorbell-tail}
use Rattle.nv_vctl.proofs.Places.{in_place-doorbell}
use Rattle.nv_vctl.proofs.vctl.Vctl.doorbell.Goals as goal

pub returns-in-0-clause-taken : goal.returns-in-0-clause-taken
returns-in-0-clause-taken c =
    c.ring_tail.ensures.taken
    ∙ ap (λ (o : Option Controller). is_some o)
    (doorbell-tail c.args.self.now c.args.offset c.args.value c.low_half-slot.result
    (sym c.if-not-is_ready.ensures.value) c.if-offset-lt-DOORBELLS.false
    c.in-0.is c.low_half-slot.ensures)

pub returns-in-0-clause-state : goal.returns-in-0-clause-state
returns-in-0-clause-state c =
    c.ring_tail.ensures.state
    ∙ ap (or_unchanged c.args.self.now)
    (doorbell-tail c.args.self.now c.args.offset c.args.value c.low_half-slot.result
    (sym c.if-not-is_ready.ensures.value) c.if-offset-lt-DOORBELLS.false
    c.in-0.is c.low_half-slot.ensures)

pub returns-in-0-clause-in_place : goal.returns-in-0-clause-in_place
returns-in-0-clause-in_place c = λ test place.
    subst (QueuesInPlace test) (sym (returns-in-0-clause-state c)) (in_place-doorbell test c.args.self.now c.args.offset c.args.value place)

pub returns-in-4-clause-taken : goal.returns-in-4-clause-taken
returns-in-4-clause-taken c =
    c.ring_head.ensures.taken
    ∙ ap (λ (o : Option Controller). is_some o)
    (doorbell-head c.args.self.now c.args.offset c.args.value c.low_half-slot.result
    (sym c.if-not-is_ready.ensures.value) c.if-offset-lt-DOORBELLS.false
    c.in-4.is c.low_half-slot.ensures)

pub returns-in-4-clause-state : goal.returns-in-4-clause-state
returns-in-4-clause-state c =
    c.ring_head.ensures.state
    ∙ ap (or_unchanged c.args.self.now)
    (doorbell-head c.args.self.now c.args.offset c.args.value c.low_half-slot.result
    (sym c.if-not-is_ready.ensures.value) c.if-offset-lt-DOORBELLS.false
    c.in-4.is c.low_half-slot.ensures)

pub returns-in-4-clause-in_place : goal.returns-in-4-clause-in_place
returns-in-4-clause-in_place c = λ test place.
    subst (QueuesInPlace test) (sym (returns-in-4-clause-state c)) (in_place-doorbell test c.args.self.now c.args.offset c.args.value place)
