use Rattle.std.proofs.Common.{◌≡◌, Some, length, arith, sym, ap, ◌∙◌, subst}
use Rattle.nv_model.specs.Controller.{submission_queue}
use Rattle.nv_model.specs.Laws.{QueuesInPlace}
use Rattle.nv_vctl.specs.Vctl.{IsWhole}
use Rattle.nv_vctl.proofs.Entries.{front-waits, took-made}
use Rattle.nv_vctl.proofs.Places.{in_place-took}
use Rattle.nv_vctl.proofs.Whole.{submission-below, whole-took}
use Rattle.nv_vctl.proofs.vctl.Vctl.took.Goals as goal

pub take_front-requires : goal.take_front-requires
take_front-requires c =
    front-waits c.args.self.now c.args.queue c.in-Some.found c.requires.waits
    (ap (submission_queue c.args.self.now) (sym c.from-number.ensures) ∙ sym c.submission_queue.ensures ∙ c.in-Some.is)

pub bounds-self-inside-number : goal.bounds-self-inside-number
bounds-self-inside-number c =
    submission-below c.args.self.now c.from-number.result c.in-Some.found (subst IsWhole c.self.view_is c.self.invariant)
    (sym c.submission_queue.ensures ∙ c.in-Some.is)

pub listed : goal.listed
listed c =
    let below = submission-below c.args.self.now c.from-number.result c.in-Some.found (subst IsWhole c.self.view_is c.self.invariant)
    (sym c.submission_queue.ensures ∙ c.in-Some.is) in
    let count : length c.self.inside.submission ≡ 9 = c.self.invariant.together.submission_count in
    omega arith

pub count_taken-requires-clause-number : goal.count_taken-requires-clause-number
count_taken-requires-clause-number c =
    let below = submission-below c.args.self.now c.from-number.result c.in-Some.found (subst IsWhole c.self.view_is c.self.invariant)
    (sym c.submission_queue.ensures ∙ c.in-Some.is) in
    let count : length c.self.inside.taken ≡ 9 = c.self.invariant.together.taken_count in
    omega arith

pub invariant_of-self : goal.invariant_of-self
invariant_of-self c =
    let is : submission_queue c.args.self.now c.args.queue ≡ Some c.in-Some.found =
    ap (submission_queue c.args.self.now) (sym c.from-number.ensures) ∙ sym c.submission_queue.ensures ∙ c.in-Some.is in
    subst IsWhole
    (sym (took-made _ c.args.self.now c.args.queue c.from-number.result c.in-Some.found
    c.take_front.new.self c.count_taken.new.taken c.self.view_is is
    c.from-number.ensures c.take_front.ensures c.count_taken.ensures))
    (whole-took c.args.self.now c.args.queue c.requires.waits (subst IsWhole c.self.view_is c.self.invariant))

pub returns-clause-in_place : goal.returns-clause-in_place
returns-clause-in_place c = λ test place.
    let is : submission_queue c.args.self.now c.args.queue ≡ Some c.in-Some.found =
    ap (submission_queue c.args.self.now) (sym c.from-number.ensures) ∙ sym c.submission_queue.ensures ∙ c.in-Some.is in
    subst (QueuesInPlace test)
    (sym (took-made _ c.args.self.now c.args.queue c.from-number.result c.in-Some.found
    c.take_front.new.self c.count_taken.new.taken c.self.view_is is
    c.from-number.ensures c.take_front.ensures c.count_taken.ensures))
    (in_place-took test c.args.self.now c.args.queue place)
