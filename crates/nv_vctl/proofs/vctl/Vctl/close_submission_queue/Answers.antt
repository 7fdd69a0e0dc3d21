use Rattle.std.proofs.Common.{◌≡◌, Some, sym, ap, ◌∙◌, subst}
use Rattle.nv_model.specs.Controller.{Controller, submission_queue}
use Rattle.nv_model.specs.Laws.{QueuesInPlace}
use Rattle.nv_model.specs.Queue.{SubmissionQueue}
use Rattle.nv_vctl.specs.Vctl.{IsWhole, closed_from}
use Rattle.nv_vctl.proofs.Whole.{whole-closed}
use Rattle.nv_vctl.proofs.vctl.Vctl.close_submission_queue.Goals as goal
use Rattle.nv_vctl.proofs.Places.{in_place-closed}

pub invariant_of-self : goal.invariant_of-self
invariant_of-self c =
    let q : SubmissionQueue = record {
      base = c.found.inside.base;
      size = c.found.inside.ring.size;
      head = c.found.inside.ring.head;
      tail = c.found.inside.ring.tail;
      completes_to = c.found.inside.completes_to;
      closing = c.found.inside.closing;
    } in
    let is : submission_queue c.args.self.now c.args.queue ≡ Some q =
    ap (submission_queue c.args.self.now) (sym c.from.ensures) ∙ sym c.submission_queue.ensures ∙ c.in-Some.is
    ∙ ap (λ (s : SubmissionQueue). Some s) (sym c.found.view_is) in
    rw (c.from-2.ensures, c.new.ensures)
    (subst IsWhole (ap (λ (v : Controller). closed_from (Some q) v c.args.queue c.args.cid) (sym c.self.view_is))
    (whole-closed c.args.self.now c.args.queue c.args.cid q c.requires.ready c.requires.number is (subst IsWhole c.self.view_is c.self.invariant)))

pub returns-clause-in_place : goal.returns-clause-in_place
returns-clause-in_place c = λ test place.
    let q : SubmissionQueue = record {
      base = c.found.inside.base;
      size = c.found.inside.ring.size;
      head = c.found.inside.ring.head;
      tail = c.found.inside.ring.tail;
      completes_to = c.found.inside.completes_to;
      closing = c.found.inside.closing;
    } in
    let is : submission_queue c.args.self.now c.args.queue ≡ Some q =
    ap (submission_queue c.args.self.now) (sym c.from.ensures) ∙ sym c.submission_queue.ensures ∙ c.in-Some.is
    ∙ ap (λ (s : SubmissionQueue). Some s) (sym c.found.view_is) in
    rw (c.from-2.ensures, c.new.ensures)
    (subst (QueuesInPlace test) (ap (λ (v : Controller). closed_from (Some q) v c.args.queue c.args.cid) (sym c.self.view_is))
    (in_place-closed test c.args.self.now c.args.queue c.args.cid q is place))
