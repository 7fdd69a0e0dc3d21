use Rattle.std.proofs.Common.{◌≡◌, ◌&&◌, Some, not, nat_lt, sym, ap, ◌∙◌, subst}
use Rattle.nv_model.specs.Controller.{Controller, with_submission}
use Rattle.nv_model.specs.Queue.{SubmissionQueue}
use Rattle.nv_vctl.specs.Vctl.{IsWhole}
use Rattle.nv_vctl.proofs.Ringing.{rung-completes}
use Rattle.nv_vctl.proofs.Whole.{ready-on, whole-changed}
use Rattle.nv_vctl.proofs.vctl.Vctl.ring_tail.Goals as goal

pub invariant_of-self : goal.invariant_of-self
invariant_of-self c =
    let q : SubmissionQueue = c.in-Some.found in
    let new : SubmissionQueue = c.ring_tail.new.self in
    let same : new.completes_to ≡ q.completes_to =
    ap (λ (s : SubmissionQueue). s.completes_to) c.ring_tail.ensures.state
    ∙ rung-completes (not q.closing && nat_lt c.args.tail q.size) q c.args.tail in
    subst IsWhole (ap (λ (v : Controller). with_submission v c.args.queue (Some new)) (sym c.self.view_is))
    (whole-changed c.args.self.now c.args.queue q new (ready-on c.args.self.now c.requires.ready) (sym c.submission_queue.ensures ∙ c.in-Some.is) same
    (subst IsWhole c.self.view_is c.self.invariant))
