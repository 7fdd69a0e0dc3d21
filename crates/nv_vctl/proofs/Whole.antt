-- Each change of a controller keeps what its type keeps of it.
use Rattle.std.proofs.Common.{◌≡◌, ℕ, zero, suc, ◌<◌, true, false, List, [], ◌∷◌, length, set, slice_get}
use Rattle.std.proofs.Common.{slice_index, Option, Some, None, IfSome, IsSome, arith, refl, sym, ap, ◌∙◌, subst}
use Rattle.std.specs.List.{list_any}
use Rattle.nv_entry.specs.Status.{StatusField}
use Rattle.nv_model.specs.Admin.{uses}
use Rattle.nv_model.specs.Controller.{Controller, Deletion, Posted, completion_queue, front, is_enabled, is_ready, post, post_from}
use Rattle.nv_model.specs.Controller.{post_to, queue_of, submission_queue, took, took_of, with_completion, with_submission}
use Rattle.nv_model.specs.Queue.{SubmissionQueue, CompletionQueue, front_taken, is_full}
use Rattle.nv_model.specs.Running.{GoTogether, IsTogether}
use Rattle.nv_model.proofs.Endings.{and-true}
use Rattle.nv_model.proofs.QueuesKept.{by_test}
use Rattle.nv_model.proofs.Together.{completion-gone, completion-put, deletion-put, queue_of-set-has, submission-gone, submission-put, there-put}
use Rattle.nv_model.proofs.TogetherKept.{IsPosted, front-may, post-together, took-together}
use Rattle.nv_vctl.specs.Vctl.{IsIoQueue, IsWhole, closed_from, finished_from}

-- what is kept of the admin queue
abbrev pub CompletesToAdmin : Option SubmissionQueue → Type 0
CompletesToAdmin o = IfSome o (λ q. q.completes_to ≡ 0)

-- EN is 1 where the controller is ready
pub ready-on : (c : Controller) → is_ready c ≡ true → is_enabled c ≡ true
ready-on c up = (and-true (is_enabled c) c.ready up).0

-- the completion queue of a queue that is there
pub completes-there : (c : Controller) (y : ℕ) (q : SubmissionQueue) → IsTogether c → submission_queue c y ≡ Some q
    → IsSome (completion_queue c q.completes_to)
completes-there c y q g is =
    subst (λ o. IfSome o (λ (s : SubmissionQueue). IsSome (completion_queue c s.completes_to))) is (g.completes y)

-- a queue that is there has a number below their count
pub queue-below : {Q : Type 0} (xs : List (Option Q)) (y : ℕ) → IsSome (queue_of (slice_get xs y)) → y < length xs
queue-below [] y there = cc
queue-below (x ∷ xs) zero there = omega arith
queue-below (x ∷ xs) (suc y) there = let below = queue-below xs y there in omega arith

-- so it is one of nine
pub submission-below : (c : Controller) (y : ℕ) (q : SubmissionQueue) → IsWhole c → submission_queue c y ≡ Some q → y < 9
submission-below c y q w is =
    let below = queue-below c.submission y (subst (λ (o : Option SubmissionQueue). IsSome o) (sym is) refl) in
    let count : length c.submission ≡ 9 = w.together.submission_count in
    omega arith

pub completion-below : (c : Controller) (y : ℕ) (q : CompletionQueue) → IsWhole c → completion_queue c y ≡ Some q → y < 9
completion-below c y q w is =
    let below = queue-below c.completion_queues y (subst (λ (o : Option CompletionQueue). IsSome o) (sym is) refl) in
    let count : length c.completion_queues ≡ 9 = w.together.completion_count in
    omega arith

-- ---- queues

-- a submission queue is put that is another I/O queue or completes as before
whole-submission : (c : Controller) (y : ℕ) (q : SubmissionQueue) → is_enabled c ≡ true → IsSome (completion_queue c q.completes_to)
    → (0 ≡ y → q.completes_to ≡ 0) → IsWhole c → IsWhole (with_submission c y (Some q))
whole-submission c y q on to same w = record {
  together = submission-put (is_enabled c) c.ready c.submission c.completion_queues c.taken c.deletion on y q to w.together;
  admin = queue_of-set-has CompletesToAdmin c.submission y (Some q) 0 same w.admin;
}

-- an I/O submission queue is made
pub whole-made : (c : Controller) (y : ℕ) (q : SubmissionQueue) → is_ready c ≡ true → IsIoQueue y → IsSome (completion_queue c q.completes_to)
    → IsWhole c → IsWhole (with_submission c y (Some q))
whole-made c y q up io to w = whole-submission c y q (ready-on c up) to (λ same. (let some = io.0 in absurd (omega arith))) w

-- a submission queue changes
pub whole-changed : (c : Controller) (y : ℕ) (q new : SubmissionQueue) → is_enabled c ≡ true → submission_queue c y ≡ Some q
    → new.completes_to ≡ q.completes_to → IsWhole c → IsWhole (with_submission c y (Some new))
whole-changed c y q new on is same w =
    whole-submission c y new on (subst (λ (n : ℕ). IsSome (completion_queue c n)) (sym same) (completes-there c y q w.together is))
    (λ first. same ∙ subst CompletesToAdmin (ap (submission_queue c) first ∙ is) w.admin) w

-- a completion queue is put
pub whole-completion : (c : Controller) (y : ℕ) (q : CompletionQueue) → is_enabled c ≡ true → IsWhole c → IsWhole (with_completion c y (Some q))
whole-completion c y q on w = record {
  together = completion-put (is_enabled c) c.ready c.submission c.completion_queues c.taken c.deletion on y q w.together;
  admin = w.admin;
}

-- an I/O submission queue goes
without-submission : (c : Controller) (y : ℕ) → IsIoQueue y → IsWhole c → CompletesToAdmin (queue_of (slice_get (set c.submission y None) 0))
without-submission c y io w = queue_of-set-has CompletesToAdmin c.submission y None 0 (λ same. tt) w.admin

pub whole-deleted : (c : Controller) (y : ℕ) → is_ready c ≡ true → IsIoQueue y → slice_index c.taken y ≡ 0 → c.deletion ≡ None
    → IsWhole c → IsWhole (with_submission c y None)
whole-deleted c y up io idle none w = record {
  together =
      subst (λ (d : Option Deletion). GoTogether (is_enabled c) c.ready (set c.submission y None) c.completion_queues c.taken d) (sym none)
      (submission-gone (is_enabled c) c.ready c.submission c.completion_queues c.taken c.deletion (ready-on c up) y io.0 idle w.together);
  admin = without-submission c y io w;
}

-- an I/O completion queue goes
pub whole-completion_deleted : (c : Controller) (y : ℕ) → is_ready c ≡ true → IsIoQueue y → list_any (uses y) c.submission ≡ false
    → IsWhole c → IsWhole (with_completion c y None)
whole-completion_deleted c y up io unused w = record {
  together = completion-gone (is_enabled c) c.ready c.submission c.completion_queues c.taken c.deletion (ready-on c up) y io.0 unused w.together;
  admin = w.admin;
}

-- a submission queue closes
pub whole-closed : (c : Controller) (y cid : ℕ) (q : SubmissionQueue) → is_ready c ≡ true → IsIoQueue y → submission_queue c y ≡ Some q
    → IsWhole c → IsWhole (closed_from (Some q) c y cid)
whole-closed c y cid q up io is w =
    let closing : SubmissionQueue = record q { closing = true } in
    let behind = whole-changed c y q closing (ready-on c up) is refl w in
    let was : IsSome (submission_queue c y) = subst (λ (o : Option SubmissionQueue). IsSome o) (sym is) refl in
    record {
      together =
          deletion-put (is_enabled c) c.ready (set c.submission y (Some closing)) c.completion_queues c.taken c.deletion (ready-on c up)
          (record { cid = cid; queue = y }) io.0 (there-put c.submission y closing y was) behind.together;
      admin = behind.admin;
    }

-- the deletion that waits is finished
pub whole-finished : (c : Controller) (d : Deletion) → is_ready c ≡ true → c.deletion ≡ Some d → slice_index c.taken d.queue ≡ 0
    → IsWhole c → IsWhole (finished_from (Some d) c)
whole-finished c d up is idle w =
    let g : IsTogether c = w.together in
    let named = subst (λ o. IfSome o (λ (e : Deletion). (0 < e.queue) × IsSome (submission_queue c e.queue))) is g.deletion_there in
    record {
      together = submission-gone (is_enabled c) c.ready c.submission c.completion_queues c.taken c.deletion (ready-on c up) d.queue named.0 idle g;
      admin = queue_of-set-has CompletesToAdmin c.submission d.queue None 0 (λ same. tt) w.admin;
    }

-- ---- registers

-- ---- commands

-- a command is taken
pub whole-took : (c : Controller) (y : ℕ) → IsSome (front c y) → IsWhole c → IsWhole (took c y)
unfolding took
whole-took c y some w = by_front (front c y) refl some
  where
    kept : (o : Option SubmissionQueue) → submission_queue c y ≡ o → CompletesToAdmin (queue_of (slice_get (took_of o c y).submission 0))
    kept None is = w.admin
    kept (Some q) is =
        queue_of-set-has CompletesToAdmin c.submission y (Some (front_taken q)) 0
        (λ first. subst CompletesToAdmin (ap (submission_queue c) first ∙ is) w.admin) w.admin

    by_front : (o : Option ℕ) → front c y ≡ o → IsSome o → IsWhole (took c y)
    by_front None is there = cc
    by_front (Some addr) is there =
        record { together = (took-together c y (front-may c y addr is) w.together).0; admin = kept (submission_queue c y) refl }

-- a completion is posted
post_to-submission : (found : Option CompletionQueue) (c : Controller) (q : SubmissionQueue) (y dw0 cid : ℕ) (st : StatusField)
    → IfSome (post_to found c q y dw0 cid st) (λ p. p.controller.submission ≡ c.submission)
post_to-submission None c q y dw0 cid st = tt
post_to-submission (Some cq) c q y dw0 cid st =
    by_test (λ o. IfSome o (λ p. p.controller.submission ≡ c.submission)) (is_full cq.size cq.head cq.tail) _ _ (λ _. tt) (λ _. refl)

post_from-submission : (found : Option SubmissionQueue) (c : Controller) (y dw0 cid : ℕ) (st : StatusField)
    → IfSome (post_from found c y dw0 cid st) (λ p. p.controller.submission ≡ c.submission)
post_from-submission None c y dw0 cid st = tt
post_from-submission (Some q) c y dw0 cid st = post_to-submission (completion_queue c q.completes_to) c q y dw0 cid st

pub whole-posted : (c : Controller) (y dw0 cid : ℕ) (st : StatusField) (p : Posted) → is_ready c ≡ true → post c y dw0 cid st ≡ Some p
    → IsWhole c → IsWhole p.controller
unfolding post
whole-posted c y dw0 cid st p up is w =
    let together = subst (λ o. IfSome o (IsPosted c y)) is (post-together c y dw0 cid st (ready-on c up) w.together) in
    let same = subst (λ o. IfSome o (λ (r : Posted). r.controller.submission ≡ c.submission)) is
    (post_from-submission (submission_queue c y) c y dw0 cid st) in
    record {
      together = together.0;
      admin = subst (λ (qs : List (Option SubmissionQueue)). CompletesToAdmin (queue_of (slice_get qs 0))) (sym same) w.admin;
    }
