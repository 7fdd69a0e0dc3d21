-- Where queues lie stays in the map.
use Rattle.std.proofs.Common.{◌≡◌, ℕ, Bool, true, Option, Some, None, IfSome, refl}
use Rattle.nv_entry.specs.Status.{StatusField}
use Rattle.nv_model.specs.Controller.{Controller, Posted, doorbell, post, submission_queue, took, with_submission}
use Rattle.nv_model.specs.Laws.{IsCompletionInPlace, IsSubmissionInPlace, QueuesInPlace}
use Rattle.nv_model.specs.Queue.{SubmissionQueue, CompletionQueue}
use Rattle.nv_model.proofs.QueueOrder.{IsKept-in_place}
use Rattle.nv_model.proofs.QueuesKept.{QueuesHave-same, QueuesHave-with_submission, doorbell-kept, post-kept, submission_queue-has, took-kept}
use Rattle.nv_vctl.specs.Vctl.{closed_from, controller_behind, or_unchanged}

-- what holds of a controller and of what it is changed to, holds behind a call that may be ignored
pub or_unchanged-has : (P : Controller → Type 0) (c : Controller) (o : Option Controller) → P c → IfSome o P → P (or_unchanged c o)
or_unchanged-has P c None was has = was
or_unchanged-has P c (Some after) was has = has

-- or behind a completion
pub controller_behind-has : (P : Controller → Type 0) (c : Controller) (o : Option Posted) → P c
    → IfSome o (λ p. P p.controller) → P (controller_behind c o)
controller_behind-has P c None was has = was
controller_behind-has P c (Some p) was has = has

module _ (test : ℕ → Bool) where
  abbrev P : SubmissionQueue → Type 0
  P = IsSubmissionInPlace test

  abbrev Q : CompletionQueue → Type 0
  Q = IsCompletionInPlace test

  pub in_place-doorbell : (c : Controller) (offset value : ℕ) → QueuesInPlace test c
      → QueuesInPlace test (or_unchanged c (doorbell c offset value))
  in_place-doorbell c offset value place =
      or_unchanged-has (QueuesInPlace test) c (doorbell c offset value) place
      (doorbell-kept test P Q (IsKept-in_place test) c offset value place)

  pub in_place-took : (c : Controller) (y : ℕ) → QueuesInPlace test c → QueuesInPlace test (took c y)
  in_place-took c y place = took-kept test P Q (IsKept-in_place test) c y place

  pub in_place-post : (c : Controller) (y dw0 cid : ℕ) (st : StatusField) → QueuesInPlace test c
      → QueuesInPlace test (controller_behind c (post c y dw0 cid st))
  in_place-post c y dw0 cid st place =
      controller_behind-has (QueuesInPlace test) c (post c y dw0 cid st) place
      (post-kept test P Q (IsKept-in_place test) c y dw0 cid st place)

  -- a queue closes
  pub in_place-closed : (c : Controller) (y cid : ℕ) (q : SubmissionQueue) → submission_queue c y ≡ Some q → QueuesInPlace test c
      → QueuesInPlace test (closed_from (Some q) c y cid)
  in_place-closed c y cid q is place =
      let changed : Controller = with_submission c y (Some (record q { closing = true })) in
      let has : P q = submission_queue-has test P Q (IsKept-in_place test) c y q place is in
      QueuesHave-same test P Q (IsKept-in_place test) changed (closed_from (Some q) c y cid)
      (QueuesHave-with_submission test P Q (IsKept-in_place test) c y (Some (record q { closing = true })) place has) refl refl
