-- Where a completion is posted: at a multiple of its size, with all of its bytes in the guest's memory.
use Rattle.std.proofs.Common.{◌≡◌, ℕ, zero, suc, ◌+◌, ◌*◌, ◌%◌, ◌≤◌, Bool, true, List, [], ◌∷◌, length, slice_get, All}
use Rattle.std.proofs.Common.{Option, Some, None, IfSome, arith, refl, sym, ap, ◌∙◌, subst}
use Rattle.std.proofs.lemmas.List.Elements.{All-head, All-tail}
use Rattle.std.specs.Bool.{⊤}
use Rattle.nv_entry.specs.Status.{StatusField}
use Rattle.nv_entry.proofs.CompletionLemmas.{length-completion}
use Rattle.nv_mem.specs.GuestMap.{all_mapped, everywhere, mapped}
use Rattle.nv_model.specs.Controller.{Controller, Posted, completion_queue, post, post_from, post_to, queue_of, submission_queue}
use Rattle.nv_model.specs.Laws.{IsCompletionInPlace, IsCompletionOnPage, QueuesInPlace, QueuesOnPages}
use Rattle.nv_model.specs.Queue.{CompletionQueue, SubmissionQueue, cqe_size, is_full}
use Rattle.nv_model.proofs.Judged.{everywhere-at}
use Rattle.nv_model.proofs.QueuesKept.{by_test}
use Rattle.nv_world_model.specs.Geometry.{Geometry, Guest, regions_of}
use Rattle.nv_world_model.specs.Seat.{Owner}

-- the entry of a completion has 16 bytes, at a multiple of 16, and all of them are in the guest's memory
abbrev pub IsPlaced : Guest → Option Posted → Type 0
IsPlaced given None = ⊤
IsPlaced given (Some p) = (p.addr % 16 ≡ 0) × (length p.entry ≡ 16) × (all_mapped (regions_of given) p.addr 16 ≡ true)

-- what holds of each of some addresses holds of those in between
everywhere-part : (test : ℕ → Bool) (addr len at n : ℕ) → everywhere test addr len ≡ true → at + n ≤ len → everywhere test (addr + at) n ≡ true
unfolding everywhere
everywhere-part test addr len at zero all within = refl
everywhere-part test addr len at (suc n) all within =
    let place : addr + (at + n) ≡ addr + at + n = omega arith in
    let here : test (addr + at + n) ≡ true = ap test (sym place) ∙ everywhere-at test addr len (at + n) all (omega arith) in
    let rest : everywhere test (addr + at) n ≡ true = everywhere-part test addr len at n all (omega arith) in
    rw (here, rest) refl

-- a slot of a queue that begins with a page lies at a multiple of its size
slot-aligned : (base tail : ℕ) → base % 4096 ≡ 0 → (base + 16 * tail) % 16 ≡ 0
slot-aligned base tail on = omega arith

-- the slot of a completion queue where the next completion goes is mapped
slot-mapped : (test : ℕ → Bool) (cq : CompletionQueue) → IsCompletionInPlace test cq → everywhere test (cq.base + cqe_size * cq.tail) 16 ≡ true
slot-mapped test cq place =
    let below = place.0.tail_is_slot in
    everywhere-part test cq.base (cqe_size * cq.size) (cqe_size * cq.tail) 16 place.1 (omega arith)

-- each completion queue of a controller has this
abbrev pub CompletionsHave : (CompletionQueue → Type 0) → Controller → Type 0
CompletionsHave Q c = All (λ o. IfSome o Q) c.completion_queues

-- each is in order, with its slots in the guest's memory, and begins with a page
pub record AreReady (given : Guest) (c : Controller) : Type 0 where
  pub places : CompletionsHave (IsCompletionInPlace (mapped (regions_of given))) c
  pub pages : CompletionsHave IsCompletionOnPage c

-- so is the one that is found
found-has : (Q : CompletionQueue → Type 0) (xs : List (Option CompletionQueue)) (y : ℕ) (q : CompletionQueue) → All (λ o. IfSome o Q) xs
    → queue_of (slice_get xs y) ≡ Some q → Q q
found-has Q [] y q each found = cc
found-has Q (x ∷ xs) zero q each found = subst (λ o. IfSome o Q) found (All-head (λ o. IfSome o Q) x xs each)
found-has Q (x ∷ xs) (suc y) q each found = found-has Q xs y q (All-tail (λ o. IfSome o Q) x xs each) found

module _ (given : Guest) (c : Controller) (ready : AreReady given c) where
  to-placed : (found : Option CompletionQueue) (q : SubmissionQueue) (y dw0 cid : ℕ) (st : StatusField) → completion_queue c q.completes_to ≡ found
      → IsPlaced given (post_to found c q y dw0 cid st)
  to-placed None q y dw0 cid st is = tt
  to-placed (Some cq) q y dw0 cid st is =
      let test : ℕ → Bool = mapped (regions_of given) in
      let there = found-has (IsCompletionInPlace test) c.completion_queues q.completes_to cq ready.places is in
      let page = found-has IsCompletionOnPage c.completion_queues q.completes_to cq ready.pages is in
      by_test (IsPlaced given) (is_full cq.size cq.head cq.tail) _ _ (λ _. tt)
      (λ _. (slot-aligned cq.base cq.tail page, length-completion dw0 q.head y cid cq.phase st, slot-mapped test cq there))

  from-placed : (found : Option SubmissionQueue) (y dw0 cid : ℕ) (st : StatusField) → IsPlaced given (post_from found c y dw0 cid st)
  from-placed None y dw0 cid st = tt
  from-placed (Some q) y dw0 cid st = to-placed (completion_queue c q.completes_to) q y dw0 cid st refl

  -- the completion of such a controller
  pub ready-placed : (y dw0 cid : ℕ) (st : StatusField) → IsPlaced given (post c y dw0 cid st)
  unfolding post
  ready-placed y dw0 cid st = from-placed (submission_queue c y) y dw0 cid st

-- that of a controller whose queues are in place, and begin with pages
pub post-placed-of : (given : Guest) (c : Controller) → QueuesInPlace (mapped (regions_of given)) c → QueuesOnPages c → (y dw0 cid : ℕ) (st : StatusField)
    → IsPlaced given (post c y dw0 cid st)
post-placed-of given c place on = ready-placed given c (record { places = place.completion_queues; pages = on.completion_queues })

-- and that of a guest
pub post-placed : (geometry : Geometry) (o : Owner) → QueuesInPlace (mapped (regions_of o.given)) o.controller → QueuesOnPages o.controller
    → (y dw0 cid : ℕ) (st : StatusField) → IsPlaced o.given (post o.controller y dw0 cid st)
post-placed geometry o place on = post-placed-of o.given o.controller place on
