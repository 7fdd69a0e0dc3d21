-- An admin step in two memories with the same command at the front: the same is done in both, and what neither the command's destination nor the slot of
-- its completion has stays as it was.
use Rattle.std.proofs.Common.{◌≡◌, ℕ, ◌+◌, ◌*◌, ◌≤◌, ◌<◌, ◌⊎◌, inl, inr, Bool, true, false, cond, not, ◌==◌, List, [], ◌∷◌, length, slice_index, Option, Some}
use Rattle.std.proofs.Common.{None, IfSome, arith, refl, sym, ap, ◌∙◌, subst}
use Rattle.std.specs.List.{list_any}
use Rattle.std.proofs.lemmas.Bool.{cases_lt, eqb-false, or_parts}
use Rattle.nv_entry.proofs.CompletionLemmas.{length-completion}
use Rattle.nv_entry.specs.Status.{StatusField}
use Rattle.nv_entry.specs.Submission.{cid_of}
use Rattle.nv_mem.specs.Places.{At, Bucket, Place}
use Rattle.nv_model.proofs.MemoryAlike.{scattered-at, stored-at}
use Rattle.nv_model.proofs.MemoryLemmas.{stored-outside}
use Rattle.nv_model.proofs.QueuesKept.{by_test}
use Rattle.nv_model.proofs.TogetherKept.{front-may, took-together}
use Rattle.nv_model.specs.Admin.{AdminEffect, AdminStep, NothingToDo, QueueFull, Stepped, admin, admin_command, admin_ready, answered}
use Rattle.nv_model.specs.Admin.{finish_deletion, front_command, is_queue_full, stepped, with_answer, with_completion_posted}
use Rattle.nv_model.specs.Controller.{Controller, Deletion, Posted, completion_queue, front, is_ready, post, post_from, post_to, submission_queue, took, with_submission}
use Rattle.nv_model.specs.Footprint.{Named, admin_named}
use Rattle.nv_model.specs.Memory.{bytes_from, scattered, stored}
use Rattle.nv_model.specs.Private.{Shape}
use Rattle.nv_model.specs.Queue.{CompletionQueue, SubmissionQueue, cqe_size, is_full, sqe_size}
use Rattle.nv_model.specs.Running.{IsTogether}
use Rattle.nv_laws.specs.Related.{is_place_at}
use Rattle.nv_laws.proofs.related.Beginning.{awaits}
use Rattle.nv_laws.proofs.related.Disciplines.{never-both, not-so}
use Rattle.nv_laws.proofs.headline.Effects.{IsEffect, KeepsQueue, admin_completions, command-effect, deletion-effect, queue_behind, took-keeps}

-- ---- bytes

-- a byte at none of the places stays
scattered-apart : (m : ℕ → ℕ) (places : List Place) (bytes : List ℕ) (at : ℕ) → list_any (is_place_at at) places ≡ false
    → scattered m places bytes at ≡ m at
unfolding scattered
scattered-apart m [] bytes at none = refl
scattered-apart m (place ∷ places) [] at none = refl
scattered-apart m (At addr ∷ places) (byte ∷ bytes) at none =
    let parts = or_parts (addr == at) (list_any (is_place_at at) places) none in
    scattered-apart (stored m addr (byte ∷ [])) places bytes at parts.1 ∙ stored-outside m addr (byte ∷ []) at (beside parts.0)
  where
    beside : (addr == at) ≡ false → (at < addr) ⊎ (addr + 1 ≤ at)
    beside other =
        elim (cases_lt at addr) [
          | inl low ↦ inl low
          | inr from ↦ let apart = eqb-false addr at other in inr (omega (arith, from, apart))
        ]
scattered-apart m (Bucket ∷ places) (byte ∷ bytes) at none = scattered-apart m places bytes at none

-- ---- a completion

-- where a completion of the admin queue is posted
pub record IsPostedTo (d : Controller) (r : Posted) : Type 0 where
  pub cq : CompletionQueue
  pub queue : admin_completions d ≡ Some cq
  pub addr : r.addr ≡ cq.base + cqe_size * cq.tail
  pub bytes : length r.entry ≡ cqe_size

posted-to : (d : Controller) (dw0 cid : ℕ) (st : StatusField) → IfSome (post d 0 dw0 cid st) (IsPostedTo d)
unfolding post
posted-to d dw0 cid st = by_queue (submission_queue d 0) refl
  where
    by_found : (q : SubmissionQueue) (x : Option CompletionQueue) → submission_queue d 0 ≡ Some q → completion_queue d q.completes_to ≡ x
        → IfSome (post_to x d q 0 dw0 cid st) (IsPostedTo d)
    by_found q None from is = tt
    by_found q (Some cq) from is =
        by_test (λ o. IfSome o (IsPostedTo d)) (is_full cq.size cq.head cq.tail) _ _ (λ _. tt)
        (λ room.
        record {
          cq = cq;
          queue = ap (λ o. queue_behind o d.completion_queues) from ∙ is;
          addr = refl;
          bytes = length-completion dw0 q.head 0 cid cq.phase st;
        })

    by_queue : (o : Option SubmissionQueue) → submission_queue d 0 ≡ o → IfSome (post_from o d 0 dw0 cid st) (IsPostedTo d)
    by_queue None from = tt
    by_queue (Some q) from = by_found q (completion_queue d q.completes_to) from refl

-- ---- steps

-- two steps did the same: what was equal before is, and what is apart is as it was
pub data IsStepAlike (IsApart : ℕ → Type 0) (memory other : ℕ → ℕ) : AdminStep → AdminStep → Type 0 where
  BothNothing : IsStepAlike IsApart memory other NothingToDo NothingToDo
  BothFull : IsStepAlike IsApart memory other QueueFull QueueFull
  BothStepped : (d : Controller) (done also : ℕ → ℕ) → ((at : ℕ) → memory at ≡ other at → done at ≡ also at)
      → ((at : ℕ) → IsApart at → (done at ≡ memory at) × (also at ≡ other at))
      → IsStepAlike IsApart memory other (Stepped d done) (Stepped d also)

-- an address is beside a completion queue's next slot
abbrev pub IsBesideSlot : CompletionQueue → (at : ℕ) → Type 0
IsBesideSlot cq at = (at < cq.base + cqe_size * cq.tail) ⊎ (cq.base + cqe_size * cq.tail + cqe_size ≤ at)

module _ (IsApart : ℕ → Type 0) (memory other : ℕ → ℕ) where
  abbrev Alike : AdminStep → AdminStep → Type 0
  Alike = IsStepAlike IsApart memory other

  either-alike : (b : Bool) (x y u v : AdminStep) → (b ≡ true → Alike x u) → (b ≡ false → Alike y v) → Alike (cond b x y) (cond b u v)
  either-alike true x y u v so not_so = so refl
  either-alike false x y u v so not_so = not_so refl

  module _ (c : Controller) (slots : (at : ℕ) → IsApart at → (cq : CompletionQueue) → admin_completions c ≡ Some cq → IsBesideSlot cq at) where
    post-beside : (d : Controller) (r : Posted) → KeepsQueue c d → IsPostedTo d r → (at : ℕ) → IsApart at → (at < r.addr) ⊎ (r.addr + length r.entry ≤ at)
    post-beside d r keeps is at apart =
        let from = is.addr in
        let len = is.bytes in
        elim (slots at apart is.cq (keeps is.cq is.queue)) [
          | inl low ↦ inl (omega (arith, low, from))
          | inr high ↦ inr (omega (arith, high, from, len))
        ]

    module _ (d : Controller) (keeps : KeepsQueue c d) (done also : ℕ → ℕ) (same : (at : ℕ) → memory at ≡ other at → done at ≡ also at)
        (left : (at : ℕ) → IsApart at → (done at ≡ memory at) × (also at ≡ other at)) where
      posted-alike : (o : Option Posted) → IfSome o (IsPostedTo d)
          → Alike (with_completion_posted o done) (with_completion_posted o also)
      posted-alike None where_to = BothFull
      posted-alike (Some r) where_to =
          BothStepped r.controller (stored done r.addr r.entry) (stored also r.addr r.entry)
          (λ at e. stored-at done also r.addr r.entry at (same at e))
          (λ at apart.
          let beside = post-beside d r keeps where_to at apart in
          (stored-outside done r.addr r.entry at beside ∙ (left at apart).0, stored-outside also r.addr r.entry at beside ∙ (left at apart).1))

      answer-alike : (answer : Option (ℕ × StatusField)) (cid : ℕ) → Alike (with_answer answer cid d done) (with_answer answer cid d also)
      answer-alike None cid = BothStepped d done also same left
      answer-alike (Some answer) cid =
          posted-alike (post d 0 answer.0 cid answer.1) (posted-to d answer.0 cid answer.1)

    -- a command's effect, answered
    effect-alike : (named : List Named) (start : Controller) (done : (ℕ → ℕ) → AdminEffect) (cid : ℕ) → IsEffect named start done → KeepsQueue c start
        → ((at : ℕ) → IsApart at → list_any (awaits at) named ≡ false) → Alike (stepped (done memory) cid) (stepped (done other) cid)
    effect-alike named start done cid is keeps apart =
        let none : (at : ℕ) → IsApart at → list_any (is_place_at at) is.places ≡ false =
        λ at there. not-so (list_any (is_place_at at) is.places) (λ bad. never-both (list_any (awaits at) named) (is.within at bad) (apart at there)) in
        subst (λ e. Alike (stepped e cid) (stepped (done other) cid)) (sym (is.does memory))
        (subst (λ e. Alike (stepped (record { controller = is.behind; memory = scattered memory is.places is.bytes; answer = is.answer }) cid) (stepped e cid))
        (sym (is.does other))
        (answer-alike is.behind (λ cq e. keeps cq (is.queue cq e)) (scattered memory is.places is.bytes) (scattered other is.places is.bytes)
        (λ at e. scattered-at memory other is.places is.bytes at e)
        (λ at there. (scattered-apart memory is.places is.bytes at (none at there), scattered-apart other is.places is.bytes at (none at there))) is.answer cid))

    deletion-alike : (d : Deletion) → Alike (finish_deletion d c memory) (finish_deletion d c other)
    deletion-alike d =
        either-alike (not (slice_index c.taken d.queue == 0)) _ _ _ _ (λ _. BothNothing) (λ _.
        either-alike (is_queue_full (completion_queue c 0)) _ _ _ _ (λ _. BothFull) (λ _.
        effect-alike [] c (λ m. answered 0 (record (with_submission c d.queue None) { deletion = None }) m) d.cid (deletion-effect c d.queue) (λ cq e. e)
        (λ at apart. refl)))

    module _ (shape : Shape) (together : IsTogether c)
        (same : (addr : ℕ) → front c 0 ≡ Some addr → bytes_from other addr sqe_size ≡ bytes_from memory addr sqe_size)
        (names : (addr : ℕ) → front c 0 ≡ Some addr → (at : ℕ) → IsApart at
        → list_any (awaits at) (admin_named shape (bytes_from memory addr sqe_size)) ≡ false) where
      front-alike : (found : Option ℕ) → front c 0 ≡ found
          → Alike (front_command found shape.mapped shape.blocks c memory) (front_command found shape.mapped shape.blocks c other)
      front-alike None is = BothNothing
      front-alike (Some addr) is =
          let entry : List ℕ = bytes_from memory addr sqe_size in
          let completes = (took-together c 0 (front-may c 0 addr is) together).0.completes 0 in
          either-alike (is_queue_full (completion_queue c 0)) _ _ _ _ (λ _. BothFull)
          (λ _.
          subst (λ e. Alike (stepped (admin_command shape.mapped shape.blocks entry (took c 0) memory) (cid_of entry))
          (stepped (admin_command shape.mapped shape.blocks e (took c 0) other) (cid_of e))) (sym (same addr is))
          (effect-alike (admin_named shape entry) (took c 0) (λ m. admin_command shape.mapped shape.blocks entry (took c 0) m) (cid_of entry)
          (command-effect shape entry (took c 0) completes) (took-keeps c) (names addr is)))

      ready-alike : (waiting : Option Deletion)
          → Alike (admin_ready waiting shape.mapped shape.blocks c memory) (admin_ready waiting shape.mapped shape.blocks c other)
      ready-alike (Some d) = deletion-alike d
      ready-alike None = front-alike (front c 0) refl

      pub admin-alike : Alike (admin shape.mapped shape.blocks c memory) (admin shape.mapped shape.blocks c other)
      unfolding admin
      admin-alike = either-alike (is_ready c) _ _ _ _ (λ _. ready-alike c.deletion) (λ _. BothNothing)
