-- What the admin queue does keeps a controller's parts together.
use Rattle.std.proofs.Common.{◌≡◌, ℕ, ◌+◌, ◌<◌, inl, inr, Bool, true, false, not, ◌||◌, ◌==◌, nat_lt, List, [], ◌∷◌, ◌++◌, set, slice_index, Option, Some, None}
use Rattle.std.proofs.Common.{IfSome, IsSome, is_some, is_none, arith, refl, sym, ◌∙◌, subst, eq-eqb, eqb-true}
use Rattle.std.specs.Bool.{⊤}
use Rattle.std.specs.List.{list_any}
use Rattle.std.proofs.lemmas.Bool.{cases_lt}
use Rattle.nv_entry.specs.Submission.{opcode_of, fuse_of, psdt_of, cid_of, prp1_of}
use Rattle.nv_entry.specs.Opcode.{admin_opcode}
use Rattle.nv_entry.specs.Status.{StatusField}
use Rattle.nv_entry.specs.declared.opcode.AdminOpcode.{AdminOpcode}
use Rattle.nv_entry.specs.declared.opcode.AdminOpcode.TheVariants.{DeleteIoSubmissionQueue, CreateIoSubmissionQueue, GetLogPage}
use Rattle.nv_entry.specs.declared.opcode.AdminOpcode.TheVariants.{DeleteIoCompletionQueue, CreateIoCompletionQueue, Identify}
use Rattle.nv_entry.specs.declared.opcode.AdminOpcode.TheVariants.{Abort, SetFeatures, GetFeatures, AsynchronousEventRequest}
use Rattle.nv_entry.specs.declared.status_code.StatusCode.{StatusCode}
use Rattle.nv_entry.specs.declared.status_code.StatusCode.TheVariants as code
use Rattle.nv_model.specs.Memory.{bytes_from}
use Rattle.nv_model.specs.Reading.{Reading, Faulty, TooLong, Spells, first_failing}
use Rattle.nv_model.specs.Queue.{SubmissionQueue, new_completion, new_submission, sqe_size}
use Rattle.nv_model.specs.Controller.{Controller, Deletion, Posted, completion_queue, front, is_enabled, is_ready, post, submission_queue, took, took_of, with_submission}
use Rattle.nv_model.specs.Admin.{AdminStep, AdminEffect, Hidden, NothingToDo, QueueFull, Shown, Stepped, Structure, admin, admin_command}
use Rattle.nv_model.specs.Admin.{admin_ready, answered, checked, completes_to_checks, completion_id, contiguous, create_completion}
use Rattle.nv_model.specs.Admin.{create_submission, delete_completion, delete_found, delete_submission, done_by, done_with_opcode, finish_deletion}
use Rattle.nv_model.specs.Admin.{front_command, identified, identify_by, identify_reading, is_queue_full, new_queue_checks}
use Rattle.nv_model.specs.Admin.{number_of_queues, place_checks, qid, qsize, selector, shown, stepped, uses, vector_of, with_answer, with_completion_posted}
use Rattle.nv_model.specs.Running.{GoTogether, IsTogether}
use Rattle.nv_model.proofs.Endings.{and-true, first_failing-none, not-false}
use Rattle.nv_model.proofs.QueuesKept.{by_test}
use Rattle.nv_model.proofs.Together.{completion-gone, completion-put, deletion-put, submission-gone, submission-put, there-put}
use Rattle.nv_model.proofs.TogetherKept.{IsBehind, IsPosted, front-may, post-together, took-together}
use Rattle.nv_model.specs.Limits.{last_queue, most_requests, most_slots}

-- behind an admin command: EN is still 1, and nothing was taken
pub record IsDone (taken : List ℕ) (done : AdminEffect) : Type 0 where
  pub together : IsTogether done.controller
  pub same : done.controller.taken ≡ taken
  pub on : is_enabled done.controller ≡ true

-- behind an admin step
abbrev pub IsAdminBehind : Controller → AdminStep → Type 0
IsAdminBehind c NothingToDo = ⊤
IsAdminBehind c QueueFull = ⊤
IsAdminBehind c (Stepped d memory) = IsBehind c d

-- ---- checks

or-false : (a b : Bool) → (a || b) ≡ false → (a ≡ false) × (b ≡ false)
or-false true b neither = cc
or-false false b neither = (refl, neither)

not-zero : (n : ℕ) → (n == 0) ≡ false → 0 < n
not-zero n some =
    elim (cases_lt 0 n) [
      | inl more ↦ more
      | inr none ↦ let is : n ≡ 0 = omega arith in let bad : (n == 0) ≡ true = eq-eqb n 0 is in cc
    ]

none-some : {A : Type 0} (o : Option A) → is_none o ≡ false → IsSome o
none-some None bad = cc
none-some (Some a) is = refl

new_queue_checks-behind : (there : Bool) (entry : List ℕ) (others : List (Bool × StatusCode))
    → first_failing (new_queue_checks there entry ++ others) ≡ None → first_failing others ≡ None
new_queue_checks-behind there entry others fine =
    let third : List (Bool × StatusCode) = (contiguous entry == 0, code.InvalidField) ∷ others in
    let second : List (Bool × StatusCode) = (qsize entry == 0 || nat_lt most_slots (qsize entry + 1), code.InvalidQueueSize) ∷ third in
    let one = (first_failing-none (qid entry == 0 || nat_lt last_queue (qid entry) || there) code.InvalidQueueIdentifier second fine).1 in
    let two = (first_failing-none (qsize entry == 0 || nat_lt most_slots (qsize entry + 1)) code.InvalidQueueSize third one).1 in
    (first_failing-none (contiguous entry == 0) code.InvalidField others two).1

completes_to_checks-there : (c : Controller) (entry : List ℕ) (others : List (Bool × StatusCode))
    → first_failing (completes_to_checks c entry ++ others) ≡ None
    → IsSome (completion_queue c (completion_id entry))
completes_to_checks-there c entry others fine =
    let second : List (Bool × StatusCode) = (is_none (completion_queue c (completion_id entry)), code.CompletionQueueInvalid) ∷ others in
    let behind = (first_failing-none (completion_id entry == 0 || nat_lt last_queue (completion_id entry)) code.InvalidQueueIdentifier second fine).1 in
    none-some (completion_queue c (completion_id entry)) (first_failing-none (is_none (completion_queue c (completion_id entry))) code.CompletionQueueInvalid others behind).0

-- ---- admin commands

module _ (mapped : ℕ → Bool) (entry : List ℕ) (c : Controller) (memory : ℕ → ℕ) (on : is_enabled c ≡ true) (idle : c.deletion ≡ None) (g : IsTogether c) where
  -- nothing changes
  unchanged : (answer : Option (ℕ × StatusField)) (behind : ℕ → ℕ)
      → IsDone c.taken (record { controller = c; memory = behind; answer = answer })
  unchanged answer behind = record { together = g; same = refl; on = on }

  checked-together : (o : Option StatusCode) (done : AdminEffect) → (o ≡ None → IsDone c.taken done)
      → IsDone c.taken (checked o c memory done)
  checked-together None done goes = goes refl
  checked-together (Some why) done goes = unchanged _ memory

  create_submission-together : IsDone c.taken (create_submission mapped entry c memory)
  create_submission-together =
      checked-together _ _ (λ fine.
      let behind = new_queue_checks-behind (is_some (submission_queue c (qid entry))) entry (completes_to_checks c entry ++ place_checks mapped sqe_size entry) fine in
      let there = completes_to_checks-there c entry (place_checks mapped sqe_size entry) behind in
      record {
        together =
            submission-put (is_enabled c) c.ready c.submission c.completion_queues c.taken c.deletion on (qid entry)
            (new_submission (prp1_of entry) (qsize entry + 1) (completion_id entry)) there g;
        same = refl;
        on = on;
      })

  create_completion-together : IsDone c.taken (create_completion mapped entry c memory)
  create_completion-together =
      checked-together _ _ (λ fine.
      record {
        together = completion-put (is_enabled c) c.ready c.submission c.completion_queues c.taken c.deletion on (qid entry) (new_completion (prp1_of entry) (qsize entry + 1) (vector_of entry)) g;
        same = refl;
        on = on;
      })

  delete_completion-together : IsDone c.taken (delete_completion entry c memory)
  delete_completion-together =
      checked-together _ _ (λ fine.
      let second : List (Bool × StatusCode) = (list_any (uses (qid entry)) c.submission, code.InvalidQueueDeletion) ∷ [] in
      let first = first_failing-none (qid entry == 0 || is_none (completion_queue c (qid entry))) code.InvalidQueueIdentifier second fine in
      let io = not-zero (qid entry) (or-false (qid entry == 0) (is_none (completion_queue c (qid entry))) first.0).0 in
      let unused = (first_failing-none (list_any (uses (qid entry)) c.submission) code.InvalidQueueDeletion [] first.1).0 in
      record {
        together = completion-gone (is_enabled c) c.ready c.submission c.completion_queues c.taken c.deletion on (qid entry) io unused g;
        same = refl;
        on = on;
      })

  delete_found-together : (found : Option SubmissionQueue) → submission_queue c (qid entry) ≡ found → 0 < qid entry
      → IsDone c.taken (delete_found found entry c memory)
  delete_found-together None is io = unchanged _ memory
  delete_found-together (Some q) is io =
      by_test (IsDone c.taken) (slice_index c.taken (qid entry) == 0) _ _
      (λ none. record {
        together =
            subst (λ (d : Option Deletion). GoTogether (is_enabled c) c.ready (set c.submission (qid entry) None) c.completion_queues c.taken d) (sym idle)
            (submission-gone (is_enabled c) c.ready c.submission c.completion_queues c.taken c.deletion on (qid entry) io (eqb-true (slice_index c.taken (qid entry)) 0 none) g);
        same = refl;
        on = on;
      })
      (λ _. record { together = closes q is io; same = refl; on = on })
    where
      closes : (q : SubmissionQueue) → submission_queue c (qid entry) ≡ Some q → 0 < qid entry
          → GoTogether (is_enabled c) c.ready (set c.submission (qid entry) (Some (record q { closing = true })))
          c.completion_queues c.taken (Some (record { cid = cid_of entry; queue = qid entry }))
      closes q is io =
          let completes = subst (λ o. IfSome o (λ (s : SubmissionQueue). IsSome (completion_queue c s.completes_to))) is (g.completes (qid entry)) in
          let was : IsSome (submission_queue c (qid entry)) = subst (λ (o : Option SubmissionQueue). IsSome o) (sym is) refl in
          deletion-put (is_enabled c) c.ready (set c.submission (qid entry) (Some (record q { closing = true }))) c.completion_queues c.taken c.deletion on
          (record { cid = cid_of entry; queue = qid entry }) io (there-put c.submission (qid entry) (record q { closing = true }) (qid entry) was)
          (submission-put (is_enabled c) c.ready c.submission c.completion_queues c.taken c.deletion on (qid entry) (record q { closing = true }) completes g)

  delete_submission-together : IsDone c.taken (delete_submission entry c memory)
  delete_submission-together =
      by_test (IsDone c.taken) (qid entry == 0) _ _ (λ _. unchanged _ memory)
      (λ io. delete_found-together (submission_queue c (qid entry)) refl (not-zero (qid entry) io))

  identified-together : (bytes : List ℕ) (reading : Reading) → IsDone c.taken (identified bytes reading c memory)
  identified-together bytes (Spells pieces) = unchanged _ _
  identified-together bytes (Faulty why) = unchanged _ memory
  identified-together bytes TooLong = unchanged _ memory

  identify_by-together : (what : Shown) → IsDone c.taken (identify_by what mapped entry c memory)
  identify_by-together (Hidden why) = unchanged _ memory
  identify_by-together (Structure bytes) = identified-together bytes (identify_reading mapped entry)

  done_by-together : (opcode : AdminOpcode) (blocks : ℕ) → IsDone c.taken (done_by opcode mapped blocks entry c memory)
  done_by-together DeleteIoSubmissionQueue blocks = delete_submission-together
  done_by-together CreateIoSubmissionQueue blocks = create_submission-together
  done_by-together GetLogPage blocks = unchanged _ memory
  done_by-together DeleteIoCompletionQueue blocks = delete_completion-together
  done_by-together CreateIoCompletionQueue blocks = create_completion-together
  done_by-together Identify blocks = identify_by-together (shown blocks entry)
  done_by-together Abort blocks = unchanged _ memory
  done_by-together SetFeatures blocks = checked-together _ _ (λ fine. unchanged _ memory)
  done_by-together GetFeatures blocks =
      by_test (IsDone c.taken) (selector entry == number_of_queues) _ _ (λ _. unchanged _ memory) (λ _. unchanged _ memory)
  done_by-together AsynchronousEventRequest blocks =
      by_test (IsDone c.taken) (nat_lt c.held_requests most_requests) _ _ (λ _. record { together = g; same = refl; on = on }) (λ _. unchanged _ memory)

  done_with_opcode-together : (opcode : Option AdminOpcode) (blocks : ℕ)
      → IsDone c.taken (done_with_opcode opcode mapped blocks entry c memory)
  done_with_opcode-together None blocks = unchanged _ memory
  done_with_opcode-together (Some opcode) blocks =
      by_test (IsDone c.taken) (psdt_of entry == 0) _ _ (λ _. done_by-together opcode blocks) (λ _. unchanged _ memory)

  pub admin_command-together : (blocks : ℕ) → IsDone c.taken (admin_command mapped blocks entry c memory)
  unfolding admin_command
  admin_command-together blocks =
      by_test (IsDone c.taken) (fuse_of entry == 0) _ _ (λ _. done_with_opcode-together (admin_opcode (opcode_of entry)) blocks) (λ _. unchanged _ memory)

-- ---- admin steps

-- an answer is posted, behind a command that took nothing
answer-together : (taken : List ℕ) (d : Controller) (o : Option Posted) (memory : ℕ → ℕ) → d.taken ≡ taken
    → IfSome o (IsPosted d 0) → (c : Controller) → c.taken ≡ taken
    → IsAdminBehind c (with_completion_posted o memory)
answer-together taken d None memory same is c was = tt
answer-together taken d (Some r) memory same is c was = (is.0, is.1 ∙ same ∙ sym was)

with_answer-together : (c : Controller) (done : AdminEffect) (answer : Option (ℕ × StatusField)) (cid : ℕ)
    → IsDone c.taken done → IsAdminBehind c (with_answer answer cid done.controller done.memory)
with_answer-together c done None cid is = (is.together, is.same)
with_answer-together c done (Some answer) cid is =
    answer-together c.taken done.controller (post done.controller 0 answer.0 cid answer.1) done.memory is.same (post-together done.controller 0 answer.0 cid answer.1 is.on is.together) c refl

stepped-together : (c : Controller) (done : AdminEffect) (cid : ℕ) → IsDone c.taken done
    → IsAdminBehind c (stepped done cid)
stepped-together c done cid is = with_answer-together c done done.answer cid is

-- what took changes
took-keeps : (c : Controller) (y : ℕ) → (is_enabled (took c y) ≡ is_enabled c) × ((took c y).deletion ≡ c.deletion)
unfolding took
took-keeps c y = by_queue (submission_queue c y)
  where
    by_queue : (o : Option SubmissionQueue)
        → (is_enabled (took_of o c y) ≡ is_enabled c) × ((took_of o c y).deletion ≡ c.deletion)
    by_queue None = (refl, refl)
    by_queue (Some q) = (refl, refl)

front_command-together : (mapped : ℕ → Bool) (at : Option ℕ) (blocks : ℕ) (c : Controller) (memory : ℕ → ℕ)
    → c.deletion ≡ None → IsTogether c → front c 0 ≡ at
    → IsAdminBehind c (front_command at mapped blocks c memory)
front_command-together mapped None blocks c memory idle g is = tt
front_command-together mapped (Some addr) blocks c memory idle g is =
    by_test (IsAdminBehind c) (is_queue_full (completion_queue c 0)) _ _ (λ _. tt)
    (λ _.
    let may = front-may c 0 addr is in
    let taken = took-together c 0 may g in
    let keeps = took-keeps c 0 in
    let entry = bytes_from memory addr sqe_size in
    let done = admin_command-together mapped entry (took c 0) memory (keeps.0 ∙ may.on) (keeps.1 ∙ idle) taken.0 blocks in
    stepped-together c (admin_command mapped blocks entry (took c 0) memory) (cid_of entry)
    (record { together = done.together; same = done.same ∙ taken.1; on = done.on }))

finish_deletion-together : (d : Deletion) (c : Controller) (memory : ℕ → ℕ) → is_enabled c ≡ true → 0 < d.queue
    → IsTogether c → IsAdminBehind c (finish_deletion d c memory)
finish_deletion-together d c memory on io g =
    by_test (IsAdminBehind c) (not (slice_index c.taken d.queue == 0)) _ _ (λ _. tt) (λ none.
    by_test (IsAdminBehind c) (is_queue_full (completion_queue c 0)) _ _ (λ _. tt) (λ _.
    stepped-together c (answered 0 (record (with_submission c d.queue None) { deletion = None }) memory) d.cid
    (record {
      together =
          submission-gone (is_enabled c) c.ready c.submission c.completion_queues c.taken c.deletion on d.queue io
          (eqb-true (slice_index c.taken d.queue) 0 (not-false (slice_index c.taken d.queue == 0) none)) g;
      same = refl;
      on = on;
    })))

admin_ready-together : (mapped : ℕ → Bool) (waiting : Option Deletion) (blocks : ℕ) (c : Controller) (memory : ℕ → ℕ)
    → is_enabled c ≡ true → IsTogether c → c.deletion ≡ waiting
    → IsAdminBehind c (admin_ready waiting mapped blocks c memory)
admin_ready-together mapped (Some d) blocks c memory on g is =
    let named = subst (λ o. IfSome o (λ (w : Deletion). (0 < w.queue) × IsSome (submission_queue c w.queue))) is g.deletion_there in
    finish_deletion-together d c memory on named.0 g
admin_ready-together mapped None blocks c memory on g is =
    front_command-together mapped (front c 0) blocks c memory is g refl

pub admin-together : (mapped : ℕ → Bool) (blocks : ℕ) (c : Controller) (memory : ℕ → ℕ) → IsTogether c
    → IsAdminBehind c (admin mapped blocks c memory)
unfolding admin
admin-together mapped blocks c memory g =
    by_test (IsAdminBehind c) (is_ready c) _ _
    (λ up. admin_ready-together mapped c.deletion blocks c memory (and-true (is_enabled c) c.ready up).0 g refl) (λ _. tt)
