-- Where the admin queue has something to do.
use Rattle.std.proofs.Common.{◌≡◌, ℕ, ◌+◌, ◌<◌, Bool, true, false, cond, not, ◌||◌, ◌==◌, nat_lt, eq-eqb, inl, inr, List, [], ◌∷◌, ◌++◌, length, set, slice_get}
use Rattle.std.proofs.Common.{slice_index, Option, Some, None, is_some, is_none, IfSome, IsSome, arith, refl, sym, ap, ◌∙◌, subst}
use Rattle.std.specs.List.{list_any}
use Rattle.std.proofs.lemmas.Bool.{cases_lt}
use Rattle.nv_admin.proofs.Effects.{queue_of-set_other}
use Rattle.nv_admin.proofs.Steps.{admin-commands, admin-deletes, admin-idle}
use Rattle.nv_admin.specs.Event.{is_stepped}
use Rattle.nv_entry.specs.Opcode.{admin_opcode}
use Rattle.nv_entry.specs.Status.{StatusField}
use Rattle.nv_entry.specs.Submission.{cid_of, fuse_of, opcode_of, psdt_of}
use Rattle.nv_entry.specs.declared.opcode.AdminOpcode.{AdminOpcode}
use Rattle.nv_entry.specs.declared.opcode.AdminOpcode.TheVariants.{DeleteIoSubmissionQueue, CreateIoSubmissionQueue, GetLogPage}
use Rattle.nv_entry.specs.declared.opcode.AdminOpcode.TheVariants.{DeleteIoCompletionQueue, CreateIoCompletionQueue, Identify}
use Rattle.nv_entry.specs.declared.opcode.AdminOpcode.TheVariants.{Abort, SetFeatures, GetFeatures, AsynchronousEventRequest}
use Rattle.nv_entry.specs.declared.status_code.StatusCode.{StatusCode}
use Rattle.nv_entry.specs.declared.status_code.StatusCode.TheVariants as code
use Rattle.nv_model.proofs.Endings.{and-true, first_failing-none}
use Rattle.nv_model.proofs.QueuesKept.{by_test}
use Rattle.nv_model.specs.Admin.{AdminEffect, AdminStep, Hidden, NothingToDo, QueueFull, Shown, Structure, admin, admin_command}
use Rattle.nv_model.specs.Admin.{answered, checked, completes_to_checks, contiguous, create_completion, create_submission}
use Rattle.nv_model.specs.Admin.{delete_completion, delete_found, delete_submission, done_by, done_with_opcode}
use Rattle.nv_model.specs.Admin.{front_command, identified, identify_by, identify_reading, is_queue_full, new_queue_checks, number_of_queues}
use Rattle.nv_model.specs.Admin.{place_checks, qid, qsize, selector, shown, stepped, uses, with_answer, with_completion_posted}
use Rattle.nv_model.specs.Controller.{Controller, Deletion, Posted, completion_queue, front, is_enabled, is_ready, post, queue_of, submission_queue, took, took_of, with_submission}
use Rattle.nv_model.specs.Limits.{last_queue, most_requests, most_slots}
use Rattle.nv_model.specs.Memory.{bytes_from}
use Rattle.nv_model.specs.Queue.{CompletionQueue, SubmissionQueue, cqe_size, front_taken, is_full, sqe_size}
use Rattle.nv_model.specs.Reading.{Reading, Faulty, TooLong, Spells, first_failing}
use Rattle.nv_vctl.specs.Vctl.{IsWhole}

-- ---- what a command keeps of the admin queue

or-false : (a b : Bool) → (a || b) ≡ false → (a ≡ false) × (b ≡ false)
or-false true b neither = cc
or-false false b neither = (refl, neither)

not-zero : (n : ℕ) → (n == 0) ≡ false → 0 < n
not-zero n some =
    elim (cases_lt 0 n) [
      | inl more ↦ more
      | inr none ↦ let is : n ≡ 0 = omega arith in let bad : (n == 0) ≡ true = eq-eqb n 0 is in cc
    ]

-- a new queue is no admin queue
new-io : (there : Bool) (entry : List ℕ) (others : List (Bool × StatusCode)) → first_failing (new_queue_checks there entry ++ others) ≡ None → 0 < qid entry
new-io there entry others fine =
    let third : List (Bool × StatusCode) = (contiguous entry == 0, code.InvalidField) ∷ others in
    let second : List (Bool × StatusCode) = (qsize entry == 0 || nat_lt most_slots (qsize entry + 1), code.InvalidQueueSize) ∷ third in
    let first = (first_failing-none (qid entry == 0 || nat_lt last_queue (qid entry) || there) code.InvalidQueueIdentifier second fine).0 in
    let unnamed = (or-false (qid entry == 0 || nat_lt last_queue (qid entry)) there first).0 in
    not-zero (qid entry) (or-false (qid entry == 0) (nat_lt last_queue (qid entry)) unnamed).0

-- the admin queue is as it was
record KeepsAdmin (c : Controller) (done : AdminEffect) : Type 0 where
  from : submission_queue done.controller 0 ≡ submission_queue c 0
  to : completion_queue done.controller 0 ≡ completion_queue c 0

module _ (mapped : ℕ → Bool) (entry : List ℕ) (c : Controller) (memory : ℕ → ℕ) where
  abbrev Keeps : AdminEffect → Type 0
  Keeps done = KeepsAdmin c done

  unchanged : (behind : ℕ → ℕ) (answer : Option (ℕ × StatusField)) → Keeps (record { controller = c; memory = behind; answer = answer })
  unchanged behind answer = record { from = refl; to = refl }

  checked-keeps : (o : Option StatusCode) (done : AdminEffect) → (o ≡ None → Keeps done) → Keeps (checked o c memory done)
  checked-keeps None done goes = goes refl
  checked-keeps (Some why) done goes = unchanged _ _

  create_submission-keeps : Keeps (create_submission mapped entry c memory)
  create_submission-keeps =
      checked-keeps _ _ (λ fine.
      record {
        from =
            queue_of-set_other c.submission (qid entry) _
            (new-io (is_some (submission_queue c (qid entry))) entry (completes_to_checks c entry ++ place_checks mapped sqe_size entry) fine);
        to = refl;
      })

  create_completion-keeps : Keeps (create_completion mapped entry c memory)
  create_completion-keeps =
      checked-keeps _ _ (λ fine.
      record {
        from = refl;
        to =
            queue_of-set_other c.completion_queues (qid entry) _
            (new-io (is_some (completion_queue c (qid entry))) entry (place_checks mapped cqe_size entry) fine);
      })

  delete_completion-keeps : Keeps (delete_completion entry c memory)
  delete_completion-keeps =
      checked-keeps _ _ (λ fine.
      let second : List (Bool × StatusCode) = (list_any (uses (qid entry)) c.submission, code.InvalidQueueDeletion) ∷ [] in
      let first = first_failing-none (qid entry == 0 || is_none (completion_queue c (qid entry))) code.InvalidQueueIdentifier second fine in
      record {
        from = refl;
        to =
            queue_of-set_other c.completion_queues (qid entry) None
            (not-zero (qid entry) (or-false (qid entry == 0) (is_none (completion_queue c (qid entry))) first.0).0);
      })

  delete_found-keeps : (found : Option SubmissionQueue) → 0 < qid entry → Keeps (delete_found found entry c memory)
  delete_found-keeps None io = unchanged _ _
  delete_found-keeps (Some q) io =
      by_test Keeps (slice_index c.taken (qid entry) == 0) _ _
      (λ none. record { from = queue_of-set_other c.submission (qid entry) None io; to = refl })
      (λ some. record { from = queue_of-set_other c.submission (qid entry) _ io; to = refl })

  delete_submission-keeps : Keeps (delete_submission entry c memory)
  delete_submission-keeps =
      by_test Keeps (qid entry == 0) _ _ (λ _. unchanged _ _) (λ io. delete_found-keeps (submission_queue c (qid entry)) (not-zero (qid entry) io))

  identified-keeps : (bytes : List ℕ) (reading : Reading) → Keeps (identified bytes reading c memory)
  identified-keeps bytes (Spells pieces) = unchanged _ _
  identified-keeps bytes (Faulty why) = unchanged _ _
  identified-keeps bytes TooLong = unchanged _ _

  identify_by-keeps : (what : Shown) → Keeps (identify_by what mapped entry c memory)
  identify_by-keeps (Hidden why) = unchanged _ _
  identify_by-keeps (Structure bytes) = identified-keeps bytes (identify_reading mapped entry)

  done_by-keeps : (opcode : AdminOpcode) (blocks : ℕ) → Keeps (done_by opcode mapped blocks entry c memory)
  done_by-keeps DeleteIoSubmissionQueue blocks = delete_submission-keeps
  done_by-keeps CreateIoSubmissionQueue blocks = create_submission-keeps
  done_by-keeps GetLogPage blocks = unchanged _ _
  done_by-keeps DeleteIoCompletionQueue blocks = delete_completion-keeps
  done_by-keeps CreateIoCompletionQueue blocks = create_completion-keeps
  done_by-keeps Identify blocks = identify_by-keeps (shown blocks entry)
  done_by-keeps Abort blocks = unchanged _ _
  done_by-keeps SetFeatures blocks = checked-keeps _ _ (λ fine. unchanged _ _)
  done_by-keeps GetFeatures blocks = by_test Keeps (selector entry == number_of_queues) _ _ (λ _. unchanged _ _) (λ _. unchanged _ _)
  done_by-keeps AsynchronousEventRequest blocks = by_test Keeps (nat_lt c.held_requests most_requests) _ _ (λ _. record { from = refl; to = refl }) (λ _. unchanged _ _)

  with_opcode-keeps : (opcode : Option AdminOpcode) (blocks : ℕ) → Keeps (done_with_opcode opcode mapped blocks entry c memory)
  with_opcode-keeps None blocks = unchanged _ _
  with_opcode-keeps (Some opcode) blocks = by_test Keeps (psdt_of entry == 0) _ _ (λ _. done_by-keeps opcode blocks) (λ _. unchanged _ _)

  command-keeps : (blocks : ℕ) → Keeps (admin_command mapped blocks entry c memory)
  unfolding admin_command
  command-keeps blocks =
      by_test Keeps (fuse_of entry == 0) _ _ (λ _. with_opcode-keeps (admin_opcode (opcode_of entry)) blocks) (λ _. unchanged _ _)

-- ---- a completion is posted

-- an admin queue that completes where there is room
record HasRoom (c : Controller) : Type 0 where
  q : SubmissionQueue
  to : CompletionQueue
  from_there : submission_queue c 0 ≡ Some q
  completes : q.completes_to ≡ 0
  to_there : completion_queue c 0 ≡ Some to
  room : is_full to.size to.head to.tail ≡ false

posts : (c : Controller) → HasRoom c → (dw0 cid : ℕ) (st : StatusField) → is_some (post c 0 dw0 cid st) ≡ true
unfolding post
posts c h dw0 cid st = rw (h.from_there, h.completes, h.to_there, h.room) refl

by_posted : (o : Option Posted) (memory : ℕ → ℕ) → is_some o ≡ true → is_stepped (with_completion_posted o memory) ≡ true
by_posted None memory e = cc
by_posted (Some p) memory e = refl

answers : (answer : Option (ℕ × StatusField)) (cid : ℕ) (c : Controller) (memory : ℕ → ℕ) → HasRoom c → is_stepped (with_answer answer cid c memory) ≡ true
answers None cid c memory h = refl
answers (Some a) cid c memory h = by_posted (post c 0 a.0 cid a.1) memory (posts c h a.0 cid a.1)

-- as long as the admin queue is as it was
kept-room : (c d : Controller) → HasRoom c → submission_queue d 0 ≡ submission_queue c 0 → completion_queue d 0 ≡ completion_queue c 0 → HasRoom d
kept-room c d h from to =
    record { q = h.q; to = h.to; from_there = from ∙ h.from_there; completes = h.completes; to_there = to ∙ h.to_there; room = h.room }

set-first : {Q : Type 0} (xs : List (Option Q)) (o : Option Q) → 0 < length xs → queue_of (slice_get (set xs 0 o) 0) ≡ o
set-first [] o some = absurd (omega arith)
set-first (x ∷ xs) o some = refl

some-queue : {Q : Type 0} (o : Option Q) → IsSome o → (q : Q) × (o ≡ Some q)
some-queue None some = cc
some-queue (Some q) some = (q, refl)

module _ (c : Controller) (w : IsWhole c) (up : is_ready c ≡ true) where
  both : (is_enabled c ≡ true) × (c.ready ≡ true)
  both = and-true (is_enabled c) c.ready up

  has-room : is_queue_full (completion_queue c 0) ≡ false → HasRoom c
  has-room room =
      let there = w.together.admin_there both.0 both.1 in
      let from = some-queue (submission_queue c 0) there.0 in
      let to = some-queue (completion_queue c 0) there.1 in
      record {
        q = from.0;
        to = to.0;
        from_there = from.1;
        completes = subst (λ (o : Option SubmissionQueue). IfSome o (λ q. q.completes_to ≡ 0)) from.1 w.admin;
        to_there = to.1;
        room = sym (ap is_queue_full to.1) ∙ room;
      }

  -- a command is taken
  took-room : HasRoom c → HasRoom (took c 0)
  unfolding took
  took-room h =
      subst (λ (o : Option SubmissionQueue). HasRoom (took_of o c 0)) (sym h.from_there)
      (record {
        q = front_taken h.q;
        to = h.to;
        from_there = set-first c.submission (Some (front_taken h.q)) (let many = w.together.submission_count in omega arith);
        completes = h.completes;
        to_there = h.to_there;
        room = h.room;
      })

  module _ (mapped : ℕ → Bool) (blocks : ℕ) (memory : ℕ → ℕ) where
    front-stepped : HasRoom c → is_queue_full (completion_queue c 0) ≡ false → (at : Option ℕ)
        → is_stepped (front_command at mapped blocks c memory) ≡ is_some at
    front-stepped h room None = refl
    front-stepped h room (Some addr) =
        let entry = bytes_from memory addr sqe_size in
        let done = admin_command mapped blocks entry (took c 0) memory in
        let keeps = command-keeps mapped entry (took c 0) memory blocks in
        ap (λ (b : Bool). is_stepped (cond b QueueFull (stepped done (cid_of entry)))) room
        ∙ answers done.answer (cid_of entry) done.controller done.memory (kept-room (took c 0) done.controller (took-room h) keeps.from keeps.to)

    full-front : is_queue_full (completion_queue c 0) ≡ true → (at : Option ℕ) → is_stepped (front_command at mapped blocks c memory) ≡ false
    full-front full None = refl
    full-front full (Some addr) = rw full refl

    full-deletion : is_queue_full (completion_queue c 0) ≡ true → (d : Deletion) (b : Bool) (s : AdminStep)
        → is_stepped (cond b NothingToDo (cond (is_queue_full (completion_queue c 0)) QueueFull s)) ≡ false
    full-deletion full d true s = refl
    full-deletion full d false s = rw full refl

    room-deletion : (b : Bool) (s : AdminStep) → is_queue_full (completion_queue c 0) ≡ false → is_stepped s ≡ true
        → is_stepped (cond (not b) NothingToDo (cond (is_queue_full (completion_queue c 0)) QueueFull s)) ≡ b
    room-deletion true s room steps = rw room steps
    room-deletion false s room steps = refl

    -- the completion queue is full
    pub full-not : is_queue_full (completion_queue c 0) ≡ true → is_stepped (admin mapped blocks c memory) ≡ false
    full-not full = by_deletion c.deletion refl
      where
        by_deletion : (o : Option Deletion) → c.deletion ≡ o → is_stepped (admin mapped blocks c memory) ≡ false
        by_deletion None none = ap is_stepped (admin-commands mapped blocks c memory up none) ∙ full-front full (front c 0)
        by_deletion (Some d) waits =
            ap is_stepped (admin-deletes mapped blocks c memory d up waits)
            ∙ full-deletion full d (not (slice_index c.taken d.queue == 0)) _

    -- a deletion waits
    pub deletion-by : is_queue_full (completion_queue c 0) ≡ false → (d : Deletion) → c.deletion ≡ Some d
        → is_stepped (admin mapped blocks c memory) ≡ (slice_index c.taken d.queue == 0)
    deletion-by room d waits =
        let io = subst (λ (o : Option Deletion). IfSome o (λ x. (0 < x.queue) × IsSome (queue_of (slice_get c.submission x.queue)))) waits w.together.deletion_there in
        let behind : Controller = record (with_submission c d.queue None) { deletion = None } in
        ap is_stepped (admin-deletes mapped blocks c memory d up waits)
        ∙ room-deletion (slice_index c.taken d.queue == 0) _ room
        (answers (answered 0 behind memory).answer d.cid behind memory (kept-room c behind (has-room room) (queue_of-set_other c.submission d.queue None io.0) refl))

    -- none does
    pub command-by : is_queue_full (completion_queue c 0) ≡ false → c.deletion ≡ None → is_stepped (admin mapped blocks c memory) ≡ is_some (front c 0)
    command-by room none =
        ap is_stepped (admin-commands mapped blocks c memory up none) ∙ front-stepped (has-room room) room (front c 0)

-- it is not ready
pub idle-not : (mapped : ℕ → Bool) (blocks : ℕ) (c : Controller) (memory : ℕ → ℕ) → is_ready c ≡ false → is_stepped (admin mapped blocks c memory) ≡ false
idle-not mapped blocks c memory down = ap is_stepped (admin-idle mapped blocks c memory down)
