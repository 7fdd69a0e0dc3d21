-- What the admin queue does keeps what its queues have.
use Rattle.std.proofs.Common.{◌≡◌, ℕ, ◌+◌, ◌*◌, ◌%◌, Bool, true, false, not, ◌||◌, ◌==◌, nat_lt, nat_le, List, [], ◌∷◌, ◌++◌, slice_index, Option, Some, None}
use Rattle.std.proofs.Common.{is_some, is_none, arith, refl, eqb-true, ltb-false, eq-eqb, le-leb}
use Rattle.std.specs.Bool.{⊤}
use Rattle.nv_entry.specs.Submission.{opcode_of, fuse_of, psdt_of, cid_of, prp1_of}
use Rattle.nv_entry.specs.Opcode.{admin_opcode}
use Rattle.nv_entry.specs.Status.{StatusField}
use Rattle.nv_entry.specs.declared.opcode.AdminOpcode.{AdminOpcode}
use Rattle.nv_entry.specs.declared.opcode.AdminOpcode.TheVariants.{DeleteIoSubmissionQueue, CreateIoSubmissionQueue, GetLogPage}
use Rattle.nv_entry.specs.declared.opcode.AdminOpcode.TheVariants.{DeleteIoCompletionQueue, CreateIoCompletionQueue, Identify}
use Rattle.nv_entry.specs.declared.opcode.AdminOpcode.TheVariants.{Abort, SetFeatures, GetFeatures, AsynchronousEventRequest}
use Rattle.nv_entry.specs.declared.status_code.StatusCode.{StatusCode}
use Rattle.nv_entry.specs.declared.status_code.StatusCode.TheVariants as code
use Rattle.nv_mem.specs.GuestMap.{everywhere}
use Rattle.nv_model.specs.Memory.{bytes_from}
use Rattle.nv_model.specs.Reading.{Reading, Faulty, TooLong, Spells, first_failing}
use Rattle.nv_model.specs.Queue.{SubmissionQueue, CompletionQueue, cqe_size, new_completion, new_submission, sqe_size}
use Rattle.nv_model.specs.Controller.{Controller, Deletion, Posted, completion_queue, front, is_ready, post, size_fits, submission_queue, took, with_submission}
use Rattle.nv_model.specs.Limits.{last_queue, most_requests, most_slots}
use Rattle.nv_model.specs.Admin.{AdminStep, AdminEffect, Hidden, NothingToDo, QueueFull, Shown, Stepped, Structure, admin, admin_command}
use Rattle.nv_model.specs.Admin.{admin_ready, checked, completes_to_checks, contiguous, completion_id, create_completion, create_submission}
use Rattle.nv_model.specs.Admin.{delete_completion, delete_found, delete_submission, done_by, done_with_opcode, finish_deletion}
use Rattle.nv_model.specs.Admin.{front_command, identified, identify_by, identify_reading, is_queue_full, new_queue_checks, number_of_queues}
use Rattle.nv_model.specs.Admin.{place_checks, qid, qsize, selector, shown, stepped, vector_of, with_answer, with_completion_posted, answered}
use Rattle.nv_model.specs.Laws.{QueuesHave}
use Rattle.nv_model.proofs.Endings.{first_failing-none, not-false}
use Rattle.nv_model.proofs.QueuesKept.{HaveBehind, IsKept, QueuesHave-same, QueuesHave-with_completion, QueuesHave-with_submission, by_test, post-kept, submission_queue-has, took-kept}

-- what the queues behind a command have
abbrev DoneHas : (P : SubmissionQueue → Type 0) (Q : CompletionQueue → Type 0) → AdminEffect → Type 0
DoneHas P Q done = QueuesHave P Q done.controller

-- what the queues behind an admin step have
abbrev pub AdminHas : (P : SubmissionQueue → Type 0) (Q : CompletionQueue → Type 0) → AdminStep → Type 0
AdminHas P Q NothingToDo = ⊤
AdminHas P Q QueueFull = ⊤
AdminHas P Q (Stepped c memory) = QueuesHave P Q c

or-false : (a b : Bool) → (a || b) ≡ false → (a ≡ false) × (b ≡ false)
or-false true b neither = cc
or-false false b neither = (refl, neither)

eqb-false : (a b : ℕ) → (a == b) ≡ false → a ≡ b → ⊥
eqb-false a b differ same = let is : (a == b) ≡ true = rw same (eq-eqb b b refl) in cc

-- the size of a new queue
new_size : (size : ℕ) → (size == 0 || nat_lt 1024 (size + 1)) ≡ false → size_fits (size + 1) ≡ true
new_size size fine =
    let both = or-false (size == 0) (nat_lt 1024 (size + 1)) fine in
    let some = eqb-false size 0 both.0 in
    let few = ltb-false 1024 (size + 1) both.1 in
    let low : nat_le 2 (size + 1) ≡ true = le-leb 2 (size + 1) (omega arith) in
    let high : nat_le (size + 1) 1024 ≡ true = le-leb (size + 1) 1024 (omega arith) in
    rw (low, high) refl

new_queue_checks-size : (there : Bool) (entry : List ℕ) (others : List (Bool × StatusCode))
    → first_failing (new_queue_checks there entry ++ others) ≡ None
    → (size_fits (qsize entry + 1) ≡ true) × (first_failing others ≡ None)
new_queue_checks-size there entry others fine =
    let third : List (Bool × StatusCode) = (contiguous entry == 0, code.InvalidField) ∷ others in
    let second : List (Bool × StatusCode) = (qsize entry == 0 || nat_lt most_slots (qsize entry + 1), code.InvalidQueueSize) ∷ third in
    let behind = (first_failing-none (qid entry == 0 || nat_lt last_queue (qid entry) || there) code.InvalidQueueIdentifier second fine).1 in
    let last = first_failing-none (qsize entry == 0 || nat_lt most_slots (qsize entry + 1)) code.InvalidQueueSize third behind in
    (new_size (qsize entry) last.0, (first_failing-none (contiguous entry == 0) code.InvalidField others last.1).1)

place_checks-mapped : (mapped : ℕ → Bool) (slot : ℕ) (entry : List ℕ)
    → first_failing (place_checks mapped slot entry) ≡ None
    → everywhere mapped (prp1_of entry) (slot * (qsize entry + 1)) ≡ true
place_checks-mapped mapped slot entry fine =
    let second : List (Bool × StatusCode) = (not (everywhere mapped (prp1_of entry) (slot * (qsize entry + 1))), code.DataTransferError) ∷ [] in
    let behind = (first_failing-none (not (prp1_of entry % 4096 == 0)) code.PrpOffsetInvalid second fine).1 in
    not-false _ (first_failing-none (not (everywhere mapped (prp1_of entry) (slot * (qsize entry + 1)))) code.DataTransferError [] behind).0

place_checks-page : (mapped : ℕ → Bool) (slot : ℕ) (entry : List ℕ)
    → first_failing (place_checks mapped slot entry) ≡ None → prp1_of entry % 4096 ≡ 0
place_checks-page mapped slot entry fine =
    let second : List (Bool × StatusCode) = (not (everywhere mapped (prp1_of entry) (slot * (qsize entry + 1))), code.DataTransferError) ∷ [] in
    eqb-true (prp1_of entry % 4096) 0
    (not-false _ (first_failing-none (not (prp1_of entry % 4096 == 0)) code.PrpOffsetInvalid second fine).0)

completes_to_checks-none : (c : Controller) (entry : List ℕ) (others : List (Bool × StatusCode))
    → first_failing (completes_to_checks c entry ++ others) ≡ None → first_failing others ≡ None
completes_to_checks-none c entry others fine =
    let second : List (Bool × StatusCode) = (is_none (completion_queue c (completion_id entry)), code.CompletionQueueInvalid) ∷ others in
    let behind = (first_failing-none (completion_id entry == 0 || nat_lt last_queue (completion_id entry)) code.InvalidQueueIdentifier second fine).1 in
    (first_failing-none (is_none (completion_queue c (completion_id entry))) code.CompletionQueueInvalid others behind).1

module _ (mapped : ℕ → Bool) (P : SubmissionQueue → Type 0) (Q : CompletionQueue → Type 0) (closed : IsKept mapped P Q) where
  -- ---- admin commands

  -- refused, or done
  checked-kept : (o : Option StatusCode) (c : Controller) (memory : ℕ → ℕ) (done : AdminEffect) → QueuesHave P Q c
      → (o ≡ None → DoneHas P Q done) → DoneHas P Q (checked o c memory done)
  checked-kept None c memory done order goes = goes refl
  checked-kept (Some why) c memory done order goes = order

  create_submission-kept : (entry : List ℕ) (c : Controller) (memory : ℕ → ℕ) → QueuesHave P Q c
      → DoneHas P Q (create_submission mapped entry c memory)
  create_submission-kept entry c memory order =
      checked-kept _ c memory _ order (λ fine.
      let size = new_queue_checks-size (is_some (submission_queue c (qid entry))) entry (completes_to_checks c entry ++ place_checks mapped sqe_size entry) fine in
      let placed = completes_to_checks-none c entry (place_checks mapped sqe_size entry) size.1 in
      QueuesHave-with_submission mapped P Q closed c (qid entry) (Some (new_submission (prp1_of entry) (qsize entry + 1) (completion_id entry))) order
      (closed.new_submission (prp1_of entry) (qsize entry + 1) (completion_id entry) size.0
      (place_checks-page mapped sqe_size entry placed) (place_checks-mapped mapped sqe_size entry placed)))

  create_completion-kept : (entry : List ℕ) (c : Controller) (memory : ℕ → ℕ) → QueuesHave P Q c
      → DoneHas P Q (create_completion mapped entry c memory)
  create_completion-kept entry c memory order =
      checked-kept _ c memory _ order (λ fine.
      let size = new_queue_checks-size (is_some (completion_queue c (qid entry))) entry (place_checks mapped cqe_size entry) fine in
      QueuesHave-with_completion mapped P Q closed c (qid entry) (Some (new_completion (prp1_of entry) (qsize entry + 1) (vector_of entry))) order
      (closed.new_completion (prp1_of entry) (qsize entry + 1) (vector_of entry) size.0
      (place_checks-page mapped cqe_size entry size.1) (place_checks-mapped mapped cqe_size entry size.1)))

  delete_completion-kept : (entry : List ℕ) (c : Controller) (memory : ℕ → ℕ) → QueuesHave P Q c
      → DoneHas P Q (delete_completion entry c memory)
  delete_completion-kept entry c memory order =
      checked-kept _ c memory _ order (λ fine. QueuesHave-with_completion mapped P Q closed c (qid entry) None order tt)

  delete_found-kept : (found : Option SubmissionQueue) (entry : List ℕ) (c : Controller) (memory : ℕ → ℕ)
      → QueuesHave P Q c → submission_queue c (qid entry) ≡ found → DoneHas P Q (delete_found found entry c memory)
  delete_found-kept None entry c memory order is = order
  delete_found-kept (Some q) entry c memory order is =
      by_test (DoneHas P Q) (slice_index c.taken (qid entry) == 0) _ _
      (λ _. QueuesHave-with_submission mapped P Q closed c (qid entry) None order tt)
      (λ _. QueuesHave-same mapped P Q closed (with_submission c (qid entry) (Some (record q { closing = true }))) _
      (QueuesHave-with_submission mapped P Q closed c (qid entry) (Some (record q { closing = true }))
      order (closed.closing q (submission_queue-has mapped P Q closed c (qid entry) q order is))) refl refl)

  delete_submission-kept : (entry : List ℕ) (c : Controller) (memory : ℕ → ℕ) → QueuesHave P Q c
      → DoneHas P Q (delete_submission entry c memory)
  delete_submission-kept entry c memory order =
      by_test (DoneHas P Q) (qid entry == 0) _ _ (λ _. order) (λ _. delete_found-kept (submission_queue c (qid entry)) entry c memory order refl)

  identified-kept : (bytes : List ℕ) (reading : Reading) (c : Controller) (memory : ℕ → ℕ) → QueuesHave P Q c
      → DoneHas P Q (identified bytes reading c memory)
  identified-kept bytes (Spells pieces) c memory order = order
  identified-kept bytes (Faulty why) c memory order = order
  identified-kept bytes TooLong c memory order = order

  identify_by-kept : (what : Shown) (entry : List ℕ) (c : Controller) (memory : ℕ → ℕ) → QueuesHave P Q c
      → DoneHas P Q (identify_by what mapped entry c memory)
  identify_by-kept (Hidden why) entry c memory order = order
  identify_by-kept (Structure bytes) entry c memory order =
      identified-kept bytes (identify_reading mapped entry) c memory order

  done_by-kept : (opcode : AdminOpcode) (blocks : ℕ) (entry : List ℕ) (c : Controller) (memory : ℕ → ℕ)
      → QueuesHave P Q c → DoneHas P Q (done_by opcode mapped blocks entry c memory)
  done_by-kept DeleteIoSubmissionQueue blocks entry c memory order = delete_submission-kept entry c memory order
  done_by-kept CreateIoSubmissionQueue blocks entry c memory order = create_submission-kept entry c memory order
  done_by-kept GetLogPage blocks entry c memory order = order
  done_by-kept DeleteIoCompletionQueue blocks entry c memory order = delete_completion-kept entry c memory order
  done_by-kept CreateIoCompletionQueue blocks entry c memory order = create_completion-kept entry c memory order
  done_by-kept Identify blocks entry c memory order = identify_by-kept (shown blocks entry) entry c memory order
  done_by-kept Abort blocks entry c memory order = order
  done_by-kept SetFeatures blocks entry c memory order = checked-kept _ c memory _ order (λ fine. order)
  done_by-kept GetFeatures blocks entry c memory order =
      by_test (DoneHas P Q) (selector entry == number_of_queues) _ _ (λ _. order) (λ _. order)
  done_by-kept AsynchronousEventRequest blocks entry c memory order =
      by_test (DoneHas P Q) (nat_lt c.held_requests most_requests) _ _ (λ _. QueuesHave-same mapped P Q closed c _ order refl refl) (λ _. order)

  done_with_opcode-kept : (opcode : Option AdminOpcode) (blocks : ℕ) (entry : List ℕ) (c : Controller) (memory : ℕ → ℕ)
      → QueuesHave P Q c → DoneHas P Q (done_with_opcode opcode mapped blocks entry c memory)
  done_with_opcode-kept None blocks entry c memory order = order
  done_with_opcode-kept (Some opcode) blocks entry c memory order =
      by_test (DoneHas P Q) (psdt_of entry == 0) _ _ (λ _. done_by-kept opcode blocks entry c memory order) (λ _. order)

  admin_command-kept : (blocks : ℕ) (entry : List ℕ) (c : Controller) (memory : ℕ → ℕ) → QueuesHave P Q c
      → DoneHas P Q (admin_command mapped blocks entry c memory)
  unfolding admin_command
  admin_command-kept blocks entry c memory order =
      by_test (DoneHas P Q) (fuse_of entry == 0) _ _ (λ _. done_with_opcode-kept (admin_opcode (opcode_of entry)) blocks entry c memory order) (λ _. order)

  -- ---- admin steps

  with_completion_posted-kept : (o : Option Posted) (memory : ℕ → ℕ) → HaveBehind P Q o
      → AdminHas P Q (with_completion_posted o memory)
  with_completion_posted-kept None memory order = tt
  with_completion_posted-kept (Some p) memory order = order

  with_answer-kept : (answer : Option (ℕ × StatusField)) (cid : ℕ) (c : Controller) (memory : ℕ → ℕ) → QueuesHave P Q c
      → AdminHas P Q (with_answer answer cid c memory)
  with_answer-kept None cid c memory order = order
  with_answer-kept (Some answer) cid c memory order =
      with_completion_posted-kept (post c 0 answer.0 cid answer.1) memory (post-kept mapped P Q closed c 0 answer.0 cid answer.1 order)

  stepped-kept : (done : AdminEffect) (cid : ℕ) → DoneHas P Q done → AdminHas P Q (stepped done cid)
  stepped-kept done cid order = with_answer-kept done.answer cid done.controller done.memory order

  front_command-kept : (at : Option ℕ) (blocks : ℕ) (c : Controller) (memory : ℕ → ℕ) → QueuesHave P Q c
      → AdminHas P Q (front_command at mapped blocks c memory)
  front_command-kept None blocks c memory order = tt
  front_command-kept (Some addr) blocks c memory order =
      by_test (AdminHas P Q) (is_queue_full (completion_queue c 0)) _ _ (λ _. tt)
      (λ _. stepped-kept (admin_command mapped blocks (bytes_from memory addr sqe_size) (took c 0) memory) (cid_of (bytes_from memory addr sqe_size))
      (admin_command-kept blocks (bytes_from memory addr sqe_size) (took c 0) memory (took-kept mapped P Q closed c 0 order)))

  finish_deletion-kept : (d : Deletion) (c : Controller) (memory : ℕ → ℕ) → QueuesHave P Q c
      → AdminHas P Q (finish_deletion d c memory)
  finish_deletion-kept d c memory order =
      by_test (AdminHas P Q) (not (slice_index c.taken d.queue == 0)) _ _ (λ _. tt) (λ _.
      by_test (AdminHas P Q) (is_queue_full (completion_queue c 0)) _ _ (λ _. tt) (λ _.
      stepped-kept (answered 0 (record (with_submission c d.queue None) { deletion = None }) memory) d.cid
      (QueuesHave-same mapped P Q closed (with_submission c d.queue None) _ (QueuesHave-with_submission mapped P Q closed c d.queue None order tt) refl refl)))

  admin_ready-kept : (waiting : Option Deletion) (blocks : ℕ) (c : Controller) (memory : ℕ → ℕ) → QueuesHave P Q c
      → AdminHas P Q (admin_ready waiting mapped blocks c memory)
  admin_ready-kept (Some d) blocks c memory order = finish_deletion-kept d c memory order
  admin_ready-kept None blocks c memory order = front_command-kept (front c 0) blocks c memory order

  pub admin-kept : (blocks : ℕ) (c : Controller) (memory : ℕ → ℕ) → QueuesHave P Q c
      → AdminHas P Q (admin mapped blocks c memory)
  unfolding admin
  admin-kept blocks c memory order =
      by_test (AdminHas P Q) (is_ready c) _ _ (λ _. admin_ready-kept c.deletion blocks c memory order) (λ _. tt)
