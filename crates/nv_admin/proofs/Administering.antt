-- An event of the admin queue without a memory: no command reads one, and in each memory it is the step of `admin`.
use Rattle.std.proofs.Common.{◌≡◌, ℕ, ◌+◌, Bool, true, false, cond, not, ◌||◌, ◌==◌, nat_lt, List, [], ◌∷◌, ◌++◌, slice_index, Option, Some, None, is_some, is_none, refl, sym, ap, ◌∙◌}
use Rattle.std.specs.List.{list_any}
use Rattle.nv_entry.specs.Layout.{bits}
use Rattle.nv_entry.specs.Opcode.{admin_opcode}
use Rattle.nv_entry.specs.Status.{StatusField}
use Rattle.nv_entry.specs.StatusCode.{done_with}
use Rattle.nv_entry.specs.Submission.{cdw_of, cid_of, fuse_of, opcode_of, prp1_of, psdt_of}
use Rattle.nv_entry.specs.declared.opcode.AdminOpcode.{AdminOpcode}
use Rattle.nv_entry.specs.declared.opcode.AdminOpcode.TheVariants.{DeleteIoSubmissionQueue, CreateIoSubmissionQueue, GetLogPage}
use Rattle.nv_entry.specs.declared.opcode.AdminOpcode.TheVariants.{DeleteIoCompletionQueue, CreateIoCompletionQueue, Identify}
use Rattle.nv_entry.specs.declared.opcode.AdminOpcode.TheVariants.{Abort, SetFeatures, GetFeatures, AsynchronousEventRequest}
use Rattle.nv_entry.specs.declared.status_code.StatusCode.{StatusCode}
use Rattle.nv_entry.specs.declared.status_code.StatusCode.TheVariants as code
use Rattle.nv_model.specs.Admin.{AdminEffect, AdminStep, Hidden, Shown, Structure, admin, admin_command, admin_ready, answered}
use Rattle.nv_model.specs.Admin.{checked, delete_found, done_by, done_with_opcode, finish_deletion, front_command, identified, identify_by, identify_reading}
use Rattle.nv_model.specs.Admin.{completes_to_checks, completion_id, has_io_queue, is_queue_full, new_queue_checks, number_of_queues, place_checks, qid, qsize}
use Rattle.nv_model.specs.Admin.{queues_allocated, selector, shown, stepped, uses, vector_of, with_answer, with_completion_posted}
use Rattle.nv_model.specs.Controller.{Controller, Deletion, Posted, completion_queue, front, is_ready, post, submission_queue, took, with_completion, with_submission}
use Rattle.nv_model.specs.Limits.{most_requests}
use Rattle.nv_model.specs.Memory.{bytes_from}
use Rattle.nv_model.specs.Queue.{SubmissionQueue, cqe_size, new_completion, new_submission, sqe_size}
use Rattle.nv_model.specs.Reading.{Faulty, Reading, Spells, TooLong, first_failing}
use Rattle.nv_admin.specs.Administering.{EventDone, IsFetched, administered, answered_with, completed_with, deletion_done, event_by, front_done, ready_done, step_in}
use Rattle.nv_admin.specs.Event.{controller_behind}
use Rattle.nv_admin.proofs.Cases.{no_memory}
use Rattle.nv_admin.specs.declared.administered.Administered.{Administered}
use Rattle.nv_admin.specs.declared.administered.Administered.TheVariants as done
use Rattle.nv_admin.specs.Identify.{Stored, command_stored, done_stored, memory_behind, opcode_stored, shown_stored, structure_stored}

-- ---- no command reads memory

module _ (mapped : ℕ → Bool) (blocks : ℕ) (entry : List ℕ) (memory : ℕ → ℕ) where
  -- a command did the same without a memory, and this is what it stored
  record IsDone (done also : AdminEffect) (s : Option Stored) : Type 0 where
    controller : done.controller ≡ also.controller
    answer : done.answer ≡ also.answer
    left : done.memory ≡ memory_behind s memory

  -- by cases, where what is stored goes by the same test
  both-done : (b : Bool) (x y u v : AdminEffect) (s t : Option Stored) → (b ≡ true → IsDone x u s) → (b ≡ false → IsDone y v t)
      → IsDone (cond b x y) (cond b u v) (cond b s t)
  both-done true x y u v s t so not_so = so refl
  both-done false x y u v s t so not_so = not_so refl

  -- and where nothing is
  quiet-done : (b : Bool) (x y u v : AdminEffect) → (b ≡ true → IsDone x u None) → (b ≡ false → IsDone y v None)
      → IsDone (cond b x y) (cond b u v) None
  quiet-done true x y u v so not_so = so refl
  quiet-done false x y u v so not_so = not_so refl

  -- the memory is left as it is
  same-done : (c : Controller) (answer : Option (ℕ × StatusField))
      → IsDone (record { controller = c; memory = memory; answer = answer }) (record { controller = c; memory = no_memory; answer = answer }) None
  same-done c answer = record { controller = refl; answer = refl; left = refl }

  checked-done : (o : Option StatusCode) (c after : Controller) (dw0 : ℕ)
      → IsDone (checked o c memory (answered dw0 after memory)) (checked o c no_memory (answered dw0 after no_memory)) None
  checked-done None c after dw0 = same-done after _
  checked-done (Some why) c after dw0 = same-done c _

  delete_found-done : (found : Option SubmissionQueue) (c : Controller)
      → IsDone (delete_found found entry c memory) (delete_found found entry c no_memory) None
  delete_found-done None c = same-done c _
  delete_found-done (Some q) c = quiet-done (slice_index c.taken (qid entry) == 0) _ _ _ _ (λ _. same-done _ _) (λ _. same-done _ _)

  identified-done : (bytes : List ℕ) (reading : Reading) (c : Controller)
      → IsDone (identified bytes reading c memory) (identified bytes reading c no_memory) (structure_stored bytes reading)
  identified-done bytes (Spells pieces) c = record { controller = refl; answer = refl; left = refl }
  identified-done bytes (Faulty why) c = same-done c _
  identified-done bytes TooLong c = same-done c _

  identify_by-done : (what : Shown) (c : Controller)
      → IsDone (identify_by what mapped entry c memory) (identify_by what mapped entry c no_memory) (shown_stored what mapped entry)
  identify_by-done (Hidden why) c = same-done c _
  identify_by-done (Structure bytes) c = identified-done bytes (identify_reading mapped entry) c

  done_by-done : (opcode : AdminOpcode) (c : Controller)
      → IsDone (done_by opcode mapped blocks entry c memory) (done_by opcode mapped blocks entry c no_memory) (done_stored opcode mapped blocks entry)
  done_by-done DeleteIoSubmissionQueue c =
      quiet-done (qid entry == 0) _ _ _ _ (λ _. same-done c _) (λ _. delete_found-done (submission_queue c (qid entry)) c)
  done_by-done CreateIoSubmissionQueue c =
      checked-done
      (first_failing (
      new_queue_checks (is_some (submission_queue c (qid entry))) entry ++ completes_to_checks c entry ++ place_checks mapped sqe_size entry))
      c (with_submission c (qid entry) (Some (new_submission (prp1_of entry) (qsize entry + 1) (completion_id entry)))) 0
  done_by-done GetLogPage c = same-done c _
  done_by-done DeleteIoCompletionQueue c =
      checked-done
      (first_failing (
      (qid entry == 0 || is_none (completion_queue c (qid entry)), code.InvalidQueueIdentifier)
      ∷ (list_any (uses (qid entry)) c.submission, code.InvalidQueueDeletion) ∷ []))
      c (with_completion c (qid entry) None) 0
  done_by-done CreateIoCompletionQueue c =
      checked-done (first_failing (new_queue_checks (is_some (completion_queue c (qid entry))) entry ++ place_checks mapped cqe_size entry))
      c (with_completion c (qid entry) (Some (new_completion (prp1_of entry) (qsize entry + 1) (vector_of entry)))) 0
  done_by-done Identify c = identify_by-done (shown blocks entry) c
  done_by-done Abort c = same-done c _
  done_by-done SetFeatures c =
      checked-done
      (first_failing (
      (not (selector entry == number_of_queues), code.InvalidField) ∷ (has_io_queue c, code.CommandSequenceError)
      ∷ (bits (cdw_of 11 entry) 15 0 == 0xffff || bits (cdw_of 11 entry) 31 16 == 0xffff, code.InvalidField) ∷ []))
      c c queues_allocated
  done_by-done GetFeatures c = quiet-done (selector entry == number_of_queues) _ _ _ _ (λ _. same-done c _) (λ _. same-done c _)
  done_by-done AsynchronousEventRequest c = quiet-done (nat_lt c.held_requests most_requests) _ _ _ _ (λ _. same-done _ _) (λ _. same-done c _)

  opcode-done : (opcode : Option AdminOpcode) (c : Controller)
      → IsDone (done_with_opcode opcode mapped blocks entry c memory) (done_with_opcode opcode mapped blocks entry c no_memory)
      (opcode_stored opcode mapped blocks entry)
  opcode-done None c = same-done c _
  opcode-done (Some opcode) c = both-done (psdt_of entry == 0) _ _ _ _ _ _ (λ _. done_by-done opcode c) (λ _. same-done c _)

  admin_command-done : (c : Controller)
      → IsDone (admin_command mapped blocks entry c memory) (admin_command mapped blocks entry c no_memory) (command_stored mapped blocks entry)
  unfolding admin_command
  admin_command-done c = both-done (fuse_of entry == 0) _ _ _ _ _ _ (λ _. opcode-done (admin_opcode (opcode_of entry)) c) (λ _. same-done c _)

  -- ---- the event

  -- a step of `admin` is an event in this memory, and leaves the same controller
  pub record IsStep (old : Controller) (step : AdminStep) (e : EventDone) : Type 0 where
    pub is : step ≡ step_in e memory
    pub controller : controller_behind old step ≡ e.controller

  both-steps : (old : Controller) (b : Bool) (x y : AdminStep) (e f : EventDone) → (b ≡ true → IsStep old x e) → (b ≡ false → IsStep old y f)
      → IsStep old (cond b x y) (cond b e f)
  both-steps old true x y e f so not_so = so refl
  both-steps old false x y e f so not_so = not_so refl

  completed-steps : (old : Controller) (found : Option Posted) (s : Option Stored)
      → IsStep old (with_completion_posted found (memory_behind s memory)) (completed_with found s old)
  completed-steps old None s = record { is = refl; controller = refl }
  completed-steps old (Some p) s = record { is = refl; controller = refl }

  answered-steps : (old : Controller) (answer : Option (ℕ × StatusField)) (cid : ℕ) (c : Controller) (s : Option Stored)
      → IsStep old (with_answer answer cid c (memory_behind s memory)) (answered_with answer cid c s old)
  answered-steps old None cid c s = record { is = refl; controller = refl }
  answered-steps old (Some a) cid c s = completed-steps old (post c 0 a.0 cid a.1) s

  -- a command that does the same without a memory
  carried-steps : (old : Controller) (done also : AdminEffect) (cid : ℕ) (s : Option Stored) → IsDone done also s
      → IsStep old (stepped done cid) (answered_with also.answer cid also.controller s old)
  carried-steps old done also cid s is =
      rw (is.controller, is.answer, is.left) (answered-steps old also.answer cid also.controller s)

module _ (mapped : ℕ → Bool) (blocks : ℕ) (memory : ℕ → ℕ) (entry : List ℕ) (c : Controller) where
  abbrev IsStepOf : AdminStep → EventDone → Type 0
  IsStepOf step e = IsStep mapped blocks entry memory c step e

  front-steps : (f : Option ℕ)
      → (is_queue_full (completion_queue c 0) ≡ false → (addr : ℕ) → f ≡ Some addr → entry ≡ bytes_from memory addr sqe_size)
      → IsStepOf (front_command f mapped blocks c memory) (front_done f mapped blocks entry c)
  front-steps None is = record { is = refl; controller = refl }
  front-steps (Some addr) is =
      both-steps mapped blocks entry memory c (is_queue_full (completion_queue c 0)) _ _ _ _ (λ full. record { is = refl; controller = refl })
      (λ room. rw (← is room addr refl)
      (carried-steps mapped blocks entry memory c (admin_command mapped blocks entry (took c 0) memory) (admin_command mapped blocks entry (took c 0) no_memory)
      (cid_of entry) (command_stored mapped blocks entry) (admin_command-done mapped blocks entry memory (took c 0))))

  deletion-steps : (d : Deletion) → IsStepOf (finish_deletion d c memory) (deletion_done d c)
  deletion-steps d =
      both-steps mapped blocks entry memory c (not (slice_index c.taken d.queue == 0)) _ _ _ _ (λ waits. record { is = refl; controller = refl }) (λ gone.
      both-steps mapped blocks entry memory c (is_queue_full (completion_queue c 0)) _ _ _ _ (λ full. record { is = refl; controller = refl }) (λ room.
      answered-steps mapped blocks entry memory c (Some (0, done_with code.Success)) d.cid (record (with_submission c d.queue None) { deletion = None }) None))

  ready-steps : (waiting : Option Deletion)
      → (waiting ≡ None → is_queue_full (completion_queue c 0) ≡ false → (addr : ℕ) → front c 0 ≡ Some addr → entry ≡ bytes_from memory addr sqe_size)
      → IsStepOf (admin_ready waiting mapped blocks c memory) (ready_done waiting mapped blocks entry c)
  ready-steps (Some d) is = deletion-steps d
  ready-steps None is = front-steps (front c 0) (is refl)

  -- an event is the step of `admin`, with the entry that lies in the memory
  event-steps : IsFetched memory c entry → IsStepOf (admin mapped blocks c memory) (administered mapped blocks entry c)
  unfolding admin administered
  event-steps is =
      both-steps mapped blocks entry memory c (is_ready c) _ _ _ _ (λ ready. ready-steps c.deletion (λ none room addr at. is addr none room at))
      (λ no. record { is = refl; controller = refl })

  -- what the code returns of it
  returned : (a : Administered) (new : Controller) → (event_by a new).controller ≡ new
  returned done.Idle new = refl
  returned done.Held new = refl
  returned (done.Done page completion) new = refl

  pub event-step : (a : Administered) (new : Controller) → IsFetched memory c entry → administered mapped blocks entry c ≡ event_by a new
      → admin mapped blocks c memory ≡ step_in (event_by a new) memory
  event-step a new is event = (event-steps is).is ∙ ap (λ (e : EventDone). step_in e memory) event

  pub event-controller : (a : Administered) (new : Controller) → IsFetched memory c entry → administered mapped blocks entry c ≡ event_by a new
      → new ≡ controller_behind c (admin mapped blocks c memory)
  event-controller a new is event =
      sym ((event-steps is).controller ∙ ap (λ (e : EventDone). e.controller) event ∙ returned a new)
