-- An admin command in a guest's memory: it does what it does without one, and stores what the machine stores.
use Rattle.std.proofs.Common.{◌≡◌, ℕ, ◌+◌, ◌*◌, ◌%◌, Bool, true, false, cond, not, ◌||◌, ◌==◌, nat_lt, nat_le, List, [], ◌∷◌, ◌++◌, slice_index}
use Rattle.std.proofs.Common.{Option, Some, None, IfSome, is_some, is_none, arith, refl, sym, eqb-true, eq-eqb, le-leb, ltb-false}
use Rattle.std.proofs.lemmas.List.Elements.{All-set}
use Rattle.std.specs.List.{AllPairs, list_any}
use Rattle.nv_entry.specs.Layout.{bits}
use Rattle.nv_entry.specs.Opcode.{admin_opcode}
use Rattle.nv_entry.specs.Status.{StatusField}
use Rattle.nv_entry.specs.Submission.{cdw_of, fuse_of, opcode_of, prp1_of, psdt_of}
use Rattle.nv_entry.specs.declared.opcode.AdminOpcode.{AdminOpcode}
use Rattle.nv_entry.specs.declared.opcode.AdminOpcode.TheVariants.{DeleteIoSubmissionQueue, CreateIoSubmissionQueue, GetLogPage}
use Rattle.nv_entry.specs.declared.opcode.AdminOpcode.TheVariants.{DeleteIoCompletionQueue, CreateIoCompletionQueue, Identify}
use Rattle.nv_entry.specs.declared.opcode.AdminOpcode.TheVariants.{Abort, SetFeatures, GetFeatures, AsynchronousEventRequest}
use Rattle.nv_entry.specs.declared.status_code.StatusCode.{StatusCode}
use Rattle.nv_entry.specs.declared.status_code.StatusCode.TheVariants as code
use Rattle.nv_machine.proofs.AdminWords.{no_memory}
use Rattle.nv_machine.specs.Effects.{Effect, effects_on}
use Rattle.nv_machine.specs.Machine.{admin_stores, opcode_stores, shown_stores, structure_stores}
use Rattle.nv_machine.proofs.Effects.{stores-scatter}
use Rattle.nv_machine.proofs.Posted.{AreReady}
use Rattle.nv_mem.specs.GuestMap.{IsApart, everywhere, mapped}
use Rattle.nv_mem.specs.Places.{places_of}
use Rattle.nv_model.specs.Admin.{AdminEffect, Hidden, Shown, Structure, admin_command, answered, checked, completes_to_checks, completion_id, contiguous}
use Rattle.nv_model.specs.Admin.{create_completion, create_submission, delete_completion, delete_found, done_by, done_with_opcode, has_io_queue, identified}
use Rattle.nv_model.specs.Admin.{identify_by, identify_reading, new_queue_checks, number_of_queues, place_checks, qid, qsize, queues_allocated, selector}
use Rattle.nv_model.specs.Admin.{set_features, shown, uses, vector_of}
use Rattle.nv_model.specs.Controller.{Controller, completion_queue, size_fits, submission_queue, with_completion, with_submission}
use Rattle.nv_model.specs.Laws.{IsCompletionInPlace, IsCompletionOnPage}
use Rattle.nv_model.specs.Limits.{last_queue, most_requests, most_slots}
use Rattle.nv_model.specs.Memory.{image, put_image}
use Rattle.nv_model.specs.Queue.{CompletionQueue, SubmissionQueue, cqe_size, new_completion, new_submission, sqe_size}
use Rattle.nv_model.specs.Reading.{Faulty, Reading, Spells, TooLong, first_failing}
use Rattle.nv_model.proofs.Endings.{first_failing-none, not-false}
use Rattle.nv_model.proofs.MemoryAlike.{by_test_both}
use Rattle.nv_model.proofs.PutImages.{put_image-own}
use Rattle.nv_model.proofs.QueueOrder.{IsKept-in_place, IsKept-on_pages}
use Rattle.nv_world_model.specs.Geometry.{Guest, regions_of, shape_of}

-- ---- the checks of a new completion queue

-- where they pass, its size fits, it begins with a page, and its slots are mapped
record IsChecked (test : ℕ → Bool) (entry : List ℕ) : Type 0 where
  size : size_fits (qsize entry + 1) ≡ true
  page : prp1_of entry % 4096 ≡ 0
  there : everywhere test (prp1_of entry) (cqe_size * (qsize entry + 1)) ≡ true

-- a size, counted from 0, that is neither 0 nor too large
size-fits : (size : ℕ) → (size == 0 || nat_lt 1024 (size + 1)) ≡ false → size_fits (size + 1) ≡ true
size-fits size fine =
    let both = or-false (size == 0) (nat_lt 1024 (size + 1)) fine in
    let some = eqb-false size both.0 in
    let few = ltb-false 1024 (size + 1) both.1 in
    let low : nat_le 2 (size + 1) ≡ true = le-leb 2 (size + 1) (omega arith) in
    let high : nat_le (size + 1) 1024 ≡ true = le-leb (size + 1) 1024 (omega arith) in
    rw (low, high) refl
  where
    or-false : (a b : Bool) → (a || b) ≡ false → (a ≡ false) × (b ≡ false)
    or-false true b neither = cc
    or-false false b neither = (refl, neither)

    eqb-false : (a : ℕ) → (a == 0) ≡ false → a ≡ 0 → ⊥
    eqb-false a differ same = let is : (a == 0) ≡ true = rw same (eq-eqb 0 0 refl) in cc

completion-checked : (test : ℕ → Bool) (there : Bool) (entry : List ℕ)
    → first_failing (new_queue_checks there entry ++ place_checks test cqe_size entry) ≡ None → IsChecked test entry
completion-checked test there entry fine =
    let last : List (Bool × StatusCode) =
    (not (everywhere test (prp1_of entry) (cqe_size * (qsize entry + 1))), code.DataTransferError) ∷ [] in
    let fourth : List (Bool × StatusCode) = (not (prp1_of entry % 4096 == 0), code.PrpOffsetInvalid) ∷ last in
    let third : List (Bool × StatusCode) = (contiguous entry == 0, code.InvalidField) ∷ fourth in
    let second : List (Bool × StatusCode) = (qsize entry == 0 || nat_lt most_slots (qsize entry + 1), code.InvalidQueueSize) ∷ third in
    let named = first_failing-none (qid entry == 0 || nat_lt last_queue (qid entry) || there) code.InvalidQueueIdentifier second fine in
    let sized = first_failing-none (qsize entry == 0 || nat_lt most_slots (qsize entry + 1)) code.InvalidQueueSize third named.1 in
    let whole = first_failing-none (contiguous entry == 0) code.InvalidField fourth sized.1 in
    let paged = first_failing-none (not (prp1_of entry % 4096 == 0)) code.PrpOffsetInvalid last whole.1 in
    let found = first_failing-none (not (everywhere test (prp1_of entry) (cqe_size * (qsize entry + 1)))) code.DataTransferError [] paged.1 in
    record {
      size = size-fits (qsize entry) sized.0;
      page = eqb-true (prp1_of entry % 4096) 0 (not-false _ paged.0);
      there = not-false _ found.0;
    }

-- ---- what a command does

module _ (given : Guest) (host : ℕ → ℕ) (apart : AllPairs IsApart (regions_of given)) where
  abbrev test : ℕ → Bool
  test = mapped (regions_of given)

  abbrev memory : ℕ → ℕ
  memory = image (regions_of given) host

  -- a command did the same without a memory, the effects come to the memory that it left, and the completion queues behind it are ready
  pub record IsDone (done also : AdminEffect) (effects : List Effect) : Type 0 where
    pub controller : done.controller ≡ also.controller
    pub answer : done.answer ≡ also.answer
    pub memory : effects_on effects host ≡ put_image (regions_of given) done.memory host
    pub ready : AreReady given done.controller

  -- by cases, where the effects go by the same test
  both-done : (b : Bool) (x y u v : AdminEffect) (e f : List Effect) → (b ≡ true → IsDone x u e) → (b ≡ false → IsDone y v f)
      → IsDone (cond b x y) (cond b u v) (cond b e f)
  both-done true x y u v e f so not_so = so refl
  both-done false x y u v e f so not_so = not_so refl

  -- and where there are none
  abbrev IsQuiet : AdminEffect → AdminEffect → Type 0
  IsQuiet done also = IsDone done also []

  -- the memory is left as it is
  same-done : (c : Controller) (answer : Option (ℕ × StatusField)) → AreReady given c
      → IsQuiet (record { controller = c; memory = memory; answer = answer }) (record { controller = c; memory = no_memory; answer = answer })
  unfolding effects_on
  same-done c answer ready =
      record { controller = refl; answer = refl; memory = sym (put_image-own (regions_of given) host apart); ready = ready }

  checked-done : (o : Option StatusCode) (c after : Controller) (dw0 : ℕ) → AreReady given c → (o ≡ None → AreReady given after)
      → IsQuiet (checked o c memory (answered dw0 after memory)) (checked o c no_memory (answered dw0 after no_memory))
  checked-done None c after dw0 ready then_ready = same-done after _ (then_ready refl)
  checked-done (Some why) c after dw0 ready then_ready = same-done c _ ready

  -- ---- queues

  -- a completion queue is put there, or goes
  with_completion-ready : (c : Controller) (y : ℕ) (o : Option CompletionQueue) → AreReady given c → IfSome o (IsCompletionInPlace test)
      → IfSome o IsCompletionOnPage → AreReady given (with_completion c y o)
  with_completion-ready c y o ready place on =
      record {
        places = All-set (λ o. IfSome o (IsCompletionInPlace test)) c.completion_queues y o place ready.places;
        pages = All-set (λ o. IfSome o IsCompletionOnPage) c.completion_queues y o on ready.pages;
      }

  create_completion-done : (entry : List ℕ) (c : Controller) → AreReady given c
      → IsQuiet (create_completion test entry c memory) (create_completion test entry c no_memory)
  create_completion-done entry c ready =
      checked-done (first_failing (new_queue_checks (is_some (completion_queue c (qid entry))) entry ++ place_checks test cqe_size entry))
      c (with_completion c (qid entry) (Some (new_completion (prp1_of entry) (qsize entry + 1) (vector_of entry)))) 0 ready
      (λ fine.
      (let is = completion-checked test (is_some (completion_queue c (qid entry))) entry fine in
      with_completion-ready c (qid entry) (Some (new_completion (prp1_of entry) (qsize entry + 1) (vector_of entry))) ready
      ((IsKept-in_place test).new_completion (prp1_of entry) (qsize entry + 1) (vector_of entry) is.size is.page is.there)
      ((IsKept-on_pages test).new_completion (prp1_of entry) (qsize entry + 1) (vector_of entry) is.size is.page is.there)))

  create_submission-done : (entry : List ℕ) (c : Controller) → AreReady given c
      → IsQuiet (create_submission test entry c memory) (create_submission test entry c no_memory)
  create_submission-done entry c ready =
      checked-done
      (first_failing (
      new_queue_checks (is_some (submission_queue c (qid entry))) entry ++ completes_to_checks c entry ++ place_checks test sqe_size entry))
      c (with_submission c (qid entry) (Some (new_submission (prp1_of entry) (qsize entry + 1) (completion_id entry)))) 0 ready
      (λ fine. record { places = ready.places; pages = ready.pages })

  delete_completion-done : (entry : List ℕ) (c : Controller) → AreReady given c
      → IsQuiet (delete_completion entry c memory) (delete_completion entry c no_memory)
  delete_completion-done entry c ready =
      checked-done
      (first_failing (
      (qid entry == 0 || is_none (completion_queue c (qid entry)), code.InvalidQueueIdentifier)
      ∷ (list_any (uses (qid entry)) c.submission, code.InvalidQueueDeletion) ∷ []))
      c (with_completion c (qid entry) None) 0 ready (λ fine. with_completion-ready c (qid entry) None ready tt tt)

  delete_found-done : (found : Option SubmissionQueue) (entry : List ℕ) (c : Controller) → AreReady given c
      → IsQuiet (delete_found found entry c memory) (delete_found found entry c no_memory)
  delete_found-done None entry c ready = same-done c _ ready
  delete_found-done (Some q) entry c ready =
      by_test_both IsQuiet (slice_index c.taken (qid entry) == 0) _ _ _ _
      (λ _. same-done _ _ (record { places = ready.places; pages = ready.pages }))
      (λ _. same-done _ _ (record { places = ready.places; pages = ready.pages }))

  -- ---- features, events, and Identify

  set_features-done : (entry : List ℕ) (c : Controller) → AreReady given c → IsQuiet (set_features entry c memory) (set_features entry c no_memory)
  set_features-done entry c ready =
      checked-done
      (first_failing (
      (not (selector entry == number_of_queues), code.InvalidField) ∷ (has_io_queue c, code.CommandSequenceError)
      ∷ (bits (cdw_of 11 entry) 15 0 == 0xffff || bits (cdw_of 11 entry) 31 16 == 0xffff, code.InvalidField) ∷ []))
      c c queues_allocated ready (λ fine. ready)

  identified-done : (bytes : List ℕ) (reading : Reading) (c : Controller) → AreReady given c
      → IsDone (identified bytes reading c memory) (identified bytes reading c no_memory) (structure_stores bytes reading (regions_of given))
  identified-done bytes (Spells pieces) c ready =
      record { controller = refl; answer = refl; memory = stores-scatter (regions_of given) (places_of pieces) bytes host apart; ready = ready }
  identified-done bytes (Faulty why) c ready = same-done c _ ready
  identified-done bytes TooLong c ready = same-done c _ ready

  identify_by-done : (what : Shown) (entry : List ℕ) (c : Controller) → AreReady given c
      → IsDone (identify_by what test entry c memory) (identify_by what test entry c no_memory) (shown_stores what entry given)
  identify_by-done (Hidden why) entry c ready = same-done c _ ready
  identify_by-done (Structure bytes) entry c ready = identified-done bytes (identify_reading test entry) c ready

  -- ---- a command

  -- of an opcode of which nothing is stored
  opcode-quiet : (opcode : AdminOpcode) (blocks : ℕ) (entry : List ℕ) (c : Controller) → AreReady given c
      → IsQuiet (done_by opcode test blocks entry c memory) (done_by opcode test blocks entry c no_memory)
      → IsQuiet (done_with_opcode (Some opcode) test blocks entry c memory) (done_with_opcode (Some opcode) test blocks entry c no_memory)
  opcode-quiet opcode blocks entry c ready done = by_test_both IsQuiet (psdt_of entry == 0) _ _ _ _ (λ _. done) (λ _. same-done c _ ready)

  opcode-done : (opcode : Option AdminOpcode) (entry : List ℕ) (c : Controller) → AreReady given c
      → IsDone (done_with_opcode opcode test (shape_of given).blocks entry c memory) (done_with_opcode opcode test (shape_of given).blocks entry c no_memory)
      (opcode_stores opcode entry given)
  opcode-done None entry c ready = same-done c _ ready
  opcode-done (Some DeleteIoSubmissionQueue) entry c ready =
      opcode-quiet DeleteIoSubmissionQueue (shape_of given).blocks entry c ready
      (by_test_both IsQuiet (qid entry == 0) _ _ _ _ (λ _. same-done c _ ready) (λ _. delete_found-done (submission_queue c (qid entry)) entry c ready))
  opcode-done (Some CreateIoSubmissionQueue) entry c ready =
      opcode-quiet CreateIoSubmissionQueue (shape_of given).blocks entry c ready (create_submission-done entry c ready)
  opcode-done (Some GetLogPage) entry c ready = opcode-quiet GetLogPage (shape_of given).blocks entry c ready (same-done c _ ready)
  opcode-done (Some DeleteIoCompletionQueue) entry c ready =
      opcode-quiet DeleteIoCompletionQueue (shape_of given).blocks entry c ready (delete_completion-done entry c ready)
  opcode-done (Some CreateIoCompletionQueue) entry c ready =
      opcode-quiet CreateIoCompletionQueue (shape_of given).blocks entry c ready (create_completion-done entry c ready)
  opcode-done (Some Identify) entry c ready =
      both-done (psdt_of entry == 0) _ _ _ _ _ _ (λ _. identify_by-done (shown (shape_of given).blocks entry) entry c ready) (λ _. same-done c _ ready)
  opcode-done (Some Abort) entry c ready = opcode-quiet Abort (shape_of given).blocks entry c ready (same-done c _ ready)
  opcode-done (Some SetFeatures) entry c ready = opcode-quiet SetFeatures (shape_of given).blocks entry c ready (set_features-done entry c ready)
  opcode-done (Some GetFeatures) entry c ready =
      opcode-quiet GetFeatures (shape_of given).blocks entry c ready
      (by_test_both IsQuiet (selector entry == number_of_queues) _ _ _ _ (λ _. same-done c _ ready) (λ _. same-done c _ ready))
  opcode-done (Some AsynchronousEventRequest) entry c ready =
      opcode-quiet AsynchronousEventRequest (shape_of given).blocks entry c ready
      (by_test_both IsQuiet (nat_lt c.held_requests most_requests) _ _ _ _
      (λ _. same-done _ _ (record { places = ready.places; pages = ready.pages })) (λ _. same-done c _ ready))

  -- an admin command
  pub admin_command-done : (entry : List ℕ) (c : Controller) → AreReady given c
      → IsDone (admin_command test (shape_of given).blocks entry c memory) (admin_command test (shape_of given).blocks entry c no_memory)
      (admin_stores entry given)
  unfolding admin_command
  admin_command-done entry c ready =
      both-done (fuse_of entry == 0) _ _ _ _ _ _ (λ _. opcode-done (admin_opcode (opcode_of entry)) entry c ready) (λ _. same-done c _ ready)
