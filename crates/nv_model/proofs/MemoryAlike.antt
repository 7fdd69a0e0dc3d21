-- Two memories that agree on mapped addresses: what is read in them, and what an admin command does to them.
use Rattle.std.proofs.Common.{◌≡◌, ℕ, ◌+◌, ◌-◌, ◌*◌, Bool, true, false, cond, not, ◌&&◌, ◌||◌, ◌==◌, nat_lt, nat_le, List, [], ◌∷◌, ◌++◌, length, slice_index}
use Rattle.std.proofs.Common.{All, Option, Some, None, is_some, is_none, arith, refl, sym, ap, subst}
use Rattle.std.specs.Bool.{⊤}
use Rattle.std.proofs.lemmas.List.Elements.{All-head, All-tail, All-weaker}
use Rattle.nv_entry.specs.Submission.{opcode_of, fuse_of, psdt_of, cid_of, cdw_of, prp1_of}
use Rattle.nv_entry.specs.Opcode.{admin_opcode}
use Rattle.nv_entry.specs.Status.{StatusField}
use Rattle.nv_entry.specs.declared.opcode.AdminOpcode.{AdminOpcode}
use Rattle.nv_entry.specs.declared.opcode.AdminOpcode.TheVariants.{DeleteIoSubmissionQueue, CreateIoSubmissionQueue, GetLogPage}
use Rattle.nv_entry.specs.declared.opcode.AdminOpcode.TheVariants.{DeleteIoCompletionQueue, CreateIoCompletionQueue, Identify}
use Rattle.nv_entry.specs.declared.opcode.AdminOpcode.TheVariants.{Abort, SetFeatures, GetFeatures, AsynchronousEventRequest}
use Rattle.nv_entry.specs.declared.status_code.StatusCode.{StatusCode}
use Rattle.nv_entry.specs.declared.status_code.StatusCode.TheVariants as code
use Rattle.nv_entry.specs.Layout.{bits}
use Rattle.std.specs.List.{list_any}
use Rattle.nv_mem.specs.Places.{Place, At, Bucket, places_of}
use Rattle.nv_model.specs.Memory.{bytes_from, gathered, scattered, stored}
use Rattle.nv_model.specs.Dialogue.{in_memory}
use Rattle.nv_model.specs.Reading.{Reading, Faulty, TooLong, Spells, first_failing}
use Rattle.nv_model.specs.Judge.{judge}
use Rattle.nv_model.specs.Queue.{SubmissionQueue, cqe_size, new_completion, new_submission, sqe_size}
use Rattle.nv_model.specs.Controller.{Controller, Deletion, Posted, completion_queue, front, front_of, is_ready, post, submission_queue, took, with_completion, with_submission}
use Rattle.nv_model.specs.Admin.{AdminStep, AdminEffect, Hidden, NothingToDo, QueueFull, Shown, Stepped, Structure, admin, admin_command}
use Rattle.nv_model.specs.Admin.{admin_ready, answered, checked, completes_to_checks, completion_id, create_completion, create_submission}
use Rattle.nv_model.specs.Admin.{delete_completion, delete_found, done_by, done_with_opcode, finish_deletion, front_command, has_io_queue}
use Rattle.nv_model.specs.Admin.{identified, identify_by, identify_reading, is_queue_full, new_queue_checks, number_of_queues, place_checks, qid}
use Rattle.nv_model.specs.Admin.{qsize, queues_allocated, selector, set_features, shown, stepped, uses, vector_of, with_answer, with_completion_posted}
use Rattle.nv_model.specs.Limits.{most_requests}
use Rattle.nv_model.specs.Laws.{AgreeAt, IsMappedPlace, IsSubmissionInPlace, IsCompletionInPlace, QueuesInPlace}
use Rattle.nv_model.proofs.Agreeing.{bytes_from-agree, in_memory-agree}
use Rattle.nv_model.proofs.Asking.{IsMappedFrom, asked-mapped, judge-asks}
use Rattle.nv_model.proofs.Judged.{everywhere-at}
use Rattle.nv_model.proofs.QueuesKept.{submission_queue-has}
use Rattle.nv_model.proofs.QueueOrder.{IsKept-in_place}

-- ---- by cases

-- what a test chooses of two pairs of values is related, where both pairs are
pub by_test_both : {A : Type 0} (R : A → A → Type 0) (b : Bool) (x y u v : A) → (b ≡ true → R x u) → (b ≡ false → R y v)
    → R (cond b x y) (cond b u v)
by_test_both R true x y u v so not_so = so refl
by_test_both R false x y u v so not_so = not_so refl

-- ---- bytes

-- equal bytes at an address stay equal where the same is stored
pub stored-at : (memory other : ℕ → ℕ) (addr : ℕ) (bytes : List ℕ) (at : ℕ) → memory at ≡ other at
    → stored memory addr bytes at ≡ stored other addr bytes at
unfolding stored
stored-at memory other addr bytes at same =
    ap (λ (v : ℕ). cond (nat_le addr at && nat_lt at (addr + length bytes)) (slice_index bytes (at - addr)) v) same

pub scattered-at : (memory other : ℕ → ℕ) (places : List Place) (bytes : List ℕ) (at : ℕ) → memory at ≡ other at
    → scattered memory places bytes at ≡ scattered other places bytes at
unfolding scattered
scattered-at memory other [] bytes at same = same
scattered-at memory other (place ∷ places) [] at same = same
scattered-at memory other (At addr ∷ places) (byte ∷ bytes) at same =
    scattered-at (stored memory addr (byte ∷ [])) (stored other addr (byte ∷ [])) places bytes at (stored-at memory other addr (byte ∷ []) at same)
scattered-at memory other (Bucket ∷ places) (byte ∷ bytes) at same = scattered-at memory other places bytes at same

-- the slots of a queue in place are mapped
front_of-mapped : (mapped : ℕ → Bool) (found : Option SubmissionQueue) (addr : ℕ)
    → ((q : SubmissionQueue) → found ≡ Some q → IsSubmissionInPlace mapped q) → front_of found ≡ Some addr
    → IsMappedFrom mapped addr sqe_size
front_of-mapped mapped None addr place at = cc
front_of-mapped mapped (Some q) addr place at =
    let there = place q refl in
    let below = there.0.head_is_slot in
    let from : q.base + sqe_size * q.head ≡ addr =
    (elim q.closing as (λ b. cond b None (cond (q.head == q.tail) None (Some (q.base + sqe_size * q.head))) ≡ Some addr → q.base + sqe_size * q.head ≡ addr) [
      | true ↦ λ e. cc
      | false ↦ λ e. (elim (q.head == q.tail) as (λ b. cond b None (Some (q.base + sqe_size * q.head)) ≡ Some addr → q.base + sqe_size * q.head ≡ addr)
          [ true ↦ λ f. cc | false ↦ λ f. cc ]) e
    ]) at in
    λ i within.
    let same : q.base + (sqe_size * q.head + i) ≡ addr + i = omega arith in
    subst (λ (a : ℕ). mapped a ≡ true) same (everywhere-at mapped q.base (sqe_size * q.size) (sqe_size * q.head + i) there.1 (omega arith))

pub front-mapped : (mapped : ℕ → Bool) (c : Controller) (y addr : ℕ) → QueuesInPlace mapped c → front c y ≡ Some addr
    → IsMappedFrom mapped addr sqe_size
unfolding front
front-mapped mapped c y addr place at =
    front_of-mapped mapped (submission_queue c y) addr
    (λ q found. submission_queue-has mapped (IsSubmissionInPlace mapped) (IsCompletionInPlace mapped) (IsKept-in_place mapped) c y q place found)
    ((elim (is_ready c) as (λ b. cond b (front_of (submission_queue c y)) None ≡ Some addr → front_of (submission_queue c y) ≡ Some addr) [ true ↦ λ e. e | false ↦ λ e. cc ]) at)

module _ (mapped : ℕ → Bool) (memory other : ℕ → ℕ) (agree : (addr : ℕ) → mapped addr ≡ true → memory addr ≡ other addr) where
  -- mapped bytes are the same in both
  pub bytes_from-mapped : (addr len : ℕ) → IsMappedFrom mapped addr len
      → bytes_from memory addr len ≡ bytes_from other addr len
  bytes_from-mapped addr len each = bytes_from-agree memory other addr len (λ i below. agree (addr + i) (each i below))

  -- so is the verdict on a command
  pub verdict-mapped : (limit blocks : ℕ) (entry : List ℕ)
      → in_memory memory (judge mapped limit blocks entry) ≡ in_memory other (judge mapped limit blocks entry)
  verdict-mapped limit blocks entry =
      sym (in_memory-agree memory other (judge mapped limit blocks entry)
      (All-weaker (λ (s : ℕ × ℕ). IsMappedFrom mapped s.0 s.1) (AgreeAt memory other) (λ s each i below. agree (s.0 + i) (each i below)) _
      (asked-mapped mapped memory (judge mapped limit blocks entry) (judge-asks mapped limit blocks entry))))

  -- and what a buffer holds
  pub gathered-mapped : (places : List Place) → All (IsMappedPlace mapped) places
      → gathered memory places ≡ gathered other places
  unfolding gathered
  gathered-mapped [] each = refl
  gathered-mapped (At addr ∷ places) each =
      let first = agree addr (All-head (IsMappedPlace mapped) (At addr) places each) in
      let rest = gathered-mapped places (All-tail (IsMappedPlace mapped) (At addr) places each) in
      rw (first, rest) refl
  gathered-mapped (Bucket ∷ places) each =
      let rest = gathered-mapped places (All-tail (IsMappedPlace mapped) Bucket places each) in
      rw rest refl

-- ---- admin commands

-- two commands did the same, but for unmapped addresses
pub record DoneAlike (mapped : ℕ → Bool) (done also : AdminEffect) : Type 0 where
  pub controller : done.controller ≡ also.controller
  pub answer : done.answer ≡ also.answer
  pub memory : (addr : ℕ) → mapped addr ≡ true → done.memory addr ≡ also.memory addr

-- two admin steps did
abbrev pub AdminAlike : (ℕ → Bool) → AdminStep → AdminStep → Type 0
AdminAlike mapped NothingToDo NothingToDo = ⊤
AdminAlike mapped QueueFull QueueFull = ⊤
AdminAlike mapped (Stepped c memory) (Stepped d other) = (c ≡ d) × ((addr : ℕ) → mapped addr ≡ true → memory addr ≡ other addr)
AdminAlike mapped _ _ = ⊥

module _ (mapped : ℕ → Bool) (memory other : ℕ → ℕ) (agree : (addr : ℕ) → mapped addr ≡ true → memory addr ≡ other addr) where
  -- the memory is left as it is
  same_memory : (c : Controller) (answer : Option (ℕ × StatusField))
      → DoneAlike mapped (record { controller = c; memory = memory; answer = answer }) (record { controller = c; memory = other; answer = answer })
  same_memory c answer = record { controller = refl; answer = refl; memory = agree }

  checked-alike : (o : Option StatusCode) (c after : Controller) (dw0 : ℕ)
      → DoneAlike mapped (checked o c memory (answered dw0 after memory)) (checked o c other (answered dw0 after other))
  checked-alike None c after dw0 = same_memory after _
  checked-alike (Some why) c after dw0 = same_memory c _

  create_submission-alike : (entry : List ℕ) (c : Controller)
      → DoneAlike mapped (create_submission mapped entry c memory) (create_submission mapped entry c other)
  create_submission-alike entry c =
      checked-alike
      (first_failing (
      new_queue_checks (is_some (submission_queue c (qid entry))) entry ++ completes_to_checks c entry
      ++ place_checks mapped sqe_size entry))
      c (with_submission c (qid entry) (Some (new_submission (prp1_of entry) (qsize entry + 1) (completion_id entry)))) 0

  create_completion-alike : (entry : List ℕ) (c : Controller)
      → DoneAlike mapped (create_completion mapped entry c memory) (create_completion mapped entry c other)
  create_completion-alike entry c =
      checked-alike (first_failing (new_queue_checks (is_some (completion_queue c (qid entry))) entry ++ place_checks mapped cqe_size entry))
      c (with_completion c (qid entry) (Some (new_completion (prp1_of entry) (qsize entry + 1) (vector_of entry)))) 0

  delete_completion-alike : (entry : List ℕ) (c : Controller)
      → DoneAlike mapped (delete_completion entry c memory) (delete_completion entry c other)
  delete_completion-alike entry c =
      checked-alike
      (first_failing (
      (qid entry == 0 || is_none (completion_queue c (qid entry)), code.InvalidQueueIdentifier)
      ∷ (list_any (uses (qid entry)) c.submission, code.InvalidQueueDeletion) ∷ []))
      c (with_completion c (qid entry) None) 0

  set_features-alike : (entry : List ℕ) (c : Controller)
      → DoneAlike mapped (set_features entry c memory) (set_features entry c other)
  set_features-alike entry c =
      checked-alike
      (first_failing (
      (not (selector entry == number_of_queues), code.InvalidField) ∷ (has_io_queue c, code.CommandSequenceError)
      ∷ (bits (cdw_of 11 entry) 15 0 == 0xffff || bits (cdw_of 11 entry) 31 16 == 0xffff, code.InvalidField) ∷ []))
      c c queues_allocated

  delete_found-alike : (found : Option SubmissionQueue) (entry : List ℕ) (c : Controller)
      → DoneAlike mapped (delete_found found entry c memory) (delete_found found entry c other)
  delete_found-alike None entry c = same_memory c _
  delete_found-alike (Some q) entry c =
      by_test_both (DoneAlike mapped) (slice_index c.taken (qid entry) == 0) _ _ _ _
      (λ _. record { controller = refl; answer = refl; memory = agree }) (λ _. record { controller = refl; answer = refl; memory = agree })

  identified-alike : (bytes : List ℕ) (reading : Reading) (c : Controller)
      → DoneAlike mapped (identified bytes reading c memory) (identified bytes reading c other)
  identified-alike bytes (Spells pieces) c =
      record { controller = refl; answer = refl; memory = λ at is. scattered-at memory other (places_of pieces) bytes at (agree at is) }
  identified-alike bytes (Faulty why) c = same_memory c _
  identified-alike bytes TooLong c = same_memory c _

  identify_by-alike : (what : Shown) (entry : List ℕ) (c : Controller)
      → DoneAlike mapped (identify_by what mapped entry c memory) (identify_by what mapped entry c other)
  identify_by-alike (Hidden why) entry c = same_memory c _
  identify_by-alike (Structure bytes) entry c = identified-alike bytes (identify_reading mapped entry) c

  done_by-alike : (opcode : AdminOpcode) (blocks : ℕ) (entry : List ℕ) (c : Controller)
      → DoneAlike mapped (done_by opcode mapped blocks entry c memory) (done_by opcode mapped blocks entry c other)
  done_by-alike DeleteIoSubmissionQueue blocks entry c =
      by_test_both (DoneAlike mapped) (qid entry == 0) _ _ _ _ (λ _. same_memory c _) (λ _. delete_found-alike (submission_queue c (qid entry)) entry c)
  done_by-alike CreateIoSubmissionQueue blocks entry c = create_submission-alike entry c
  done_by-alike GetLogPage blocks entry c = same_memory c _
  done_by-alike DeleteIoCompletionQueue blocks entry c = delete_completion-alike entry c
  done_by-alike CreateIoCompletionQueue blocks entry c = create_completion-alike entry c
  done_by-alike Identify blocks entry c = identify_by-alike (shown blocks entry) entry c
  done_by-alike Abort blocks entry c = same_memory c _
  done_by-alike SetFeatures blocks entry c = set_features-alike entry c
  done_by-alike GetFeatures blocks entry c =
      by_test_both (DoneAlike mapped) (selector entry == number_of_queues) _ _ _ _ (λ _. same_memory c _) (λ _. same_memory c _)
  done_by-alike AsynchronousEventRequest blocks entry c =
      by_test_both (DoneAlike mapped) (nat_lt c.held_requests most_requests) _ _ _ _ (λ _. record { controller = refl; answer = refl; memory = agree }) (λ _. same_memory c _)

  done_with_opcode-alike : (opcode : Option AdminOpcode) (blocks : ℕ) (entry : List ℕ) (c : Controller)
      → DoneAlike mapped (done_with_opcode opcode mapped blocks entry c memory) (done_with_opcode opcode mapped blocks entry c other)
  done_with_opcode-alike None blocks entry c = same_memory c _
  done_with_opcode-alike (Some opcode) blocks entry c =
      by_test_both (DoneAlike mapped) (psdt_of entry == 0) _ _ _ _ (λ _. done_by-alike opcode blocks entry c) (λ _. same_memory c _)

  admin_command-alike : (blocks : ℕ) (entry : List ℕ) (c : Controller)
      → DoneAlike mapped (admin_command mapped blocks entry c memory) (admin_command mapped blocks entry c other)
  unfolding admin_command
  admin_command-alike blocks entry c =
      by_test_both (DoneAlike mapped) (fuse_of entry == 0) _ _ _ _ (λ _. done_with_opcode-alike (admin_opcode (opcode_of entry)) blocks entry c) (λ _. same_memory c _)

  with_completion_posted-alike : (o : Option Posted)
      → AdminAlike mapped (with_completion_posted o memory) (with_completion_posted o other)
  with_completion_posted-alike None = tt
  with_completion_posted-alike (Some p) = (refl, λ at is. stored-at memory other p.addr p.entry at (agree at is))

  with_answer-alike : (answer : Option (ℕ × StatusField)) (cid : ℕ) (c : Controller)
      → AdminAlike mapped (with_answer answer cid c memory) (with_answer answer cid c other)
  with_answer-alike None cid c = (refl, agree)
  with_answer-alike (Some answer) cid c = with_completion_posted-alike (post c 0 answer.0 cid answer.1)

-- what a command did, answered
stepped-alike : (mapped : ℕ → Bool) (done also : AdminEffect) (cid : ℕ) → DoneAlike mapped done also
    → AdminAlike mapped (stepped done cid) (stepped also cid)
stepped-alike mapped done also cid alike =
    subst (λ (a : Option (ℕ × StatusField)). AdminAlike mapped (with_answer done.answer cid done.controller done.memory) (with_answer a cid also.controller also.memory)) alike.answer
    (subst (λ (c : Controller). AdminAlike mapped (with_answer done.answer cid done.controller done.memory) (with_answer done.answer cid c also.memory)) alike.controller
    (with_answer-alike mapped done.memory also.memory alike.memory done.answer cid done.controller))

module _ (mapped : ℕ → Bool) (memory other : ℕ → ℕ) (agree : (addr : ℕ) → mapped addr ≡ true → memory addr ≡ other addr) where
  front_command-alike : (at : Option ℕ) (blocks : ℕ) (c : Controller)
      → ((addr : ℕ) → at ≡ Some addr → IsMappedFrom mapped addr sqe_size)
      → AdminAlike mapped (front_command at mapped blocks c memory) (front_command at mapped blocks c other)
  front_command-alike None blocks c there = tt
  front_command-alike (Some addr) blocks c there =
      let entry : List ℕ = bytes_from memory addr sqe_size in
      by_test_both (AdminAlike mapped) (is_queue_full (completion_queue c 0)) _ _ _ _ (λ _. tt)
      (λ _. subst (λ (e : List ℕ). AdminAlike mapped (stepped (admin_command mapped blocks entry (took c 0) memory) (cid_of entry))
      (stepped (admin_command mapped blocks e (took c 0) other) (cid_of e)))
      (bytes_from-mapped mapped memory other agree addr sqe_size (there addr refl))
      (stepped-alike mapped (admin_command mapped blocks entry (took c 0) memory) (admin_command mapped blocks entry (took c 0) other) (cid_of entry)
      (admin_command-alike mapped memory other agree blocks entry (took c 0))))

  finish_deletion-alike : (d : Deletion) (c : Controller)
      → AdminAlike mapped (finish_deletion d c memory) (finish_deletion d c other)
  finish_deletion-alike d c =
      by_test_both (AdminAlike mapped) (not (slice_index c.taken d.queue == 0)) _ _ _ _ (λ _. tt) (λ _.
      by_test_both (AdminAlike mapped) (is_queue_full (completion_queue c 0)) _ _ _ _ (λ _. tt) (λ _.
      stepped-alike mapped (answered 0 (record (with_submission c d.queue None) { deletion = None }) memory) (answered 0 (record (with_submission c d.queue None) { deletion = None }) other) d.cid
      (record { controller = refl; answer = refl; memory = agree })))

  admin_ready-alike : (waiting : Option Deletion) (blocks : ℕ) (c : Controller) → QueuesInPlace mapped c
      → AdminAlike mapped (admin_ready waiting mapped blocks c memory) (admin_ready waiting mapped blocks c other)
  admin_ready-alike (Some d) blocks c place = finish_deletion-alike d c
  admin_ready-alike None blocks c place =
      front_command-alike (front c 0) blocks c (λ addr at. front-mapped mapped c 0 addr place at)

  -- an admin step does the same in both memories
  pub admin-alike : (blocks : ℕ) (c : Controller) → QueuesInPlace mapped c
      → AdminAlike mapped (admin mapped blocks c memory) (admin mapped blocks c other)
  unfolding admin
  admin-alike blocks c place =
      by_test_both (AdminAlike mapped) (is_ready c) _ _ _ _ (λ _. admin_ready-alike c.deletion blocks c place) (λ _. tt)
