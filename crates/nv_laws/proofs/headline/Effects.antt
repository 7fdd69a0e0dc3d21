-- What an admin command does is the same in whatever memory: its controller and answer, and the bytes that it writes, which go to the destination of
-- Identify alone.
use Rattle.std.proofs.Common.{◌≡◌, ℕ, ◌+◌, ◌<◌, Bool, true, false, cond, not, ◌&&◌, ◌||◌, ◌==◌, nat_lt, List, [], ◌∷◌, ◌++◌, set, slice_get, slice_index}
use Rattle.std.proofs.Common.{Option, Some, None, IfSome, IsSome, is_some, is_none, arith, refl, sym, ap, ◌∙◌, subst}
use Rattle.std.specs.List.{list_any}
use Rattle.std.proofs.lemmas.Bool.{eqb-false}
use Rattle.nv_entry.specs.Layout.{bits}
use Rattle.nv_entry.specs.Opcode.{admin_opcode}
use Rattle.nv_entry.specs.Status.{StatusField}
use Rattle.nv_entry.specs.StatusCode.{done_with}
use Rattle.nv_entry.specs.Submission.{cdw_of, cid_of, fuse_of, opcode_of, prp1_of, psdt_of}
use Rattle.nv_entry.specs.declared.opcode.AdminOpcode.{AdminOpcode}
use Rattle.nv_entry.specs.declared.opcode.AdminOpcode.TheVariants.{DeleteIoSubmissionQueue, CreateIoSubmissionQueue, GetLogPage}
use Rattle.nv_entry.specs.declared.opcode.AdminOpcode.TheVariants.{DeleteIoCompletionQueue, CreateIoCompletionQueue, Identify, Abort, SetFeatures}
use Rattle.nv_entry.specs.declared.opcode.AdminOpcode.TheVariants.{GetFeatures, AsynchronousEventRequest}
use Rattle.nv_entry.specs.declared.status_code.StatusCode.{StatusCode}
use Rattle.nv_entry.specs.declared.status_code.StatusCode.TheVariants as code
use Rattle.nv_mem.specs.Places.{Place, places_of}
use Rattle.nv_model.proofs.Endings.{first_failing-none}
use Rattle.nv_model.proofs.Together.{queue_of-set-has}
use Rattle.nv_model.specs.Admin.{AdminEffect, Hidden, Shown, Structure, admin_command, answered, checked, completes_to_checks, completion_id}
use Rattle.nv_model.specs.Admin.{create_completion, create_submission, delete_completion, delete_found, done_by, done_with_opcode, has_io_queue}
use Rattle.nv_model.specs.Admin.{identified, identify_by, identify_reading, new_queue_checks, number_of_queues, place_checks, qid, qsize}
use Rattle.nv_model.specs.Admin.{queues_allocated, selector, set_features, shown, uses, vector_of}
use Rattle.nv_model.specs.Controller.{Controller, completion_queue, queue_of, submission_queue, took, took_of, with_completion, with_submission}
use Rattle.nv_model.specs.Footprint.{Destination, Named, admin_named, identify_named, is_identify}
use Rattle.nv_model.specs.Limits.{last_queue, most_requests, most_slots}
use Rattle.nv_model.specs.Memory.{scattered}
use Rattle.nv_model.specs.Private.{Shape}
use Rattle.nv_model.specs.Queue.{CompletionQueue, SubmissionQueue, cqe_size, front_taken, new_completion, new_submission, sqe_size}
use Rattle.nv_model.specs.Reading.{Faulty, Reading, Spells, TooLong, first_failing}
use Rattle.nv_laws.specs.Related.{is_place_at}
use Rattle.nv_laws.proofs.related.Beginning.{awaits}
use Rattle.nv_laws.proofs.related.Named.{place-passes, run-names}

-- ---- the queue of admin completions

-- the completion queue that a submission queue uses, among these
abbrev pub queue_behind : Option SubmissionQueue → List (Option CompletionQueue) → Option CompletionQueue
queue_behind None queues = None
queue_behind (Some q) queues = queue_of (slice_get queues q.completes_to)

-- where a controller's admin commands complete
abbrev pub admin_completions : Controller → Option CompletionQueue
admin_completions c = queue_behind (submission_queue c 0) c.completion_queues

-- where they complete behind a change, they completed before it
abbrev pub KeepsQueue : Controller → Controller → Type 0
KeepsQueue c d = (cq : CompletionQueue) → admin_completions d ≡ Some cq → admin_completions c ≡ Some cq

-- the queue where they complete is there
abbrev pub Completes : Controller → Type 0
Completes c = IfSome (submission_queue c 0) (λ q. IsSome (queue_of (slice_get c.completion_queues q.completes_to)))

submission-keeps : (c : Controller) (y : ℕ) (o : Option SubmissionQueue) → 0 < y → KeepsQueue c (with_submission c y o)
submission-keeps c y o some cq =
    queue_of-set-has (λ x. queue_behind x c.completion_queues ≡ Some cq → admin_completions c ≡ Some cq) c.submission y o 0
    (λ same. absurd (omega (arith, same, some))) (λ e. e)

completion-keeps : (c : Controller) (y : ℕ) (new : CompletionQueue) → is_some (completion_queue c y) ≡ false → Completes c
    → KeepsQueue c (with_completion c y (Some new))
completion-keeps c y new none completes cq = by_queue (submission_queue c 0) completes
  where
    by_queue : (o : Option SubmissionQueue) → IfSome o (λ q. IsSome (queue_of (slice_get c.completion_queues q.completes_to)))
        → queue_behind o (set c.completion_queues y (Some new)) ≡ Some cq → queue_behind o c.completion_queues ≡ Some cq
    by_queue None there e = cc
    by_queue (Some q) there found =
        queue_of-set-has (λ x. x ≡ Some cq → completion_queue c q.completes_to ≡ Some cq) c.completion_queues y (Some new) q.completes_to
        (λ same e.
        let at_y : IsSome (completion_queue c y) = subst (λ n. IsSome (completion_queue c n)) same there in
        let bad : true ≡ false = sym at_y ∙ none in
        cc)
        (λ e. e) found

gone-keeps : (c : Controller) (y : ℕ) → KeepsQueue c (with_completion c y None)
gone-keeps c y cq = by_queue (submission_queue c 0)
  where
    by_queue : (o : Option SubmissionQueue) → queue_behind o (set c.completion_queues y None) ≡ Some cq → queue_behind o c.completion_queues ≡ Some cq
    by_queue None e = cc
    by_queue (Some q) found =
        queue_of-set-has (λ x. x ≡ Some cq → completion_queue c q.completes_to ≡ Some cq) c.completion_queues y None q.completes_to
        (λ same e. cc) (λ e. e) found

pub took-keeps : (c : Controller) → KeepsQueue c (took c 0)
unfolding took
took-keeps c cq = by_queue (submission_queue c 0) refl
  where
    by_queue : (o : Option SubmissionQueue) → submission_queue c 0 ≡ o → admin_completions (took_of o c 0) ≡ Some cq → admin_completions c ≡ Some cq
    by_queue None is e = e
    by_queue (Some q) is found =
        queue_of-set-has (λ x. queue_behind x c.completion_queues ≡ Some cq → admin_completions c ≡ Some cq) c.submission 0 (Some (front_taken q)) 0
        (λ same e. ap (λ x. queue_behind x c.completion_queues) is ∙ e) (λ e. e) found

-- a deletion that waited is done
pub deleted-keeps : (c : Controller) (y : ℕ) → KeepsQueue c (record (with_submission c y None) { deletion = None })
deleted-keeps c y cq =
    queue_of-set-has (λ x. queue_behind x c.completion_queues ≡ Some cq → admin_completions c ≡ Some cq) c.submission y None 0
    (λ same e. cc) (λ e. e)

-- ---- effects

-- what is done to a controller in whatever memory; bytes go where these are named as a destination
pub record IsEffect (named : List Named) (c : Controller) (done : (ℕ → ℕ) → AdminEffect) : Type 0 where
  pub behind : Controller
  pub answer : Option (ℕ × StatusField)
  pub places : List Place
  pub bytes : List ℕ
  pub does : (memory : ℕ → ℕ) → done memory ≡ record { controller = behind; memory = scattered memory places bytes; answer = answer }
  pub within : (at : ℕ) → list_any (is_place_at at) places ≡ true → list_any (awaits at) named ≡ true
  pub queue : KeepsQueue c behind

-- ---- checks

some-number : (entry : List ℕ) → (qid entry == 0) ≡ false → 0 < qid entry
some-number entry is = let other = eqb-false (qid entry) 0 is in omega (arith, other)

-- a new queue has a number, under which none is there
new-free : (there : Bool) (entry : List ℕ) (others : List (Bool × StatusCode)) → first_failing (new_queue_checks there entry ++ others) ≡ None
    → (0 < qid entry) × (there ≡ false)
new-free there entry others fine =
    let third : List (Bool × StatusCode) = (qsize entry == 0 || nat_lt most_slots (qsize entry + 1), code.InvalidQueueSize)
    ∷ (bits (cdw_of 11 entry) 0 0 == 0, code.InvalidField) ∷ others in
    let first = (first_failing-none (qid entry == 0 || nat_lt last_queue (qid entry) || there) code.InvalidQueueIdentifier third fine).0 in
    by_parts (qid entry == 0) (nat_lt last_queue (qid entry)) refl first
  where
    by_parts : (a b : Bool) → (qid entry == 0) ≡ a → (a || b || there) ≡ false → (0 < qid entry) × (there ≡ false)
    by_parts true true is e = cc
    by_parts true false is e = cc
    by_parts false true is e = cc
    by_parts false false is e = (some-number entry is, e)

-- ---- commands

module _ (named : List Named) (c : Controller) where
  same_memory : (behind : Controller) (answer : Option (ℕ × StatusField)) → KeepsQueue c behind
      → IsEffect named c (λ memory. record { controller = behind; memory = memory; answer = answer })
  unfolding scattered
  same_memory behind answer keeps =
      record { behind = behind; answer = answer; places = []; bytes = []; does = λ memory. refl; within = λ at e. cc; queue = keeps }

  unchanged : (answer : Option (ℕ × StatusField)) → IsEffect named c (λ memory. record { controller = c; memory = memory; answer = answer })
  unchanged answer = same_memory c answer (λ cq e. e)

  either : (b : Bool) (x y : (ℕ → ℕ) → AdminEffect) → (b ≡ true → IsEffect named c x) → (b ≡ false → IsEffect named c y)
      → IsEffect named c (λ memory. cond b (x memory) (y memory))
  either true x y so not_so = so refl
  either false x y so not_so = not_so refl

  checked-effect : (o : Option StatusCode) (behind : Controller) (dw0 : ℕ) → (o ≡ None → KeepsQueue c behind)
      → IsEffect named c (λ memory. checked o c memory (answered dw0 behind memory))
  checked-effect None behind dw0 keeps = same_memory behind _ (keeps refl)
  checked-effect (Some why) behind dw0 keeps = unchanged _

  module _ (shape : Shape) (entry : List ℕ) (completes : Completes c) where
    create_submission-effect : IsEffect named c (λ memory. create_submission shape.mapped entry c memory)
    create_submission-effect =
        let others = completes_to_checks c entry ++ place_checks shape.mapped sqe_size entry in
        let new = new_submission (prp1_of entry) (qsize entry + 1) (completion_id entry) in
        checked-effect (first_failing (new_queue_checks (is_some (submission_queue c (qid entry))) entry ++ others)) (with_submission c (qid entry) (Some new)) 0
        (λ fine. submission-keeps c (qid entry) (Some new) (new-free (is_some (submission_queue c (qid entry))) entry others fine).0)

    create_completion-effect : IsEffect named c (λ memory. create_completion shape.mapped entry c memory)
    create_completion-effect =
        let others = place_checks shape.mapped cqe_size entry in
        let new = new_completion (prp1_of entry) (qsize entry + 1) (vector_of entry) in
        checked-effect (first_failing (new_queue_checks (is_some (completion_queue c (qid entry))) entry ++ others)) (with_completion c (qid entry) (Some new)) 0
        (λ fine. completion-keeps c (qid entry) new (new-free (is_some (completion_queue c (qid entry))) entry others fine).1 completes)

    delete_completion-effect : IsEffect named c (λ memory. delete_completion entry c memory)
    delete_completion-effect =
        checked-effect
        (first_failing (
        (qid entry == 0 || is_none (completion_queue c (qid entry)), code.InvalidQueueIdentifier)
        ∷ (list_any (uses (qid entry)) c.submission, code.InvalidQueueDeletion) ∷ []))
        (with_completion c (qid entry) None) 0 (λ fine. gone-keeps c (qid entry))

    delete_found-effect : (found : Option SubmissionQueue) → 0 < qid entry → IsEffect named c (λ memory. delete_found found entry c memory)
    delete_found-effect None some = unchanged _
    delete_found-effect (Some q) some =
        either (slice_index c.taken (qid entry) == 0) _ _
        (λ _. same_memory (with_submission c (qid entry) None) _ (submission-keeps c (qid entry) None some))
        (λ _.
        same_memory
        (record (with_submission c (qid entry) (Some (record q { closing = true }))) { deletion = Some (record { cid = cid_of entry; queue = qid entry }) }) _
        (submission-keeps c (qid entry) (Some (record q { closing = true })) some))

    set_features-effect : IsEffect named c (λ memory. set_features entry c memory)
    set_features-effect =
        checked-effect
        (first_failing (
        (not (selector entry == number_of_queues), code.InvalidField) ∷ (has_io_queue c, code.CommandSequenceError)
        ∷ (bits (cdw_of 11 entry) 15 0 == 0xffff || bits (cdw_of 11 entry) 31 16 == 0xffff, code.InvalidField) ∷ []))
        c queues_allocated (λ fine cq e. e)

    identified-effect : (bytes : List ℕ) (reading : Reading) → identify_named (Structure bytes) reading ≡ named
        → IsEffect named c (λ memory. identified bytes reading c memory)
    identified-effect bytes (Spells pieces) is =
        record {
          behind = c;
          answer = Some (0, done_with code.Success);
          places = places_of pieces;
          bytes = bytes;
          does = λ memory. refl;
          within = λ at e.
              subst (λ ns. list_any (awaits at) ns ≡ true) is (place-passes at Destination (awaits at) (run-names at Destination) pieces e);
          queue = λ cq e. e;
        }
    identified-effect bytes (Faulty why) is = unchanged _
    identified-effect bytes TooLong is = unchanged _

    identify_by-effect : (what : Shown) → identify_named what (identify_reading shape.mapped entry) ≡ named
        → IsEffect named c (λ memory. identify_by what shape.mapped entry c memory)
    identify_by-effect (Hidden why) is = unchanged _
    identify_by-effect (Structure bytes) is = identified-effect bytes (identify_reading shape.mapped entry) is

    abbrev own : List Named
    own = identify_named (shown shape.blocks entry) (identify_reading shape.mapped entry)

    done_by-effect : (opcode : AdminOpcode) → (is_identify (Some opcode) ≡ true → own ≡ named)
        → IsEffect named c (λ memory. done_by opcode shape.mapped shape.blocks entry c memory)
    done_by-effect DeleteIoSubmissionQueue is =
        either (qid entry == 0) _ _ (λ _. unchanged _) (λ some. delete_found-effect (submission_queue c (qid entry)) (some-number entry some))
    done_by-effect CreateIoSubmissionQueue is = create_submission-effect
    done_by-effect GetLogPage is = unchanged _
    done_by-effect DeleteIoCompletionQueue is = delete_completion-effect
    done_by-effect CreateIoCompletionQueue is = create_completion-effect
    done_by-effect Identify is = identify_by-effect (shown shape.blocks entry) (is refl)
    done_by-effect Abort is = unchanged _
    done_by-effect SetFeatures is = set_features-effect
    done_by-effect GetFeatures is = either (selector entry == number_of_queues) _ _ (λ _. unchanged _) (λ _. unchanged _)
    done_by-effect AsynchronousEventRequest is =
        either (nat_lt c.held_requests most_requests) _ _
        (λ _. same_memory (record c { held_requests = c.held_requests + 1 }) _ (λ cq e. e)) (λ _. unchanged _)

    opcode-effect : (opcode : Option AdminOpcode) → (is_identify opcode ≡ true → (psdt_of entry == 0) ≡ true → own ≡ named)
        → IsEffect named c (λ memory. done_with_opcode opcode shape.mapped shape.blocks entry c memory)
    opcode-effect None is = unchanged _
    opcode-effect (Some opcode) is =
        either (psdt_of entry == 0) _ _ (λ plain. done_by-effect opcode (λ it. is it plain)) (λ _. unchanged _)

all-three : (a b c : Bool) → a ≡ true → b ≡ true → c ≡ true → (a && b && c) ≡ true
all-three a b c x y z = rw (x, y, z) refl

-- an admin command's bytes go where it names a destination
pub command-effect : (shape : Shape) (entry : List ℕ) (c : Controller) → Completes c
    → IsEffect (admin_named shape entry) c (λ memory. admin_command shape.mapped shape.blocks entry c memory)
unfolding admin_command
command-effect shape entry c completes =
    either (admin_named shape entry) c (fuse_of entry == 0) _ _
    (λ lone.
    opcode-effect (admin_named shape entry) c shape entry completes (admin_opcode (opcode_of entry))
    (λ it plain.
    sym (ap (λ b. cond b (identify_named (shown shape.blocks entry) (identify_reading shape.mapped entry)) [])
    (all-three (fuse_of entry == 0) (is_identify (admin_opcode (opcode_of entry))) (psdt_of entry == 0) lone it plain))))
    (λ _. unchanged (admin_named shape entry) c _)

-- so is a deletion that waited, which names none
pub deletion-effect : (c : Controller) (y : ℕ)
    → IsEffect [] c (λ memory. answered 0 (record (with_submission c y None) { deletion = None }) memory)
deletion-effect c y = same_memory [] c (record (with_submission c y None) { deletion = None }) _ (deleted-keeps c y)
