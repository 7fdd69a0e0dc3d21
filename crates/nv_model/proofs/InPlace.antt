-- Each step keeps a state in place: its queues in mapped memory, and its commands at work in mapped memory and in the namespace.
use Rattle.std.proofs.Common.{◌≡◌, ℕ, Bool, ◌==◌, nat_lt, List, [], ◌∷◌, length, All, Option, Some, None, IfSome, refl}
use Rattle.nv_entry.specs.Submission.{cid_of}
use Rattle.nv_entry.specs.Status.{StatusField}
use Rattle.nv_entry.specs.StatusCode.{done_with}
use Rattle.nv_entry.specs.declared.status_code.StatusCode.TheVariants.{InternalError}
use Rattle.nv_mem.specs.GuestMap.{everywhere}
use Rattle.nv_model.specs.declared.act.Act.{Act}
use Rattle.nv_model.specs.declared.act.Act.TheVariants as act
use Rattle.nv_model.specs.Memory.{bytes_from}
use Rattle.nv_model.specs.Judge.{Go, Refuse, Verdict, Work, WorkUnit}
use Rattle.nv_model.specs.Queue.{sqe_size}
use Rattle.nv_model.specs.Controller.{Controller, Posted, doorbell, front, is_enabled, post, reg_read, reg_write}
use Rattle.nv_model.specs.Admin.{AdminStep, NothingToDo, QueueFull, Stepped, admin}
use Rattle.nv_model.specs.Private.{Acted, ActStep, AdminQueueStep, After, AtWork, Bag, Ended, GiveUpStep, JudgeStep, KeepStep, MoveStep, PostStep}
use Rattle.nv_model.specs.Private.{Private, Progress, RunOutStep, Shape, Step, TakeStep, Taken, Unjudged, acted, administered, completed_at}
use Rattle.nv_model.specs.Private.{controlled, ending, further, given_up_at, judged_at, may_take, moved_at, others, posted_at, progress_of, put}
use Rattle.nv_model.specs.Private.{register_replied, run_of, run_out_at, start_with, step, taken_at, unit_done, unit_left, verdict_in, with_taken}
use Rattle.nv_model.specs.Laws.{IsCompletionInPlace, IsInPlace, IsMappedPiece, IsProgressInPlace, IsSubmissionInPlace, IsTakenInPlace, IsUnitWithin, QueuesInPlace}
use Rattle.nv_model.proofs.Judged.{verdict-sound}
use Rattle.nv_model.proofs.QueuesKept.{QueuesHave-opening, by_test}
use Rattle.nv_model.proofs.QueueOrder.{IsKept-in_place}
use Rattle.nv_model.proofs.StepsKept.{further-state, step-kept}

-- each command of the bag is in place
abbrev pub BagInPlace : Shape → Bag → Type 0
BagInPlace shape bag = (name : ℕ) → IsTakenInPlace shape (bag name)

-- so it is behind a step
abbrev AfterBag : Shape → Option After → Type 0
AfterBag shape o = IfSome o (λ a. BagInPlace shape a.state.bag)

module _ (shape : Shape) where
  -- a verdict that goes is in place
  progress_of-in_place : (memory : ℕ → ℕ) (entry : List ℕ) (verdict : Verdict) → verdict_in shape memory entry ≡ verdict
      → IsProgressInPlace shape (progress_of verdict)
  progress_of-in_place memory entry (Refuse st) is = tt
  progress_of-in_place memory entry (Go work) is =
      let sound = verdict-sound shape.mapped shape.limit shape.blocks entry memory work is in
      (sound.mapped_each, sound.within)

  -- the bag with something under a name
  put-in_place : (bag : Bag) (name : ℕ) (member : Option Taken) → BagInPlace shape bag → IsTakenInPlace shape member
      → BagInPlace shape (put bag name member)
  put-in_place bag name member each there at =
      by_test (IsTakenInPlace shape) (at == name) member (bag at) (λ _. there) (λ _. each at)

  controlled-bag : (o : Option Controller) (p : Private) → BagInPlace shape p.bag
      → BagInPlace shape (controlled o p).state.bag
  controlled-bag None p each = each
  controlled-bag (Some c) p each = each

  register_replied-bag : (o : Option ℕ) (p : Private) → BagInPlace shape p.bag
      → BagInPlace shape (register_replied o p).state.bag
  register_replied-bag None p each = each
  register_replied-bag (Some value) p each = each

  acted-bag : (a : Act) (p : Private) → BagInPlace shape p.bag → BagInPlace shape (acted shape a p).state.bag
  acted-bag (act.Store addr bytes) p each =
      by_test (λ (a : Acted). BagInPlace shape a.state.bag) (everywhere shape.mapped addr (length bytes)) _ _ (λ _. each) (λ _. each)
  acted-bag (act.Load addr len) p each =
      by_test (λ (a : Acted). BagInPlace shape a.state.bag) (everywhere shape.mapped addr len) _ _ (λ _. each) (λ _. each)
  acted-bag (act.RegRead offset) p each = register_replied-bag (reg_read p.controller offset) p each
  acted-bag (act.RegWrite offset value) p each =
      controlled-bag (reg_write shape.mapped p.controller offset value) p each
  acted-bag (act.Doorbell offset value) p each = controlled-bag (doorbell p.controller offset value) p each

  taken_at-bag : (at : Option ℕ) (queue name : ℕ) (p : Private) → BagInPlace shape p.bag
      → AfterBag shape (taken_at at queue name p)
  taken_at-bag None queue name p each = tt
  taken_at-bag (Some addr) queue name p each =
      put-in_place p.bag name (Some (record { queue = queue; entry = bytes_from p.memory addr sqe_size; progress = Unjudged })) each tt

  judged_at-bag : (progress : Progress) (name : ℕ) (t : Taken) (p : Private) → BagInPlace shape p.bag
      → AfterBag shape (judged_at progress shape name t p)
  judged_at-bag Unjudged name t p each =
      put-in_place p.bag name (Some (record t { progress = progress_of (verdict_in shape p.memory t.entry) })) each
      (progress_of-in_place p.memory t.entry (verdict_in shape p.memory t.entry) refl)
  judged_at-bag (Ended st) name t p each = tt
  judged_at-bag (AtWork work left differed) name t p each = tt

  given_up_at-bag : (progress : Progress) (name : ℕ) (t : Taken) (p : Private) → BagInPlace shape p.bag
      → AfterBag shape (given_up_at progress name t p)
  given_up_at-bag Unjudged name t p each =
      put-in_place p.bag name (Some (record t { progress = Ended (done_with InternalError) })) each tt
  given_up_at-bag (Ended st) name t p each = tt
  given_up_at-bag (AtWork work left differed) name t p each = tt

  unit_done-bag : (o : Option WorkUnit) (left : List ℕ) (work : Work) (differed : Bool) (name : ℕ) (t : Taken) (p : Private)
      → BagInPlace shape p.bag → All (IsMappedPiece shape.mapped) work.pieces
      → All (IsUnitWithin shape.blocks) work.units
      → AfterBag shape (unit_done o left work differed name t p)
  unit_done-bag None left work differed name t p each pieces units = tt
  unit_done-bag (Some unit) left work differed name t p each pieces units =
      put-in_place p.bag name (Some _) each (pieces, units)

  moved_at-bag : (progress : Progress) (number name : ℕ) (t : Taken) (p : Private) → BagInPlace shape p.bag
      → IsProgressInPlace shape progress
      → AfterBag shape (moved_at progress number name t p)
  moved_at-bag Unjudged number name t p each there = tt
  moved_at-bag (Ended st) number name t p each there = tt
  moved_at-bag (AtWork work left differed) number name t p each there =
      unit_done-bag (unit_left work left number) (others number left) work differed name t p each there.0 there.1

  posted_at-bag : (o : Option Posted) (name : ℕ) (p : Private) → BagInPlace shape p.bag
      → AfterBag shape (posted_at o name p)
  posted_at-bag None name p each = tt
  posted_at-bag (Some posted) name p each = put-in_place p.bag name None each tt

  completed_at-bag : (o : Option StatusField) (name : ℕ) (t : Taken) (p : Private) → BagInPlace shape p.bag
      → AfterBag shape (completed_at o name t p)
  completed_at-bag None name t p each = tt
  completed_at-bag (Some st) name t p each =
      by_test (AfterBag shape) (is_enabled p.controller) _ _ (λ _. posted_at-bag (post p.controller t.queue 0 (cid_of t.entry) st) name p each) (λ _. tt)

  run_out_at-bag : (o : Option StatusField) (name : ℕ) (t : Taken) (p : Private) → BagInPlace shape p.bag
      → AfterBag shape (run_out_at o name t p)
  run_out_at-bag None name t p each = tt
  run_out_at-bag (Some st) name t p each =
      by_test (AfterBag shape) (is_enabled p.controller) _ _ (λ _. tt) (λ _. put-in_place p.bag name None each tt)

  administered-bag : (a : AdminStep) (p : Private) → BagInPlace shape p.bag → AfterBag shape (administered a p)
  administered-bag NothingToDo p each = tt
  administered-bag QueueFull p each = tt
  administered-bag (Stepped c memory) p each = each

  with_taken-bag : (o : Option Taken) (change : Taken → Option After) → IsTakenInPlace shape o
      → ((t : Taken) → IsProgressInPlace shape t.progress → AfterBag shape (change t))
      → AfterBag shape (with_taken o change)
  with_taken-bag None change there each = tt
  with_taken-bag (Some t) change there each = each t there

  step-bag : (s : Step) (p : Private) → BagInPlace shape p.bag → AfterBag shape (step shape s p)
  unfolding step
  step-bag (ActStep a) p each = acted-bag a p each
  step-bag (TakeStep queue name) p each =
      by_test (AfterBag shape) (may_take queue name p) _ _ (λ _. taken_at-bag (front p.controller queue) queue name p each) (λ _. tt)
  step-bag (JudgeStep name) p each =
      with_taken-bag (p.bag name) _ (each name) (λ t there. judged_at-bag t.progress name t p each)
  step-bag (MoveStep name number) p each =
      with_taken-bag (p.bag name) _ (each name) (λ t there. moved_at-bag t.progress number name t p each there)
  step-bag (GiveUpStep name) p each =
      with_taken-bag (p.bag name) _ (each name) (λ t there. given_up_at-bag t.progress name t p each)
  step-bag (PostStep name) p each =
      with_taken-bag (p.bag name) _ (each name) (λ t there. completed_at-bag (ending t.progress) name t p each)
  step-bag (RunOutStep name) p each =
      with_taken-bag (p.bag name) _ (each name) (λ t there. run_out_at-bag (ending t.progress) name t p each)
  step-bag AdminQueueStep p each = administered-bag (admin shape.mapped shape.blocks p.controller p.memory) p each
  step-bag (KeepStep lba) p each = by_test (AfterBag shape) (nat_lt lba shape.blocks) _ _ (λ _. each) (λ _. tt)

  both-in_place : (o : Option After) → IfSome o (λ a. QueuesInPlace shape.mapped a.state.controller) → AfterBag shape o
      → IfSome o (λ a. IsInPlace shape a.state)
  both-in_place None queues bag = tt
  both-in_place (Some a) queues bag = record { queues = queues; taken = bag }

  -- each step keeps a state in place
  pub step-in_place : (s : Step) (p : Private) → IsInPlace shape p
      → IfSome (step shape s p) (λ a. IsInPlace shape a.state)
  step-in_place s p place =
      both-in_place (step shape s p)
      (step-kept shape (IsSubmissionInPlace shape.mapped) (IsCompletionInPlace shape.mapped) (IsKept-in_place shape.mapped) s p place.queues)
      (step-bag s p place.taken)

  -- and so is the start
  pub IsInPlace-start : (memory : ℕ → ℕ) (disk : ℕ → ℕ → ℕ) → IsInPlace shape (start_with memory disk)
  IsInPlace-start memory disk =
      record {
        queues = QueuesHave-opening shape.mapped (IsSubmissionInPlace shape.mapped) (IsCompletionInPlace shape.mapped) (IsKept-in_place shape.mapped);
        taken = λ name. tt;
      }

  further-in_place : (o : Option After) (steps : List Step) → IfSome o (λ a. IsInPlace shape a.state)
      → ((q : Private) → IsInPlace shape q → IfSome (run_of shape steps q) (λ r. IsInPlace shape r.state))
      → IfSome (further o (λ q. run_of shape steps q)) (λ r. IsInPlace shape r.state)
  further-in_place None steps place rest = tt
  further-in_place (Some a) steps place rest =
      further-state (λ q. IsInPlace shape q) a (run_of shape steps a.state) (rest a.state place)

  -- and so does each run
  pub run_of-in_place : (steps : List Step) (p : Private) → IsInPlace shape p
      → IfSome (run_of shape steps p) (λ r. IsInPlace shape r.state)
  unfolding run_of
  run_of-in_place [] p place = place
  run_of-in_place (s ∷ steps) p place =
      further-in_place (step shape s p) steps (step-in_place s p place) (λ q there. run_of-in_place steps q there)
