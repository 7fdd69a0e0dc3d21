-- What the steps of the private controller do keeps what its queues have.
use Rattle.std.proofs.Common.{ℕ, Bool, nat_lt, List, [], ◌∷◌, length, Option, Some, None, IfSome}
use Rattle.nv_entry.specs.Submission.{cid_of}
use Rattle.nv_entry.specs.Status.{StatusField}
use Rattle.nv_mem.specs.GuestMap.{everywhere}
use Rattle.nv_model.specs.declared.act.Act.{Act}
use Rattle.nv_model.specs.declared.act.Act.TheVariants as act
use Rattle.nv_model.specs.Judge.{WorkUnit, Work}
use Rattle.nv_model.specs.Controller.{Controller, Posted, doorbell, front, is_enabled, post, reg_read, reg_write}
use Rattle.nv_model.specs.Admin.{AdminStep, NothingToDo, QueueFull, Stepped, admin}
use Rattle.nv_model.specs.Private.{Acted, ActStep, AdminQueueStep, After, AtWork, Ended, GiveUpStep, JudgeStep, KeepStep, MoveStep}
use Rattle.nv_model.specs.Private.{PostStep, Private, Progress, Run, RunOutStep, Shape, Step, TakeStep, Taken, Unjudged, acted, administered}
use Rattle.nv_model.specs.Private.{completed_at, controlled, ending, further, given_up_at, judged_at, may_take, moved_at, others}
use Rattle.nv_model.specs.Private.{posted_at, register_replied, run_of, run_out_at, step, taken_at, unit_done, unit_left, with_taken}
use Rattle.nv_model.specs.Queue.{SubmissionQueue, CompletionQueue}
use Rattle.nv_model.specs.Laws.{QueuesHave}
use Rattle.nv_model.proofs.QueuesKept.{HaveBehind, IsKept, QueuesHave-opening, by_test, doorbell-kept, post-kept, ran_out-kept, reg_write-kept, took-kept}
use Rattle.nv_model.proofs.AdminKept.{AdminHas, admin-kept}

-- what the queues behind a step have
abbrev pub AfterHas : (P : SubmissionQueue → Type 0) (Q : CompletionQueue → Type 0) → Option After → Type 0
AfterHas P Q o = IfSome o (λ a. QueuesHave P Q a.state.controller)

-- what the end of the rest of a run has, that of the run has
pub further-state : (P : Private → Type 0) (after : After) (tail : Option Run) → IfSome tail (λ r. P r.state)
    → IfSome (further (Some after) (λ _. tail)) (λ r. P r.state)
further-state P after None ends = tt
further-state P after (Some run) ends = ends

module _ (shape : Shape) (P : SubmissionQueue → Type 0) (Q : CompletionQueue → Type 0) (closed : IsKept shape.mapped P Q) where
  controlled-kept : (o : Option Controller) (p : Private) → QueuesHave P Q p.controller → IfSome o (QueuesHave P Q)
      → QueuesHave P Q (controlled o p).state.controller
  controlled-kept None p order change = order
  controlled-kept (Some c) p order change = change

  register_replied-kept : (o : Option ℕ) (p : Private) → QueuesHave P Q p.controller
      → QueuesHave P Q (register_replied o p).state.controller
  register_replied-kept None p order = order
  register_replied-kept (Some value) p order = order

  acted-kept : (a : Act) (p : Private) → QueuesHave P Q p.controller → QueuesHave P Q (acted shape a p).state.controller
  acted-kept (act.Store addr bytes) p order =
      by_test (λ (a : Acted). QueuesHave P Q a.state.controller) (everywhere shape.mapped addr (length bytes)) _ _ (λ _. order) (λ _. order)
  acted-kept (act.Load addr len) p order =
      by_test (λ (a : Acted). QueuesHave P Q a.state.controller) (everywhere shape.mapped addr len) _ _ (λ _. order) (λ _. order)
  acted-kept (act.RegRead offset) p order = register_replied-kept (reg_read p.controller offset) p order
  acted-kept (act.RegWrite offset value) p order =
      controlled-kept (reg_write shape.mapped p.controller offset value) p order (reg_write-kept shape.mapped P Q closed p.controller offset value order)
  acted-kept (act.Doorbell offset value) p order =
      controlled-kept (doorbell p.controller offset value) p order (doorbell-kept shape.mapped P Q closed p.controller offset value order)

  taken_at-kept : (at : Option ℕ) (queue name : ℕ) (p : Private) → QueuesHave P Q p.controller
      → AfterHas P Q (taken_at at queue name p)
  taken_at-kept None queue name p order = tt
  taken_at-kept (Some addr) queue name p order = took-kept shape.mapped P Q closed p.controller queue order

  judged_at-kept : (progress : Progress) (name : ℕ) (t : Taken) (p : Private) → QueuesHave P Q p.controller
      → AfterHas P Q (judged_at progress shape name t p)
  judged_at-kept Unjudged name t p order = order
  judged_at-kept (Ended st) name t p order = tt
  judged_at-kept (AtWork work left differed) name t p order = tt

  given_up_at-kept : (progress : Progress) (name : ℕ) (t : Taken) (p : Private) → QueuesHave P Q p.controller
      → AfterHas P Q (given_up_at progress name t p)
  given_up_at-kept Unjudged name t p order = order
  given_up_at-kept (Ended st) name t p order = tt
  given_up_at-kept (AtWork work left differed) name t p order = tt

  unit_done-kept : (o : Option WorkUnit) (left : List ℕ) (work : Work) (differed : Bool) (name : ℕ) (t : Taken) (p : Private)
      → QueuesHave P Q p.controller → AfterHas P Q (unit_done o left work differed name t p)
  unit_done-kept None left work differed name t p order = tt
  unit_done-kept (Some unit) left work differed name t p order = order

  moved_at-kept : (progress : Progress) (number name : ℕ) (t : Taken) (p : Private) → QueuesHave P Q p.controller
      → AfterHas P Q (moved_at progress number name t p)
  moved_at-kept Unjudged number name t p order = tt
  moved_at-kept (Ended st) number name t p order = tt
  moved_at-kept (AtWork work left differed) number name t p order =
      unit_done-kept (unit_left work left number) (others number left) work differed name t p order

  posted_at-kept : (o : Option Posted) (name : ℕ) (p : Private) → HaveBehind P Q o → AfterHas P Q (posted_at o name p)
  posted_at-kept None name p order = tt
  posted_at-kept (Some posted) name p order = order

  completed_at-kept : (o : Option StatusField) (name : ℕ) (t : Taken) (p : Private) → QueuesHave P Q p.controller
      → AfterHas P Q (completed_at o name t p)
  completed_at-kept None name t p order = tt
  completed_at-kept (Some st) name t p order =
      by_test (AfterHas P Q) (is_enabled p.controller) _ _
      (λ _. posted_at-kept (post p.controller t.queue 0 (cid_of t.entry) st) name p (post-kept shape.mapped P Q closed p.controller t.queue 0 (cid_of t.entry) st order)) (λ _. tt)

  run_out_at-kept : (o : Option StatusField) (name : ℕ) (t : Taken) (p : Private) → QueuesHave P Q p.controller
      → AfterHas P Q (run_out_at o name t p)
  run_out_at-kept None name t p order = tt
  run_out_at-kept (Some st) name t p order =
      by_test (AfterHas P Q) (is_enabled p.controller) _ _ (λ _. tt) (λ _. ran_out-kept shape.mapped P Q closed p.controller t.queue order)

  administered-kept : (a : AdminStep) (p : Private) → AdminHas P Q a → AfterHas P Q (administered a p)
  administered-kept NothingToDo p order = tt
  administered-kept QueueFull p order = tt
  administered-kept (Stepped c memory) p order = order

  with_taken-kept : (o : Option Taken) (change : Taken → Option After) → ((t : Taken) → AfterHas P Q (change t))
      → AfterHas P Q (with_taken o change)
  with_taken-kept None change each = tt
  with_taken-kept (Some t) change each = each t

  -- each step keeps the queues in order
  pub step-kept : (s : Step) (p : Private) → QueuesHave P Q p.controller → AfterHas P Q (step shape s p)
  unfolding step
  step-kept (ActStep a) p order = acted-kept a p order
  step-kept (TakeStep queue name) p order =
      by_test (AfterHas P Q) (may_take queue name p) _ _ (λ _. taken_at-kept (front p.controller queue) queue name p order) (λ _. tt)
  step-kept (JudgeStep name) p order = with_taken-kept (p.bag name) _ (λ t. judged_at-kept t.progress name t p order)
  step-kept (MoveStep name number) p order =
      with_taken-kept (p.bag name) _ (λ t. moved_at-kept t.progress number name t p order)
  step-kept (GiveUpStep name) p order = with_taken-kept (p.bag name) _ (λ t. given_up_at-kept t.progress name t p order)
  step-kept (PostStep name) p order =
      with_taken-kept (p.bag name) _ (λ t. completed_at-kept (ending t.progress) name t p order)
  step-kept (RunOutStep name) p order =
      with_taken-kept (p.bag name) _ (λ t. run_out_at-kept (ending t.progress) name t p order)
  step-kept AdminQueueStep p order =
      administered-kept (admin shape.mapped shape.blocks p.controller p.memory) p (admin-kept shape.mapped P Q closed shape.blocks p.controller p.memory order)
  step-kept (KeepStep lba) p order = by_test (AfterHas P Q) (nat_lt lba shape.blocks) _ _ (λ _. order) (λ _. tt)

  -- ---- runs

  run_further-kept : (steps : List Step) (o : Option After) → AfterHas P Q o
      → ((q : Private) → QueuesHave P Q q.controller → IfSome (run_of shape steps q) (λ r. QueuesHave P Q r.state.controller))
      → IfSome (further o (λ q. run_of shape steps q)) (λ r. QueuesHave P Q r.state.controller)
  run_further-kept steps None order rest = tt
  run_further-kept steps (Some after) order rest =
      further-state (λ q. QueuesHave P Q q.controller) after (run_of shape steps after.state) (rest after.state order)

  -- each run keeps the queues in order
  pub run_of-kept : (steps : List Step) (p : Private) → QueuesHave P Q p.controller
      → IfSome (run_of shape steps p) (λ r. QueuesHave P Q r.state.controller)
  unfolding run_of
  run_of-kept [] p order = order
  run_of-kept (s ∷ steps) p order =
      run_further-kept steps (step shape s p) (step-kept s p order) (λ q there. run_of-kept steps q there)
