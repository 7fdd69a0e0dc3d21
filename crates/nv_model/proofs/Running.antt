-- Each step of the private controller keeps its counts those of the bag, and its parts together.
use Rattle.std.proofs.Common.{◌≡◌, ℕ, zero, suc, ◌+◌, ◌<◌, Bool, true, false, ◌==◌, nat_lt, List, [], ◌∷◌, length, replicate, slice_get, slice_index, Option}
use Rattle.std.proofs.Common.{Some, None, IfSome, IsSome, is_none, arith, refl, sym, ◌∙◌, subst, ltb-true}
use Rattle.std.proofs.lemmas.Bool.Decides.{nat_tests}
use Rattle.nv_entry.specs.Status.{StatusField, bit}
use Rattle.nv_entry.specs.StatusCode.{done_with}
use Rattle.nv_entry.specs.Submission.{cid_of}
use Rattle.nv_entry.specs.declared.status_code.StatusCode.TheVariants.{InternalError}
use Rattle.nv_mem.specs.GuestMap.{everywhere}
use Rattle.nv_model.specs.declared.act.Act.{Act}
use Rattle.nv_model.specs.declared.act.Act.TheVariants as act
use Rattle.nv_model.specs.Memory.{bytes_from}
use Rattle.nv_model.specs.Judge.{WorkUnit, Work}
use Rattle.nv_model.specs.Queue.{sqe_size}
use Rattle.nv_model.specs.Controller.{Controller, Posted, doorbell, front, is_enabled, opening, post, queue_count, queue_of, ran_out, reg_read, reg_write, taken_less, taken_more, took}
use Rattle.nv_model.specs.Admin.{AdminStep, NothingToDo, QueueFull, Stepped, admin}
use Rattle.nv_model.specs.Private.{Acted, ActStep, AdminQueueStep, After, AtWork, Bag, Ended, GiveUpStep, JudgeStep, KeepStep, MoveStep, PostStep}
use Rattle.nv_model.specs.Private.{Private, Progress, Run, RunOutStep, Shape, Step, TakeStep, Taken, Unjudged, acted, administered, completed_at}
use Rattle.nv_model.specs.Private.{controlled, ending, further, given_up_at, judged_at, may_take, moved_at, others, posted_at, progress_of}
use Rattle.nv_model.specs.Private.{put, register_replied, run_of, run_out_at, start_with, step, taken_at, unit_done, unit_left, verdict_in, with_taken}
use Rattle.nv_model.specs.Running.{AlongEveryRun, AreCounted, IsConsistent, IsOfIoQueue, IsRunning, IsTogether}
use Rattle.nv_model.proofs.CountedBags.{counted-put, counted-some, index-less, index-more}
use Rattle.nv_model.proofs.Endings.{and-true}
use Rattle.nv_model.proofs.QueuesKept.{by_test}
use Rattle.nv_model.proofs.StepsKept.{further-state}
use Rattle.nv_model.proofs.TogetherAdmin.{IsAdminBehind, admin-together}
use Rattle.nv_model.proofs.TogetherKept.{IsBehind, IsPosted, doorbell-together, front-may, opening-together, post-together, ran_out-together, reg_write-together, took-together}

-- behind a step, where it can be made
abbrev pub AfterRuns : Option After → Type 0
AfterRuns o = IfSome o (λ a. IsRunning a.state)

-- ---- what changes in the counts and in the bag

-- a queue that is there has a number below their count
there-below : {Q : Type 0} (xs : List (Option Q)) (y : ℕ) → IsSome (queue_of (slice_get xs y)) → y < length xs
there-below [] y there = cc
there-below (x ∷ xs) zero there = omega arith
there-below (x ∷ xs) (suc y) there = let behind = there-below xs y there in omega arith

more-counts : (c : Controller) (queue y : ℕ) → 0 < queue → queue < length c.taken
    → slice_index (taken_more c queue) y ≡ slice_index c.taken y + bit (queue == y)
more-counts c queue y io below =
    let e : (queue == 0) ≡ false = grind (arith, nat_tests) in rw e (index-more c.taken queue y below)

less-counts : (c : Controller) (queue y : ℕ) → 0 < queue → queue < length c.taken → 0 < slice_index c.taken queue
    → slice_index (taken_less c queue) y + bit (queue == y) ≡ slice_index c.taken y
less-counts c queue y io below some =
    let e : (queue == 0) ≡ false = grind (arith, nat_tests) in rw e (index-less c.taken queue y below some)

-- a bag with something else of an I/O queue, or nothing, under a name
put-of_io : (bag : Bag) (name : ℕ) (member : Option Taken) → ((at : ℕ) → IfSome (bag at) IsOfIoQueue)
    → IfSome member IsOfIoQueue → (at : ℕ) → IfSome (put bag name member at) IsOfIoQueue
put-of_io bag name member each there at =
    by_test (λ o. IfSome o IsOfIoQueue) (at == name) member (bag at) (λ _. there) (λ _. each at)

-- ---- what keeps a controller and a bag consistent

-- a change of the controller alone that takes and completes nothing
pub behind-running : (c d : Controller) (bag : Bag) → IsConsistent c bag → IsBehind c d → IsConsistent d bag
behind-running c d bag was behind =
    record {
      counted = subst (λ (taken : List ℕ). AreCounted taken bag) (sym behind.1) was.counted;
      of_io_queues = was.of_io_queues;
      together = behind.0;
    }

-- a command goes on
progress-running : (c : Controller) (bag : Bag) (name : ℕ) (t : Taken) (progress : Progress) → IsConsistent c bag
    → bag name ≡ Some t
    → IsConsistent c (put bag name (Some (record t { progress = progress })))
progress-running c bag name t progress was is =
    record {
      counted = counted-put c.taken c.taken bag name (Some (record t { progress = progress })) was.counted (λ y. rw is refl);
      of_io_queues = put-of_io bag name (Some (record t { progress = progress })) was.of_io_queues (subst (λ o. IfSome o IsOfIoQueue) is (was.of_io_queues name));
      together = was.together;
    }

-- a command is taken
pub took-running : (c : Controller) (bag : Bag) (queue name addr : ℕ) (entry : List ℕ) → IsConsistent c bag → 0 < queue
    → bag name ≡ None → front c queue ≡ Some addr
    → IsConsistent (took c queue) (put bag name (Some (record { queue = queue; entry = entry; progress = Unjudged })))
took-running c bag queue name addr entry was io none found =
    let may = front-may c queue addr found in
    let behind = took-together c queue may was.together in
    let below : queue < queue_count = subst (λ (n : ℕ). queue < n) was.together.submission_count (there-below c.submission queue may.there) in
    let within : queue < length c.taken = subst (λ (n : ℕ). queue < n) (sym was.together.taken_count) below in
    let t : Taken = record { queue = queue; entry = entry; progress = Unjudged } in
    record {
      counted = subst (λ (taken : List ℕ). AreCounted taken (put bag name (Some t))) (sym behind.1)
          (counted-put c.taken (taken_more c queue) bag name (Some t) was.counted
          (λ y. let more = more-counts c queue y io within in rw (none, more) (omega arith)));
      of_io_queues = put-of_io bag name (Some t) was.of_io_queues (io, below);
      together = behind.0;
    }

-- a command leaves
pub left-running : (c d : Controller) (bag : Bag) (name : ℕ) (t : Taken) → IsConsistent c bag → bag name ≡ Some t
    → IsTogether d → d.taken ≡ taken_less c t.queue
    → IsConsistent d (put bag name None)
left-running c d bag name t was is together taken =
    let io = subst (λ o. IfSome o IsOfIoQueue) is (was.of_io_queues name) in
    let within : t.queue < length c.taken = subst (λ (n : ℕ). t.queue < n) (sym was.together.taken_count) io.1 in
    let some = counted-some c.taken bag name t was.counted is in
    record {
      counted = subst (λ (counts : List ℕ). AreCounted counts (put bag name None)) (sym taken)
          (counted-put c.taken (taken_less c t.queue) bag name None was.counted
          (λ y. let less = less-counts c t.queue y io.0 within some in rw is (less ∙ omega arith)));
      of_io_queues = put-of_io bag name None was.of_io_queues tt;
      together = together;
    }

-- ---- steps

module _ (shape : Shape) where
  controlled-running : (o : Option Controller) (p : Private) → IsRunning p → IfSome o (IsBehind p.controller)
      → IsRunning (controlled o p).state
  controlled-running None p was change = was
  controlled-running (Some c) p was change = behind-running p.controller c p.bag was change

  register_replied-running : (o : Option ℕ) (p : Private) → IsRunning p → IsRunning (register_replied o p).state
  register_replied-running None p was = was
  register_replied-running (Some value) p was = was

  pub acted-running : (a : Act) (p : Private) → IsRunning p → IsRunning (acted shape a p).state
  acted-running (act.Store addr bytes) p was =
      by_test (λ (a : Acted). IsRunning a.state) (everywhere shape.mapped addr (length bytes)) _ _ (λ _. was) (λ _. was)
  acted-running (act.Load addr len) p was =
      by_test (λ (a : Acted). IsRunning a.state) (everywhere shape.mapped addr len) _ _ (λ _. was) (λ _. was)
  acted-running (act.RegRead offset) p was = register_replied-running (reg_read p.controller offset) p was
  acted-running (act.RegWrite offset value) p was =
      controlled-running (reg_write shape.mapped p.controller offset value) p was (reg_write-together shape.mapped p.controller offset value was.together)
  acted-running (act.Doorbell offset value) p was =
      controlled-running (doorbell p.controller offset value) p was (doorbell-together p.controller offset value was.together)

  taken_at-running : (at : Option ℕ) (queue name : ℕ) (p : Private) → IsRunning p → may_take queue name p ≡ true
      → front p.controller queue ≡ at → AfterRuns (taken_at at queue name p)
  taken_at-running None queue name p was may found = tt
  taken_at-running (Some addr) queue name p was may found =
      let both = and-true (nat_lt 0 queue) (is_none (p.bag name)) may in
      took-running p.controller p.bag queue name addr (bytes_from p.memory addr sqe_size) was (ltb-true 0 queue both.0) (nothing (p.bag name) both.1) found
    where
      nothing : (o : Option Taken) → is_none o ≡ true → o ≡ None
      nothing None is = refl
      nothing (Some t) is = cc

  judged_at-running : (progress : Progress) (name : ℕ) (t : Taken) (p : Private) → IsRunning p → p.bag name ≡ Some t
      → AfterRuns (judged_at progress shape name t p)
  judged_at-running Unjudged name t p was is =
      progress-running p.controller p.bag name t (progress_of (verdict_in shape p.memory t.entry)) was is
  judged_at-running (Ended st) name t p was is = tt
  judged_at-running (AtWork work left differed) name t p was is = tt

  given_up_at-running : (progress : Progress) (name : ℕ) (t : Taken) (p : Private) → IsRunning p → p.bag name ≡ Some t
      → AfterRuns (given_up_at progress name t p)
  given_up_at-running Unjudged name t p was is =
      progress-running p.controller p.bag name t (Ended (done_with InternalError)) was is
  given_up_at-running (Ended st) name t p was is = tt
  given_up_at-running (AtWork work left differed) name t p was is = tt

  unit_done-running : (o : Option WorkUnit) (left : List ℕ) (work : Work) (differed : Bool) (name : ℕ) (t : Taken) (p : Private)
      → IsRunning p → p.bag name ≡ Some t
      → AfterRuns (unit_done o left work differed name t p)
  unit_done-running None left work differed name t p was is = tt
  unit_done-running (Some unit) left work differed name t p was is = progress-running p.controller p.bag name t _ was is

  moved_at-running : (progress : Progress) (number name : ℕ) (t : Taken) (p : Private) → IsRunning p
      → p.bag name ≡ Some t → AfterRuns (moved_at progress number name t p)
  moved_at-running Unjudged number name t p was is = tt
  moved_at-running (Ended st) number name t p was is = tt
  moved_at-running (AtWork work left differed) number name t p was is =
      unit_done-running (unit_left work left number) (others number left) work differed name t p was is

  posted_at-running : (o : Option Posted) (name : ℕ) (t : Taken) (p : Private) → IsRunning p → p.bag name ≡ Some t
      → IfSome o (IsPosted p.controller t.queue) → AfterRuns (posted_at o name p)
  posted_at-running None name t p was is posts = tt
  posted_at-running (Some r) name t p was is posts =
      left-running p.controller r.controller p.bag name t was is posts.0 posts.1

  completed_at-running : (o : Option StatusField) (name : ℕ) (t : Taken) (p : Private) → IsRunning p
      → p.bag name ≡ Some t → AfterRuns (completed_at o name t p)
  completed_at-running None name t p was is = tt
  completed_at-running (Some st) name t p was is =
      by_test AfterRuns (is_enabled p.controller) _ _
      (λ on. posted_at-running (post p.controller t.queue 0 (cid_of t.entry) st) name t p was is (post-together p.controller t.queue 0 (cid_of t.entry) st on was.together)) (λ _. tt)

  run_out_at-running : (o : Option StatusField) (name : ℕ) (t : Taken) (p : Private) → IsRunning p → p.bag name ≡ Some t
      → AfterRuns (run_out_at o name t p)
  run_out_at-running None name t p was is = tt
  run_out_at-running (Some st) name t p was is =
      by_test AfterRuns (is_enabled p.controller) _ _ (λ _. tt)
      (λ out. let behind = ran_out-together p.controller t.queue out was.together in
      left-running p.controller (ran_out p.controller t.queue) p.bag name t was is behind.0 behind.1)

  administered-running : (a : AdminStep) (p : Private) → IsRunning p → IsAdminBehind p.controller a
      → AfterRuns (administered a p)
  administered-running NothingToDo p was change = tt
  administered-running QueueFull p was change = tt
  administered-running (Stepped c memory) p was change = behind-running p.controller c p.bag was change

  with_taken-running : (bag : Bag) (name : ℕ) (o : Option Taken) (change : Taken → Option After) → bag name ≡ o
      → ((t : Taken) → bag name ≡ Some t → AfterRuns (change t)) → AfterRuns (with_taken o change)
  with_taken-running bag name None change is each = tt
  with_taken-running bag name (Some t) change is each = each t is

  -- each step keeps what holds along every run
  pub step-running : (s : Step) (p : Private) → IsRunning p → AfterRuns (step shape s p)
  unfolding step
  step-running (ActStep a) p was = acted-running a p was
  step-running (TakeStep queue name) p was =
      by_test AfterRuns (may_take queue name p) _ _ (λ may. taken_at-running (front p.controller queue) queue name p was may refl) (λ _. tt)
  step-running (JudgeStep name) p was =
      with_taken-running p.bag name (p.bag name) _ refl (λ t is. judged_at-running t.progress name t p was is)
  step-running (MoveStep name number) p was =
      with_taken-running p.bag name (p.bag name) _ refl (λ t is. moved_at-running t.progress number name t p was is)
  step-running (GiveUpStep name) p was =
      with_taken-running p.bag name (p.bag name) _ refl (λ t is. given_up_at-running t.progress name t p was is)
  step-running (PostStep name) p was =
      with_taken-running p.bag name (p.bag name) _ refl (λ t is. completed_at-running (ending t.progress) name t p was is)
  step-running (RunOutStep name) p was =
      with_taken-running p.bag name (p.bag name) _ refl (λ t is. run_out_at-running (ending t.progress) name t p was is)
  step-running AdminQueueStep p was =
      administered-running (admin shape.mapped shape.blocks p.controller p.memory) p was (admin-together shape.mapped shape.blocks p.controller p.memory was.together)
  step-running (KeepStep lba) p was = by_test AfterRuns (nat_lt lba shape.blocks) _ _ (λ _. was) (λ _. tt)

  -- ---- runs

  further-running : (o : Option After) (steps : List Step) → AfterRuns o
      → ((q : Private) → IsRunning q → IfSome (run_of shape steps q) (λ r. IsRunning r.state))
      → IfSome (further o (λ q. run_of shape steps q)) (λ r. IsRunning r.state)
  further-running None steps was rest = tt
  further-running (Some a) steps was rest =
      further-state (λ q. IsRunning q) a (run_of shape steps a.state) (rest a.state was)

  -- and so does each run
  pub run_of-running : (steps : List Step) (p : Private) → IsRunning p
      → IfSome (run_of shape steps p) (λ r. IsRunning r.state)
  unfolding run_of
  run_of-running [] p was = was
  run_of-running (s ∷ steps) p was =
      further-running (step shape s p) steps (step-running s p was) (λ q there. run_of-running steps q there)

-- it holds at the start
pub start-running : (memory : ℕ → ℕ) (disk : ℕ → ℕ → ℕ) → IsRunning (start_with memory disk)
unfolding opening
start-running memory disk =
    record {
      counted = record { bound = 0; none_beyond = λ name _. refl; count = λ queue. none queue_count queue };
      of_io_queues = λ name. tt;
      together = opening-together;
    }
  where
    none : (n queue : ℕ) → 0 ≡ slice_index (replicate n 0) queue
    none zero queue = refl
    none (suc n) zero = refl
    none (suc n) (suc queue) = none n queue

-- it holds along every run from a start
pub along-running : AlongEveryRun IsRunning
along-running memory disk shape steps r is =
    subst (λ (o : Option Run). IfSome o (λ e. IsRunning e.state)) is (run_of-running shape steps (start_with memory disk) (start-running memory disk))
