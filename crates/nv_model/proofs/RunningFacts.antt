-- What follows where the private controller's state is as it is along every run.
use Rattle.std.proofs.Common.{◌≡◌, ◌↔◌, ℕ, zero, suc, ◌<◌, inl, inr, Bool, true, false, cond, ◌==◌, List}
use Rattle.std.proofs.Common.{slice_get, slice_index, Option, Some, None, IfSome, IsSome, arith, refl, sym, ap, ◌∙◌, subst}
use Rattle.std.proofs.lemmas.Bool.{cases_lt}
use Rattle.std.proofs.lemmas.Bool.Decides.{nat_tests}
use Rattle.nv_entry.specs.Status.{StatusField}
use Rattle.nv_entry.specs.Submission.{cid_of}
use Rattle.nv_model.specs.Queue.{SubmissionQueue, CompletionQueue, is_full}
use Rattle.nv_model.specs.Controller.{Controller, Posted, completion_queue, is_enabled, post, post_from, post_to, queue_count, queue_of, ran_out, running, submission_queue}
use Rattle.nv_model.specs.Private.{After, Bag, PostStep, Private, RunOutStep, Shape, Taken, completed_at, ending, posted_at, put, run_out_at, step, with_taken}
use Rattle.nv_model.specs.Running.{HasTaken, IsConsistent, IsOfIoQueue, count_below, one_of}
use Rattle.nv_model.proofs.CountedBags.{counted-has, counted-some}
use Rattle.nv_model.proofs.TakenSums.{index-sum, sum-some}
use Rattle.nv_model.proofs.QueuesKept.{by_test}
use Rattle.nv_model.proofs.Together.{none-of}

-- what is there, by itself
pub record IsFound {A : Type 0} (o : Option A) : Type 0 where
  pub value : A
  pub is : o ≡ Some value

pub found : {A : Type 0} (o : Option A) → IsSome o → IsFound o
found None there = cc
found (Some a) there = record { value = a; is = refl }

-- ---- counts

-- a taken command's queue
pub taken-io : (c : Controller) (bag : Bag) (name : ℕ) (t : Taken) → IsConsistent c bag → bag name ≡ Some t
    → IsOfIoQueue t
taken-io c bag name t was is = subst (λ o. IfSome o IsOfIoQueue) is (was.of_io_queues name)

one_of-admin : (o : Option Taken) → IfSome o IsOfIoQueue → one_of 0 o ≡ 0
one_of-admin None io = refl
one_of-admin (Some t) io =
    let some = io.0 in let differ : (t.queue == 0) ≡ false = grind (arith, nat_tests) in rw differ refl

count-admin : (bag : Bag) (n : ℕ) → ((name : ℕ) → IfSome (bag name) IsOfIoQueue) → count_below bag 0 n ≡ 0
count-admin bag zero io = refl
count-admin bag (suc n) io = let here = one_of-admin (bag n) (io n) in let rest = count-admin bag n io in omega arith

-- no admin command is counted
pub admin-none : (c : Controller) (bag : Bag) → IsConsistent c bag → slice_index c.taken 0 ≡ 0
admin-none c bag was = sym (was.counted.count 0) ∙ count-admin bag was.counted.bound was.of_io_queues

-- where none is counted, none is taken
none-member : (c : Controller) (bag : Bag) (name : ℕ) (o : Option Taken) → IsConsistent c bag → running c ≡ 0
    → bag name ≡ o → o ≡ None
none-member c bag name None was none is = refl
none-member c bag name (Some t) was none is =
    let some = counted-some c.taken bag name t was.counted is in
    let whole = index-sum c.taken t.queue in
    absurd (omega arith)

pub none-taken : (c : Controller) (bag : Bag) → IsConsistent c bag → running c ≡ 0 → (name : ℕ) → bag name ≡ None
none-taken c bag was none name = none-member c bag name (bag name) was none refl

-- where some are counted, one is taken
pub some-taken : (c : Controller) (bag : Bag) → IsConsistent c bag → 0 < running c → HasTaken bag
some-taken c bag was more = let some = sum-some c.taken more in counted-has c.taken bag some.place was.counted some.some

-- where none is taken, none is counted
pub none-counted : (c : Controller) (bag : Bag) → IsConsistent c bag → ((name : ℕ) → bag name ≡ None) → running c ≡ 0
none-counted c bag was none =
    elim (cases_lt 0 (running c)) [
      | inl more ↦ let one = some-taken c bag was more in let bad : None ≡ Some one.command = sym (none one.name) ∙ one.is_there in cc
      | inr less ↦ omega arith
    ]

-- ---- queues

pub submission-there : (c : Controller) (bag : Bag) (name : ℕ) (t : Taken) → IsConsistent c bag → is_enabled c ≡ true
    → bag name ≡ Some t → IsSome (submission_queue c t.queue)
submission-there c bag name t was on is =
    was.together.taken_there on t.queue (counted-some c.taken bag name t was.counted is)

pub completion-there : (c : Controller) (bag : Bag) (y : ℕ) (q : SubmissionQueue) → IsConsistent c bag
    → submission_queue c y ≡ Some q → IsSome (completion_queue c q.completes_to)
completion-there c bag y q was is =
    subst (λ o. IfSome o (λ (s : SubmissionQueue). IsSome (completion_queue c s.completes_to))) is (was.together.completes y)

-- while EN is 0 no queue is there
pub none-there : (c : Controller) (bag : Bag) (y : ℕ) → IsConsistent c bag → is_enabled c ≡ false
    → (submission_queue c y ≡ None) × (completion_queue c y ≡ None)
none-there c bag y was out =
    let none = was.together.none_there out in (
      ap (λ (qs : List (Option SubmissionQueue)). queue_of (slice_get qs y)) none.0 ∙ none-of queue_count y,
      ap (λ (qs : List (Option CompletionQueue)). queue_of (slice_get qs y)) none.1 ∙ none-of queue_count y,
    )

-- ---- RDY

pub taken-ready : (c : Controller) (bag : Bag) (name : ℕ) (t : Taken) → IsConsistent c bag → bag name ≡ Some t
    → c.ready ≡ true
taken-ready c bag name t was is = was.together.taken_ready t.queue (counted-some c.taken bag name t was.counted is)

-- while EN is 0, RDY is 1 exactly where a command is taken
pub ready-taken : (c : Controller) (bag : Bag) → IsConsistent c bag → is_enabled c ≡ false
    → (c.ready ≡ true) ↔ HasTaken bag
ready-taken c bag was out = (
  λ up. some-taken c bag was (was.together.ready_taken out up),
  λ one. taken-ready c bag one.name one.command was one.is_there,
)

-- ---- completions

-- a completion where both queues are there
post-is : (c : Controller) (y dw0 cid : ℕ) (st : StatusField) (q : SubmissionQueue) (cq : CompletionQueue)
    → submission_queue c y ≡ Some q → completion_queue c q.completes_to ≡ Some cq
    → post c y dw0 cid st ≡ post_to (Some cq) c q y dw0 cid st
unfolding post
post-is c y dw0 cid st q cq from to =
    ap (λ (o : Option SubmissionQueue). post_from o c y dw0 cid st) from
    ∙ ap (λ (o : Option CompletionQueue). post_to o c q y dw0 cid st) to

if-none : {A : Type 0} (b : Bool) (a : A) → (cond b None (Some a) ≡ None) ↔ (b ≡ true)
if-none true a = (λ _. refl, λ _. refl)
if-none false a = (λ is. cc, λ is. cc)

-- it can't be posted exactly where the completion queue is full
pub post-full : (c : Controller) (y dw0 cid : ℕ) (st : StatusField) (q : SubmissionQueue) (cq : CompletionQueue)
    → submission_queue c y ≡ Some q → completion_queue c q.completes_to ≡ Some cq
    → (post c y dw0 cid st ≡ None) ↔ (is_full cq.size cq.head cq.tail ≡ true)
post-full c y dw0 cid st q cq from to =
    subst (λ (o : Option Posted). (o ≡ None) ↔ (is_full cq.size cq.head cq.tail ≡ true)) (sym (post-is c y dw0 cid st q cq from to))
    (if-none (is_full cq.size cq.head cq.tail) _)

-- the step that posts it
step-post : (shape : Shape) (p : Private) (name : ℕ) (t : Taken) (st : StatusField) → is_enabled p.controller ≡ true
    → p.bag name ≡ Some t → ending t.progress ≡ Some st
    → step shape (PostStep name) p ≡ posted_at (post p.controller t.queue 0 (cid_of t.entry) st) name p
unfolding step
step-post shape p name t st on is ends =
    ap (λ (o : Option Taken). with_taken o (λ t. completed_at (ending t.progress) name t p)) is
    ∙ ap (λ (o : Option StatusField). completed_at o name t p) ends
    ∙ ap (λ (b : Bool). cond b (posted_at (post p.controller t.queue 0 (cid_of t.entry) st) name p) None) on

posted-if : (b : Bool) (r : Posted) (name : ℕ) (p : Private)
    → IsSome (posted_at (cond b None (Some r)) name p) ↔ (b ≡ false)
posted-if true r name p = (λ is. cc, λ is. cc)
posted-if false r name p = (λ _. refl, λ _. refl)

-- can be made exactly where it is not
pub post_step-free : (shape : Shape) (p : Private) (name : ℕ) (t : Taken) (st : StatusField) (q : SubmissionQueue) (cq : CompletionQueue)
    → is_enabled p.controller ≡ true → p.bag name ≡ Some t → ending t.progress ≡ Some st
    → submission_queue p.controller t.queue ≡ Some q → completion_queue p.controller q.completes_to ≡ Some cq
    → IsSome (step shape (PostStep name) p) ↔ (is_full cq.size cq.head cq.tail ≡ false)
post_step-free shape p name t st q cq on is ends from to =
    let whole : step shape (PostStep name) p ≡ posted_at (post_to (Some cq) p.controller q t.queue 0 (cid_of t.entry) st) name p =
    step-post shape p name t st on is ends
    ∙ ap (λ (o : Option Posted). posted_at o name p) (post-is p.controller t.queue 0 (cid_of t.entry) st q cq from to) in
    subst (λ (o : Option After). IsSome o ↔ (is_full cq.size cq.head cq.tail ≡ false)) (sym whole)
    (posted-if (is_full cq.size cq.head cq.tail) _ name p)

-- ---- commands that run out

-- behind a command that ran out: EN was 0, and its name is free
pub record HasRunOut (p : Private) (name : ℕ) (a : After) : Type 0 where
  pub out : is_enabled a.state.controller ≡ false
  pub bag : a.state.bag ≡ put p.bag name None

ran_out-cc : (c : Controller) (y : ℕ) → is_enabled (ran_out c y) ≡ is_enabled c
unfolding ran_out
ran_out-cc c y = refl

run_out_at-has : (o : Option StatusField) (name : ℕ) (t : Taken) (p : Private)
    → IfSome (run_out_at o name t p) (HasRunOut p name)
run_out_at-has None name t p = tt
run_out_at-has (Some st) name t p =
    by_test (λ o. IfSome o (HasRunOut p name)) (is_enabled p.controller) _ _ (λ _. tt)
    (λ out. record { out = ran_out-cc p.controller t.queue ∙ out; bag = refl })

with_taken-has : (o : Option Taken) (name : ℕ) (p : Private)
    → IfSome (with_taken o (λ t. run_out_at (ending t.progress) name t p)) (HasRunOut p name)
with_taken-has None name p = tt
with_taken-has (Some t) name p = run_out_at-has (ending t.progress) name t p

pub step-runs_out : (shape : Shape) (name : ℕ) (p : Private) (a : After) → step shape (RunOutStep name) p ≡ Some a
    → HasRunOut p name a
unfolding step
step-runs_out shape name p a is =
    subst (λ (o : Option After). IfSome o (HasRunOut p name)) is (with_taken-has (p.bag name) name p)
