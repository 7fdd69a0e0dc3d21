-- What a controller does keeps what its queues have.
use Rattle.std.proofs.Common.{◌≡◌, ℕ, zero, suc, ◌-◌, ◌*◌, ◌/◌, ◌%◌, ◌<◌, Bool, true, false, cond, not, ◌&&◌, ◌==◌, nat_lt, nat_le, List, [], ◌∷◌, set}
use Rattle.std.proofs.Common.{slice_get, All, Option, Some, None, IfSome, refl, sym, ap, ◌∙◌, subst, eqb-true, ltb-true}
use Rattle.std.proofs.lemmas.List.Elements.{All-head, All-tail, All-set, All-replicate}
use Rattle.nv_entry.specs.Layout.{bits}
use Rattle.nv_entry.specs.Status.{StatusField}
use Rattle.nv_mem.specs.GuestMap.{everywhere}
use Rattle.nv_model.specs.Queue.{SubmissionQueue, CompletionQueue, ahead, front_taken, is_full, new_completion, new_submission, after_post, sqe_size, cqe_size}
use Rattle.nv_model.specs.Controller.{Controller, Posted, admin_completion_base, admin_completion_size, admin_register_written, admin_submission_base}
use Rattle.nv_model.specs.Controller.{admin_submission_size, base_fits, can_enable, cc_written, completion_queue, doorbell, enabled, head_rung}
use Rattle.nv_model.specs.Controller.{is_enabled, is_ready, no_queues, opening, post, post_from, post_to, queue_count, queue_of, ran_out, reg_write}
use Rattle.nv_model.specs.Controller.{reset, rung, running, size_fits, submission_queue, tail_rung, took, took_of, with_completion, with_submission}
use Rattle.nv_model.specs.Laws.{QueuesHave}
use Rattle.nv_model.specs.Limits.{page}
use Rattle.nv_model.proofs.Endings.{and-true}

-- ---- by cases

-- what both of two values have, the one that a test chooses has
pub by_test : {A : Type 0} (P : A → Type 0) (b : Bool) (x y : A) → (b ≡ true → P x) → (b ≡ false → P y) → P (cond b x y)
by_test P true x y so not_so = so refl
by_test P false x y so not_so = not_so refl

-- four tests
pub all_four : (a b c d : Bool) → (a && b && c && d) ≡ true → (a ≡ true) × (b ≡ true) × (c ≡ true) × (d ≡ true)
all_four true true true true all = (refl, refl, refl, refl)
all_four true true true false all = cc
all_four true true false d all = cc
all_four true false c d all = cc
all_four false b c d all = cc

-- a queue that is found
queue_of-found : {Q : Type 0} (P : Q → Type 0) (xs : List (Option Q)) (y : ℕ) (q : Q) → All (λ o. IfSome o P) xs
    → queue_of (slice_get xs y) ≡ Some q → P q
queue_of-found P [] y q each found = cc
queue_of-found P (x ∷ xs) zero q each found = subst (λ o. IfSome o P) found (All-head (λ o. IfSome o P) x xs each)
queue_of-found P (x ∷ xs) (suc y) q each found = queue_of-found P xs y q (All-tail (λ o. IfSome o P) x xs each) found

-- and changed
pub queue_of-set : {Q : Type 0} (xs : List (Option Q)) (y : ℕ) (q new : Q) → queue_of (slice_get xs y) ≡ Some q
    → queue_of (slice_get (set xs y (Some new)) y) ≡ Some new
queue_of-set [] y q new found = cc
queue_of-set (x ∷ xs) zero q new found = refl
queue_of-set (x ∷ xs) (suc y) q new found = queue_of-set xs y q new found

-- what queues have that each change of a queue keeps
pub record IsKept (mapped : ℕ → Bool) (P : SubmissionQueue → Type 0) (Q : CompletionQueue → Type 0) : Type 0 where
  pub new_submission : (base size to : ℕ) → size_fits size ≡ true → base % page ≡ 0 → everywhere mapped base (sqe_size * size) ≡ true
      → P (new_submission base size to)
  pub new_completion : (base size : ℕ) (vector : Option ℕ) → size_fits size ≡ true → base % page ≡ 0
      → everywhere mapped base (cqe_size * size) ≡ true → Q (new_completion base size vector)
  pub front_taken : (q : SubmissionQueue) → P q → P (front_taken q)
  pub tail_rung : (q : SubmissionQueue) (tail : ℕ) → tail < q.size → P q → P (record q { tail = tail })
  pub closing : (q : SubmissionQueue) → P q → P (record q { closing = true })
  pub posted : (q : CompletionQueue) → Q q → Q (after_post q)
  pub head_rung : (q : CompletionQueue) (head : ℕ) → head < q.size → Q q → Q (record q { head = head })

no_queues-have : (Q : Type 0) (P : Q → Type 0) → All (λ o. IfSome o P) (no_queues {Q = Q})
no_queues-have Q P = All-replicate (λ o. IfSome o P) queue_count None tt

-- what the queues behind a completion have
abbrev pub HaveBehind : (P : SubmissionQueue → Type 0) (Q : CompletionQueue → Type 0) → Option Posted → Type 0
HaveBehind P Q o = IfSome o (λ r. QueuesHave P Q r.controller)

module _ (mapped : ℕ → Bool) (P : SubmissionQueue → Type 0) (Q : CompletionQueue → Type 0) (closed : IsKept mapped P Q) where
  pub submission_queue-has : (c : Controller) (y : ℕ) (q : SubmissionQueue) → QueuesHave P Q c
      → submission_queue c y ≡ Some q → P q
  submission_queue-has c y q order found = queue_of-found P c.submission y q order.submission_queues found

  pub completion_queue-has : (c : Controller) (y : ℕ) (q : CompletionQueue) → QueuesHave P Q c
      → completion_queue c y ≡ Some q → Q q
  completion_queue-has c y q order found = queue_of-found Q c.completion_queues y q order.completion_queues found

  -- a controller with the same queues
  pub QueuesHave-same : (c d : Controller) → QueuesHave P Q c → d.submission ≡ c.submission
      → d.completion_queues ≡ c.completion_queues → QueuesHave P Q d
  QueuesHave-same c d order submission completion =
      record {
        submission_queues = subst (λ qs. All (λ o. IfSome o P) qs) (sym submission) order.submission_queues;
        completion_queues = subst (λ qs. All (λ o. IfSome o Q) qs) (sym completion) order.completion_queues;
      }

  -- a queue changes
  pub QueuesHave-with_submission : (c : Controller) (y : ℕ) (o : Option SubmissionQueue) → QueuesHave P Q c → IfSome o P
      → QueuesHave P Q (with_submission c y o)
  QueuesHave-with_submission c y o order is =
      record { submission_queues = All-set (λ o. IfSome o P) c.submission y o is order.submission_queues; completion_queues = order.completion_queues }

  pub QueuesHave-with_completion : (c : Controller) (y : ℕ) (o : Option CompletionQueue) → QueuesHave P Q c → IfSome o Q
      → QueuesHave P Q (with_completion c y o)
  QueuesHave-with_completion c y o order is =
      record { submission_queues = order.submission_queues; completion_queues = All-set (λ o. IfSome o Q) c.completion_queues y o is order.completion_queues }

  -- the start
  pub QueuesHave-opening : QueuesHave P Q opening
  unfolding opening
  QueuesHave-opening = record { submission_queues = no_queues-have SubmissionQueue P; completion_queues = no_queues-have CompletionQueue Q }

  QueuesHave-enabled : (c : Controller) → QueuesHave P Q c → QueuesHave P Q (enabled mapped c)
  QueuesHave-enabled c order =
      by_test (QueuesHave P Q) (can_enable mapped c) _ _
      (λ can.
      let all = all_four (size_fits (admin_submission_size c)) (size_fits (admin_completion_size c))
      (base_fits mapped (admin_submission_base c) (sqe_size * admin_submission_size c)) (base_fits mapped (admin_completion_base c) (cqe_size * admin_completion_size c)) can in
      let submission_there = and-true (admin_submission_base c % 4096 == 0) (everywhere mapped (admin_submission_base c) (sqe_size * admin_submission_size c)) all.2 in
      let completion_there = and-true (admin_completion_base c % 4096 == 0) (everywhere mapped (admin_completion_base c) (cqe_size * admin_completion_size c)) all.3 in
      record {
        submission_queues = All-set (λ o. IfSome o P) c.submission 0 _ (closed.new_submission (admin_submission_base c) (admin_submission_size c) 0 all.0 (eqb-true (admin_submission_base c % 4096) 0 submission_there.0) submission_there.1) order.submission_queues;
        completion_queues = All-set (λ o. IfSome o Q) c.completion_queues 0 _
            (closed.new_completion (admin_completion_base c) (admin_completion_size c) (Some 0) all.1 (eqb-true (admin_completion_base c % 4096) 0 completion_there.0) completion_there.1) order.completion_queues;
      })
      (λ can_not. QueuesHave-same c _ order refl refl)

  QueuesHave-reset : (c : Controller) → QueuesHave P Q (reset c)
  QueuesHave-reset c = record { submission_queues = no_queues-have SubmissionQueue P; completion_queues = no_queues-have CompletionQueue Q }

  cc_written-kept : (was now : Bool) (c : Controller) (value : ℕ) → QueuesHave P Q c
      → IfSome (cc_written was now mapped c value) (QueuesHave P Q)
  cc_written-kept true true c value order = QueuesHave-same c _ order refl refl
  cc_written-kept false false c value order = QueuesHave-same c _ order refl refl
  cc_written-kept true false c value order = QueuesHave-reset (record c { cc = value })
  cc_written-kept false true c value order =
      by_test (λ o. IfSome o (QueuesHave P Q)) (running c == 0) _ _
      (λ none. QueuesHave-enabled (record c { cc = value }) (QueuesHave-same c _ order refl refl)) (λ some. tt)

  admin_register_written-kept : (c : Controller) (offset value : ℕ) → QueuesHave P Q c
      → IfSome (admin_register_written c offset value) (QueuesHave P Q)
  admin_register_written-kept c offset value order =
      by_test (λ o. IfSome o (QueuesHave P Q)) (is_enabled c) _ _ (λ _. tt) (λ _.
      by_test (λ o. IfSome o (QueuesHave P Q)) (offset == 0x24) _ _ (λ _. QueuesHave-same c _ order refl refl) (λ _.
      by_test (λ o. IfSome o (QueuesHave P Q)) (offset == 0x28) _ _ (λ _. QueuesHave-same c _ order refl refl) (λ _.
      by_test (λ o. IfSome o (QueuesHave P Q)) (offset == 0x2c) _ _ (λ _. QueuesHave-same c _ order refl refl) (λ _.
      by_test (λ o. IfSome o (QueuesHave P Q)) (offset == 0x30) _ _ (λ _. QueuesHave-same c _ order refl refl) (λ _.
      by_test (λ o. IfSome o (QueuesHave P Q)) (offset == 0x34) _ _ (λ _. QueuesHave-same c _ order refl refl) (λ _. tt))))))

  pub reg_write-kept : (c : Controller) (offset value : ℕ) → QueuesHave P Q c
      → IfSome (reg_write mapped c offset value) (QueuesHave P Q)
  unfolding reg_write
  reg_write-kept c offset value order =
      by_test (λ o. IfSome o (QueuesHave P Q)) (offset == 0x14) _ _
      (λ _. cc_written-kept (is_enabled c) (bits value 0 0 == 1) c value order)
      (λ _. admin_register_written-kept c offset value order)

  -- ---- doorbells

  tail_rung-kept : (found : Option SubmissionQueue) (c : Controller) (y tail : ℕ) → QueuesHave P Q c
      → submission_queue c y ≡ found → IfSome (tail_rung found c y tail) (QueuesHave P Q)
  tail_rung-kept None c y tail order is = tt
  tail_rung-kept (Some q) c y tail order is =
      let was = submission_queue-has c y q order is in
      by_test (λ o. IfSome o (QueuesHave P Q)) (not q.closing && nat_lt tail q.size) _ _
      (λ taken.
      let below = (and-true (not q.closing) (nat_lt tail q.size) taken).1 in
      QueuesHave-with_submission c y (Some (record q { tail = tail })) order
      (closed.tail_rung q tail (ltb-true tail q.size below) was))
      (λ _. tt)

  head_rung-kept : (found : Option CompletionQueue) (c : Controller) (y head : ℕ) → QueuesHave P Q c
      → completion_queue c y ≡ found → IfSome (head_rung found c y head) (QueuesHave P Q)
  head_rung-kept None c y head order is = tt
  head_rung-kept (Some q) c y head order is =
      let was = completion_queue-has c y q order is in
      by_test (λ o. IfSome o (QueuesHave P Q)) (nat_lt head q.size && nat_le (ahead q.size q.head head) (ahead q.size q.head q.tail)) _ _
      (λ taken.
      let below = (and-true (nat_lt head q.size) _ taken).0 in
      QueuesHave-with_completion c y (Some (record q { head = head })) order
      (closed.head_rung q head (ltb-true head q.size below) was))
      (λ _. tt)

  rung-kept : (c : Controller) (y in_pair value : ℕ) → QueuesHave P Q c
      → IfSome (rung c y in_pair value) (QueuesHave P Q)
  rung-kept c y in_pair value order =
      by_test (λ o. IfSome o (QueuesHave P Q)) (in_pair == 0) _ _ (λ _. tail_rung-kept (submission_queue c y) c y value order refl) (λ _.
      by_test (λ o. IfSome o (QueuesHave P Q)) (in_pair == 4) _ _ (λ _. head_rung-kept (completion_queue c y) c y value order refl) (λ _. tt))

  pub doorbell-kept : (c : Controller) (offset value : ℕ) → QueuesHave P Q c
      → IfSome (doorbell c offset value) (QueuesHave P Q)
  unfolding doorbell
  doorbell-kept c offset value order =
      by_test (λ o. IfSome o (QueuesHave P Q)) (is_ready c && nat_le 0x1000 offset) _ _
      (λ _. rung-kept c ((offset - 0x1000) / 8) ((offset - 0x1000) % 8) (bits value 15 0) order) (λ _. tt)

  -- ---- commands

  took_of-kept : (found : Option SubmissionQueue) (c : Controller) (y : ℕ) → QueuesHave P Q c
      → submission_queue c y ≡ found → QueuesHave P Q (took_of found c y)
  took_of-kept None c y order is = order
  took_of-kept (Some q) c y order is =
      let was = submission_queue-has c y q order is in
      QueuesHave-same (with_submission c y (Some (front_taken q))) _
      (QueuesHave-with_submission c y (Some (front_taken q)) order (closed.front_taken q was)) refl refl

  pub took-kept : (c : Controller) (y : ℕ) → QueuesHave P Q c → QueuesHave P Q (took c y)
  unfolding took
  took-kept c y order = took_of-kept (submission_queue c y) c y order refl

  post_to-kept : (found : Option CompletionQueue) (c : Controller) (q : SubmissionQueue) (y dw0 cid : ℕ) (st : StatusField)
      → QueuesHave P Q c → completion_queue c q.completes_to ≡ found → HaveBehind P Q (post_to found c q y dw0 cid st)
  post_to-kept None c q y dw0 cid st order is = tt
  post_to-kept (Some cq) c q y dw0 cid st order is =
      let was = completion_queue-has c q.completes_to cq order is in
      by_test (HaveBehind P Q) (is_full cq.size cq.head cq.tail) _ _ (λ _. tt)
      (λ _. QueuesHave-same (with_completion c q.completes_to (Some (after_post cq))) _
      (QueuesHave-with_completion c q.completes_to (Some (after_post cq)) order (closed.posted cq was)) refl refl)

  post_from-kept : (found : Option SubmissionQueue) (c : Controller) (y dw0 cid : ℕ) (st : StatusField)
      → QueuesHave P Q c → HaveBehind P Q (post_from found c y dw0 cid st)
  post_from-kept None c y dw0 cid st order = tt
  post_from-kept (Some q) c y dw0 cid st order =
      post_to-kept (completion_queue c q.completes_to) c q y dw0 cid st order refl

  pub post-kept : (c : Controller) (y dw0 cid : ℕ) (st : StatusField) → QueuesHave P Q c
      → HaveBehind P Q (post c y dw0 cid st)
  unfolding post
  post-kept c y dw0 cid st order = post_from-kept (submission_queue c y) c y dw0 cid st order

  pub ran_out-kept : (c : Controller) (y : ℕ) → QueuesHave P Q c → QueuesHave P Q (ran_out c y)
  unfolding ran_out
  ran_out-kept c y order = QueuesHave-same c _ order refl refl

-- ---- a completion

-- where a completion is posted, its queue was not full, and holds one more behind it
pub record IsPost (cq : CompletionQueue) (to : ℕ) (r : Posted) : Type 0 where
  pub had_room : is_full cq.size cq.head cq.tail ≡ false
  pub behind : completion_queue r.controller to ≡ Some (after_post cq)

post_to-posts : (c : Controller) (q : SubmissionQueue) (cq : CompletionQueue) (y dw0 cid : ℕ) (st : StatusField)
    → completion_queue c q.completes_to ≡ Some cq
    → IfSome (post_to (Some cq) c q y dw0 cid st) (IsPost cq q.completes_to)
post_to-posts c q cq y dw0 cid st is =
    by_test (λ o. IfSome o (IsPost cq q.completes_to)) (is_full cq.size cq.head cq.tail) _ _ (λ _. tt)
    (λ room. record { had_room = room; behind = queue_of-set c.completion_queues q.completes_to cq (after_post cq) is })

pub post-posts : (c : Controller) (y dw0 cid : ℕ) (st : StatusField) (q : SubmissionQueue) (cq : CompletionQueue) (r : Posted)
    → submission_queue c y ≡ Some q → completion_queue c q.completes_to ≡ Some cq → post c y dw0 cid st ≡ Some r
    → IsPost cq q.completes_to r
unfolding post
post-posts c y dw0 cid st q cq r from to posts =
    let one : post_to (Some cq) c q y dw0 cid st ≡ post_from (submission_queue c y) c y dw0 cid st =
    ap (λ (o : Option CompletionQueue). post_to o c q y dw0 cid st) (sym to)
    ∙ ap (λ (o : Option SubmissionQueue). post_from o c y dw0 cid st) (sym from) in
    subst (λ (o : Option Posted). IfSome o (IsPost cq q.completes_to)) (one ∙ posts) (post_to-posts c q cq y dw0 cid st to)
