-- What a controller's registers, doorbells and commands do keeps its parts together.
use Rattle.std.proofs.Common.{◌≡◌, ℕ, ◌+◌, ◌-◌, ◌/◌, ◌%◌, ◌<◌, Bool, true, false, cond, not, ◌&&◌, ◌==◌, nat_lt, nat_le, List, length, set, slice_get}
use Rattle.std.proofs.Common.{slice_index, sum, Option, Some, None, IfSome, IsSome, arith, refl, sym, ◌∙◌, subst, eqb-true}
use Rattle.std.proofs.lemmas.List.{length-set}
use Rattle.nv_entry.specs.Layout.{bits}
use Rattle.nv_entry.specs.Status.{StatusField}
use Rattle.nv_model.specs.Queue.{SubmissionQueue, CompletionQueue, ahead, front_taken, is_full, new_completion, new_submission, after_post}
use Rattle.nv_model.specs.Controller.{Controller, Deletion, Posted, admin_completion_base, admin_completion_size, admin_register_written}
use Rattle.nv_model.specs.Controller.{admin_submission_base, admin_submission_size, can_enable, cc_written, completion_queue, doorbell, front}
use Rattle.nv_model.specs.Controller.{front_of, head_rung, is_enabled, is_ready, opening, post, post_from, post_to, queue_count, queue_of, ran_out}
use Rattle.nv_model.specs.Controller.{reg_write, reset, rung, running, submission_queue, tail_rung, taken_less, taken_more, took, took_of}
use Rattle.nv_model.specs.Running.{GoTogether, IsTogether}
use Rattle.nv_model.proofs.Endings.{and-true}
use Rattle.nv_model.proofs.QueuesKept.{by_test}
use Rattle.nv_model.proofs.TakenSums.{index-of-less, index-of-more, index-sum, sum-is-some, sum-not-zero, sum-zero}
use Rattle.nv_model.proofs.Together.{completion-put, none-of, put-there, submission-put, taken-put, there-put}

-- behind a change that takes and completes nothing
abbrev pub IsBehind : Controller → Controller → Type 0
IsBehind c d = IsTogether d × (d.taken ≡ c.taken)

-- the queue that was found has what the queues of that number have
completes-found : (c : Controller) (y : ℕ) (q : SubmissionQueue) → IsTogether c → submission_queue c y ≡ Some q
    → IsSome (completion_queue c q.completes_to)
completes-found c y q g is =
    subst (λ o. IfSome o (λ (s : SubmissionQueue). IsSome (completion_queue c s.completes_to))) is (g.completes y)

-- ---- registers

-- a controller whose CC has this EN
abbrev With : Bool → Controller → Type 0
With is c = GoTogether is c.ready c.submission c.completion_queues c.taken c.deletion

pub opening-together : IsTogether opening
unfolding opening
opening-together =
    record {
      submission_count = refl;
      completion_count = refl;
      taken_count = refl;
      completes = λ y. subst (λ o. IfSome o (λ (s : SubmissionQueue). IsSome (completion_queue opening s.completes_to))) (sym (none-of queue_count y)) tt;
      taken_there = λ is y some. (let none = index-sum opening.taken y in absurd (omega arith));
      admin_there = λ is up. cc;
      none_there = λ _. (refl, refl);
      taken_ready = λ y some. (let none = index-sum opening.taken y in absurd (omega arith));
      ready_taken = λ _ up. cc;
      deletion_there = tt;
    }

reset-together : (was : Bool) (c : Controller) → With was c
    → GoTogether false (reset c).ready (reset c).submission (reset c).completion_queues c.taken None
reset-together was c g =
    record {
      submission_count = refl;
      completion_count = refl;
      taken_count = g.taken_count;
      completes = λ y. subst (λ o. IfSome o (λ (s : SubmissionQueue). IsSome (completion_queue (reset c) s.completes_to))) (sym (none-of queue_count y)) tt;
      taken_there = λ is. cc;
      admin_there = λ is up. cc;
      none_there = λ _. (refl, refl);
      taken_ready = λ y some.
          (let whole = index-sum c.taken y in let up = sum-is-some c.taken (omega arith) in let was = g.taken_ready y some in rw (was, up) refl);
      ready_taken = λ _ up. sum-not-zero (sum c.taken) (and-true c.ready (not (sum c.taken == 0)) up).1;
      deletion_there = tt;
    }

-- EN rises while no command is taken; RDY is 0 then
enabled-together : (c : Controller) (up : Bool) → (sum c.taken == 0) ≡ true → (up ≡ true → c.ready ≡ true)
    → GoTogether false c.ready c.submission c.completion_queues c.taken c.deletion
    → GoTogether true up c.submission c.completion_queues c.taken c.deletion
enabled-together c up none was g =
    record {
      submission_count = g.submission_count;
      completion_count = g.completion_count;
      taken_count = g.taken_count;
      completes = g.completes;
      taken_there = λ _ y some. (let idle = sum-zero c.taken y none in absurd (omega arith));
      admin_there = λ _ is. (let busy = g.ready_taken refl (was is) in let idle : sum c.taken ≡ 0 = eqb-true (sum c.taken) 0 none in absurd (omega arith));
      none_there = λ is. cc;
      taken_ready = λ y some. (let idle = sum-zero c.taken y none in absurd (omega arith));
      ready_taken = λ is. cc;
      deletion_there = g.deletion_there;
    }

-- RDY rises with the admin queues
ready-put : (ss : List (Option SubmissionQueue)) (cs : List (Option CompletionQueue)) (taken : List ℕ) (deletion : Option Deletion)
    → IsSome (queue_of (slice_get ss 0)) → IsSome (queue_of (slice_get cs 0))
    → GoTogether true false ss cs taken deletion → GoTogether true true ss cs taken deletion
ready-put ss cs taken deletion submission completion g =
    record {
      submission_count = g.submission_count;
      completion_count = g.completion_count;
      taken_count = g.taken_count;
      completes = g.completes;
      taken_there = g.taken_there;
      admin_there = λ _ _. (submission, completion);
      none_there = g.none_there;
      taken_ready = λ _ _. refl;
      ready_taken = λ is. cc;
      deletion_there = g.deletion_there;
    }

-- the first of as many as there are queues
first-number : (n : ℕ) → n ≡ queue_count → 0 < n
first-number n is = omega arith

-- the admin queues are made
admin-together : (c : Controller) (sq : SubmissionQueue) (cq : CompletionQueue) → sq.completes_to ≡ 0
    → (sum c.taken == 0) ≡ true
    → GoTogether false c.ready c.submission c.completion_queues c.taken c.deletion
    → GoTogether true true (set c.submission 0 (Some sq)) (set c.completion_queues 0 (Some cq)) c.taken c.deletion
admin-together c sq cq to none g =
    let both = enabled-together c false none (λ is. cc) g in
    let completes = put-there c.completion_queues 0 cq (first-number (length c.completion_queues) g.completion_count) in
    let submits = put-there c.submission 0 sq (first-number (length c.submission) g.submission_count) in
    let one = completion-put true false c.submission c.completion_queues c.taken c.deletion refl 0 cq both in
    let two = submission-put true false c.submission (set c.completion_queues 0 (Some cq)) c.taken c.deletion refl 0 sq
    (subst (λ (y : ℕ). IsSome (queue_of (slice_get (set c.completion_queues 0 (Some cq)) y))) (sym to) completes) one in
    ready-put (set c.submission 0 (Some sq)) (set c.completion_queues 0 (Some cq)) c.taken c.deletion submits completes two

cc_written-together : (mapped : ℕ → Bool) (was now : Bool) (c : Controller) (value : ℕ) → (bits value 0 0 == 1) ≡ now
    → With was c → IfSome (cc_written was now mapped c value) (IsBehind c)
cc_written-together mapped true true c value is g = (subst (λ (e : Bool). With e c) (sym is) g, refl)
cc_written-together mapped false false c value is g = (subst (λ (e : Bool). With e c) (sym is) g, refl)
cc_written-together mapped true false c value is g =
    (subst (λ (e : Bool). With e (reset c)) (sym is) (reset-together true c g), refl)
cc_written-together mapped false true c value is g =
    by_test (λ o. IfSome o (IsBehind c)) (running c == 0) _ _
    (λ none. by_test (IsBehind c) (can_enable mapped (record c { cc = value })) _ _
    (λ _.
    let sq = new_submission (admin_submission_base c) (admin_submission_size c) 0 in
    let cq = new_completion (admin_completion_base c) (admin_completion_size c) (Some 0) in (
      subst (λ (e : Bool). GoTogether e true (set c.submission 0 (Some sq)) (set c.completion_queues 0 (Some cq)) c.taken c.deletion) (sym is)
          (admin-together c sq cq refl none g),
      refl,
    ))
    (λ _. (subst (λ (e : Bool). With e c) (sym is) (enabled-together c c.ready none (λ up. up) g), refl)))
    (λ _. tt)

admin_register_written-together : (c : Controller) (offset value : ℕ) → IsTogether c
    → IfSome (admin_register_written c offset value) (IsBehind c)
admin_register_written-together c offset value g =
    by_test (λ o. IfSome o (IsBehind c)) (is_enabled c) _ _ (λ _. tt) (λ _.
    by_test (λ o. IfSome o (IsBehind c)) (offset == 0x24) _ _ (λ _. (g, refl)) (λ _.
    by_test (λ o. IfSome o (IsBehind c)) (offset == 0x28) _ _ (λ _. (g, refl)) (λ _.
    by_test (λ o. IfSome o (IsBehind c)) (offset == 0x2c) _ _ (λ _. (g, refl)) (λ _.
    by_test (λ o. IfSome o (IsBehind c)) (offset == 0x30) _ _ (λ _. (g, refl)) (λ _.
    by_test (λ o. IfSome o (IsBehind c)) (offset == 0x34) _ _ (λ _. (g, refl)) (λ _. tt))))))

pub reg_write-together : (mapped : ℕ → Bool) (c : Controller) (offset value : ℕ) → IsTogether c
    → IfSome (reg_write mapped c offset value) (IsBehind c)
unfolding reg_write
reg_write-together mapped c offset value g =
    by_test (λ o. IfSome o (IsBehind c)) (offset == 0x14) _ _
    (λ _. cc_written-together mapped (is_enabled c) (bits value 0 0 == 1) c value refl g)
    (λ _. admin_register_written-together c offset value g)

-- ---- doorbells

tail_rung-together : (found : Option SubmissionQueue) (c : Controller) (y tail : ℕ) → is_enabled c ≡ true → IsTogether c
    → submission_queue c y ≡ found → IfSome (tail_rung found c y tail) (IsBehind c)
tail_rung-together None c y tail on g is = tt
tail_rung-together (Some q) c y tail on g is =
    by_test (λ o. IfSome o (IsBehind c)) (not q.closing && nat_lt tail q.size) _ _
    (λ _. (submission-put (is_enabled c) c.ready c.submission c.completion_queues c.taken c.deletion on y (record q { tail = tail }) (completes-found c y q g is) g, refl))
    (λ _. tt)

head_rung-together : (found : Option CompletionQueue) (c : Controller) (y head : ℕ) → is_enabled c ≡ true → IsTogether c
    → IfSome (head_rung found c y head) (IsBehind c)
head_rung-together None c y head on g = tt
head_rung-together (Some q) c y head on g =
    by_test (λ o. IfSome o (IsBehind c)) (nat_lt head q.size && nat_le (ahead q.size q.head head) (ahead q.size q.head q.tail)) _ _
    (λ _. (completion-put (is_enabled c) c.ready c.submission c.completion_queues c.taken c.deletion on y (record q { head = head }) g, refl))
    (λ _. tt)

rung-together : (c : Controller) (y in_pair value : ℕ) → is_enabled c ≡ true → IsTogether c
    → IfSome (rung c y in_pair value) (IsBehind c)
rung-together c y in_pair value on g =
    by_test (λ o. IfSome o (IsBehind c)) (in_pair == 0) _ _ (λ _. tail_rung-together (submission_queue c y) c y value on g refl) (λ _.
    by_test (λ o. IfSome o (IsBehind c)) (in_pair == 4) _ _ (λ _. head_rung-together (completion_queue c y) c y value on g) (λ _. tt))

pub doorbell-together : (c : Controller) (offset value : ℕ) → IsTogether c
    → IfSome (doorbell c offset value) (IsBehind c)
unfolding doorbell
doorbell-together c offset value g =
    by_test (λ o. IfSome o (IsBehind c)) (is_ready c && nat_le 0x1000 offset) _ _
    (λ fits.
    let up = (and-true (is_ready c) (nat_le 0x1000 offset) fits).0 in
    let on = (and-true (is_enabled c) c.ready up).0 in
    rung-together c ((offset - 0x1000) / 8) ((offset - 0x1000) % 8) (bits value 15 0) on g) (λ _. tt)

-- ---- commands

-- a queue that has a front entry is there
front_of-there : (o : Option SubmissionQueue) (addr : ℕ) → front_of o ≡ Some addr → IsSome o
front_of-there None addr is = cc
front_of-there (Some q) addr is = refl

-- what is known where a command may be taken
pub record MayTake (c : Controller) (y : ℕ) : Type 0 where
  pub on : is_enabled c ≡ true
  pub up : c.ready ≡ true
  pub there : IsSome (submission_queue c y)

pub front-may : (c : Controller) (y addr : ℕ) → front c y ≡ Some addr → MayTake c y
unfolding front
front-may c y addr found = by_ready (is_ready c) refl found
  where
    by_ready : (b : Bool) → is_ready c ≡ b → cond b (front_of (submission_queue c y)) None ≡ Some addr → MayTake c y
    by_ready true is there =
        let both = and-true (is_enabled c) c.ready is in
        record { on = both.0; up = both.1; there = front_of-there (submission_queue c y) addr there }
    by_ready false is bad = cc

took_of-together : (found : Option SubmissionQueue) (c : Controller) (y : ℕ) → MayTake c y → IsTogether c
    → submission_queue c y ≡ found
    → IsTogether (took_of found c y) × ((took_of found c y).taken ≡ taken_more c y)
took_of-together None c y may g is =
    let bad : IsSome {T = SubmissionQueue} None = subst (λ (o : Option SubmissionQueue). IsSome o) is may.there in cc
took_of-together (Some q) c y may g is =
    let front = submission-put (is_enabled c) c.ready c.submission c.completion_queues c.taken c.deletion may.on y (front_taken q) (completes-found c y q g is) g in (
      by_test (λ (taken : List ℕ). GoTogether (is_enabled c) c.ready (set c.submission y (Some (front_taken q))) c.completion_queues taken c.deletion) (y == 0) _ _
          (λ _. front)
          (λ _. taken-put (is_enabled c) c.ready (set c.submission y (Some (front_taken q))) c.completion_queues c.taken c.deletion may.on
          (set c.taken y (slice_index c.taken y + 1)) (length-set c.taken y (slice_index c.taken y + 1) ∙ g.taken_count)
          (λ z some. (
            there-put c.submission y (front_taken q) z
                (index-of-more (λ n. IsSome (submission_queue c n)) c.taken y z may.there (λ was. g.taken_there may.on z was) some),
            may.up,
          )) front),
      refl,
    )

pub took-together : (c : Controller) (y : ℕ) → MayTake c y → IsTogether c
    → IsTogether (took c y) × ((took c y).taken ≡ taken_more c y)
unfolding took
took-together c y may g = took_of-together (submission_queue c y) c y may g refl

-- ---- completions

-- behind a completion, or behind a command that runs out, a queue has one taken command less
less-count : (c : Controller) (y : ℕ) → IsTogether c → length (taken_less c y) ≡ queue_count
less-count c y g =
    by_test (λ (taken : List ℕ). length taken ≡ queue_count) (y == 0) _ _ (λ _. g.taken_count)
    (λ _. length-set c.taken y (slice_index c.taken y - 1) ∙ g.taken_count)

less-some : (c : Controller) (y z : ℕ) → 0 < slice_index (taken_less c y) z → 0 < slice_index c.taken z
less-some c y z =
    by_test (λ (taken : List ℕ). 0 < slice_index taken z → 0 < slice_index c.taken z) (y == 0) _ _ (λ _ some. some)
    (λ _ some. index-of-less c.taken y z some)

-- behind a completion of queue y
abbrev pub IsPosted : Controller → ℕ → Posted → Type 0
IsPosted c y r = IsTogether r.controller × (r.controller.taken ≡ taken_less c y) × (r.controller.deletion ≡ c.deletion)

post_to-together : (found : Option CompletionQueue) (c : Controller) (q : SubmissionQueue) (y dw0 cid : ℕ) (st : StatusField)
    → is_enabled c ≡ true → IsTogether c
    → IfSome (post_to found c q y dw0 cid st) (IsPosted c y)
post_to-together None c q y dw0 cid st on g = tt
post_to-together (Some cq) c q y dw0 cid st on g =
    by_test (λ o. IfSome o (IsPosted c y)) (is_full cq.size cq.head cq.tail) _ _ (λ _. tt)
    (λ _. (
      taken-put (is_enabled c) c.ready c.submission (set c.completion_queues q.completes_to (Some (after_post cq))) c.taken c.deletion on (taken_less c y) (less-count c y g)
          (λ z some. (g.taken_there on z (less-some c y z some), g.taken_ready z (less-some c y z some)))
          (completion-put (is_enabled c) c.ready c.submission c.completion_queues c.taken c.deletion on q.completes_to (after_post cq) g),
      refl,
      refl,
    ))

post_from-together : (found : Option SubmissionQueue) (c : Controller) (y dw0 cid : ℕ) (st : StatusField)
    → is_enabled c ≡ true → IsTogether c
    → IfSome (post_from found c y dw0 cid st) (IsPosted c y)
post_from-together None c y dw0 cid st on g = tt
post_from-together (Some q) c y dw0 cid st on g =
    post_to-together (completion_queue c q.completes_to) c q y dw0 cid st on g

pub post-together : (c : Controller) (y dw0 cid : ℕ) (st : StatusField) → is_enabled c ≡ true → IsTogether c
    → IfSome (post c y dw0 cid st) (IsPosted c y)
unfolding post
post-together c y dw0 cid st on g = post_from-together (submission_queue c y) c y dw0 cid st on g

-- a command runs out
ran_out-with : (c : Controller) (y : ℕ) → With false c → length (taken_less c y) ≡ queue_count
    → GoTogether false (c.ready && not (sum (taken_less c y) == 0)) c.submission c.completion_queues (taken_less c y) c.deletion
ran_out-with c y g count =
    record {
      submission_count = g.submission_count;
      completion_count = g.completion_count;
      taken_count = count;
      completes = g.completes;
      taken_there = λ is. cc;
      admin_there = λ is up. cc;
      none_there = g.none_there;
      taken_ready = λ z some.
          (let was = g.taken_ready z (less-some c y z some) in let whole = index-sum (taken_less c y) z in
          let up = sum-is-some (taken_less c y) (omega arith) in rw (was, up) refl);
      ready_taken = λ _ up. sum-not-zero (sum (taken_less c y)) (and-true c.ready (not (sum (taken_less c y) == 0)) up).1;
      deletion_there = g.deletion_there;
    }

pub ran_out-together : (c : Controller) (y : ℕ) → is_enabled c ≡ false → IsTogether c
    → IsTogether (ran_out c y) × ((ran_out c y).taken ≡ taken_less c y)
unfolding ran_out
ran_out-together c y is g = (
  subst (λ (e : Bool). GoTogether e (c.ready && not (sum (taken_less c y) == 0)) c.submission c.completion_queues (taken_less c y) c.deletion) (sym is)
      (ran_out-with c y (subst (λ (e : Bool). With e c) is g) (less-count c y g)),
  refl,
)
