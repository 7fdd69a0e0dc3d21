-- Commands that are looked at, taken and completed, by the queues that are found.
use Rattle.std.proofs.Common.{◌≡◌, ℕ, zero, suc, ◌+◌, ◌-◌, ◌*◌, ◌<◌, ◌≤◌, ◌^◌, Bool, true, false, cond, ◌==◌, if◌then◌else◌, List, length, slice_index}
use Rattle.std.proofs.Common.{slice_set, Option, Some, None, IsSome, arith, refl, sym, ap, ◌∙◌, subst}
use Rattle.std.specs.Option.{option_map}
use Rattle.nv_entry.proofs.CompletionLemmas.{length-completion}
use Rattle.nv_entry.specs.Completion.{completion}
use Rattle.nv_entry.specs.Status.{StatusField}
use Rattle.nv_mem.specs.declared.region.Region.{Region}
use Rattle.nv_vctl.specs.Vctl.{CompletionsFit, SubmissionsFit, host_behind, posting_of}
use Rattle.nv_vctl.specs.declared.posting.Posting.{Posting}
use Rattle.nv_model.specs.Memory.{image, put_image, stored}
use Rattle.nv_mem.specs.GuestMap.{IsSound, Mapping, everywhere, mapped}
use Rattle.nv_mem.proofs.MappedRuns.{mapped-below}
use Rattle.nv_model.specs.Controller.{Controller, Posted, completion_queue, front, front_of, is_ready, post, post_from, post_to, submission_queue, taken_less, took, took_of, with_completion}
use Rattle.nv_model.specs.Laws.{IsCompletionInPlace, IsSubmissionInPlace, QueuesInPlace}
use Rattle.nv_model.specs.Queue.{SubmissionQueue, CompletionQueue, after_post, cqe_size, front_taken, is_empty, is_full, sqe_size}
use Rattle.nv_model.proofs.Judged.{everywhere-at}
use Rattle.nv_model.proofs.QueueOrder.{IsKept-in_place}
use Rattle.nv_model.proofs.QueuesKept.{completion_queue-has, submission_queue-has}

-- ---- the front

-- a command waits in a queue of which one may be taken
pub front-waits : (c : Controller) (y : ℕ) (q : SubmissionQueue) → IsSome (front c y) → submission_queue c y ≡ Some q
    → is_empty q.head q.tail ≡ false
unfolding front
front-waits c y q some is =
    by_ready (is_ready c) (subst (λ (o : Option SubmissionQueue). IsSome (cond (is_ready c) (front_of o) None)) is some)
  where
    by_empty : (e : Bool) (addr : ℕ) → IsSome (cond e None (Some addr)) → e ≡ false
    by_empty true addr there = cc
    by_empty false addr there = refl

    by_closing : (b e : Bool) (addr : ℕ) → IsSome (cond b None (cond e None (Some addr))) → e ≡ false
    by_closing true e addr there = cc
    by_closing false e addr there = by_empty e addr there

    by_ready : (b : Bool) → IsSome (cond b (front_of (Some q)) None) → is_empty q.head q.tail ≡ false
    by_ready true there = by_closing q.closing (is_empty q.head q.tail) (q.base + sqe_size * q.head) there
    by_ready false there = cc

-- by whether the controller is ready
pub front-ready : (c : Controller) (y : ℕ) → is_ready c ≡ true → front c y ≡ front_of (submission_queue c y)
unfolding front
front-ready c y is = ap (λ (b : Bool). if b then front_of (submission_queue c y) else None) is

pub front-unready : (c : Controller) (y : ℕ) → is_ready c ≡ false → front c y ≡ None
unfolding front
front-unready c y isnt = ap (λ (b : Bool). if b then front_of (submission_queue c y) else None) isnt

-- and there is such a queue
pub front-there : (c : Controller) (y : ℕ) → IsSome (front c y) → submission_queue c y ≡ None → ⊥
unfolding front
front-there c y some is =
    by_ready (is_ready c) (subst (λ (o : Option SubmissionQueue). IsSome (cond (is_ready c) (front_of o) None)) is some)
  where
    by_ready : (b : Bool) → IsSome {T = ℕ} (cond b None None) → ⊥
    by_ready true there = cc
    by_ready false there = cc

-- where it stands
pub front-at : (c : Controller) (y : ℕ) (q : SubmissionQueue) → IsSome (front c y) → submission_queue c y ≡ Some q
    → front c y ≡ Some (q.base + sqe_size * q.head)
unfolding front
front-at c y q some is =
    ap (λ (o : Option SubmissionQueue). cond (is_ready c) (front_of o) None) is
    ∙ by_ready (is_ready c) (subst (λ (o : Option SubmissionQueue). IsSome (cond (is_ready c) (front_of o) None)) is some)
  where
    by_empty : (e : Bool) (addr : ℕ) → IsSome (cond e None (Some addr)) → cond e None (Some addr) ≡ Some addr
    by_empty true addr there = cc
    by_empty false addr there = refl

    by_closing : (b e : Bool) (addr : ℕ) → IsSome (cond b None (cond e None (Some addr))) → cond b None (cond e None (Some addr)) ≡ Some addr
    by_closing true e addr there = cc
    by_closing false e addr there = by_empty e addr there

    by_ready : (b : Bool) → IsSome (cond b (front_of (Some q)) None) → cond b (front_of (Some q)) None ≡ Some (q.base + sqe_size * q.head)
    by_ready true there = by_closing q.closing (is_empty q.head q.tail) (q.base + sqe_size * q.head) there
    by_ready false there = cc

-- ---- slots

-- each part of addresses that are all mapped is
pub everywhere-part : (test : ℕ → Bool) (addr len at n : ℕ) → everywhere test addr len ≡ true → at + n ≤ len → everywhere test (addr + at) n ≡ true
unfolding everywhere
everywhere-part test addr len at zero all within = refl
everywhere-part test addr len at (suc n) all within =
    let place : addr + (at + n) ≡ addr + at + n = omega arith in
    let here : test (addr + at + n) ≡ true = ap test (sym place) ∙ everywhere-at test addr len (at + n) all (omega arith) in
    let rest : everywhere test (addr + at) n ≡ true = everywhere-part test addr len at n all (omega arith) in
    rw (here, rest) refl

-- mapped addresses end at 2 to the 64 at the latest
pub mapped-end : (m : Mapping) (addr len : ℕ) → IsSound m → everywhere (mapped m.regions) addr len ≡ true → 0 < len → addr + len ≤ 2 ^ 64
mapped-end m addr len sound all some =
    let last : addr + (len - 1) < 2 ^ 64 = mapped-below m addr len (len - 1) sound all (omega arith) in
    omega arith

-- the slots of a submission queue that lies in the map
submission-fits : (m : Mapping) (c : Controller) (y : ℕ) (q : SubmissionQueue) → IsSound m → QueuesInPlace (mapped m.regions) c
    → submission_queue c y ≡ Some q → q.base + sqe_size * q.size ≤ 2 ^ 64
submission-fits m c y q sound place is =
    let test : ℕ → Bool = mapped m.regions in
    let has = submission_queue-has test (IsSubmissionInPlace test) (IsCompletionInPlace test) (IsKept-in_place test) c y q place is in
    let some = has.0.at_least in
    mapped-end m q.base (sqe_size * q.size) sound has.1 (omega arith)

submission-mapped : (test : ℕ → Bool) (c : Controller) (y : ℕ) (q : SubmissionQueue) → QueuesInPlace test c
    → submission_queue c y ≡ Some q → everywhere test (q.base + sqe_size * q.head) sqe_size ≡ true
submission-mapped test c y q place is =
    let has = submission_queue-has test (IsSubmissionInPlace test) (IsCompletionInPlace test) (IsKept-in_place test) c y q place is in
    let below = has.0.head_is_slot in
    everywhere-part test q.base (sqe_size * q.size) (sqe_size * q.head) sqe_size has.1 (omega arith)

-- so the slots of all of them fit
pub submissions-fit : (m : Mapping) (c : Controller) → IsSound m → QueuesInPlace (mapped m.regions) c → SubmissionsFit c
submissions-fit m c sound place = λ y q is. submission-fits m c y q sound place is

-- and the front entry is mapped
pub front-mapped : (test : ℕ → Bool) (c : Controller) (y addr : ℕ) → QueuesInPlace test c → front c y ≡ Some addr → everywhere test addr sqe_size ≡ true
front-mapped test c y addr place at = by_queue (submission_queue c y) refl
  where
    some : IsSome (front c y)
    some = subst (λ (o : Option ℕ). IsSome o) (sym at) refl

    by_queue : (found : Option SubmissionQueue) → submission_queue c y ≡ found → everywhere test addr sqe_size ≡ true
    by_queue None is = absurd (front-there c y some is)
    by_queue (Some q) is =
        let same : Some addr ≡ Some (q.base + sqe_size * q.head) = sym at ∙ front-at c y q some is in
        let where_it_is : addr ≡ q.base + sqe_size * q.head = cc in
        ap (λ (n : ℕ). everywhere test n sqe_size) where_it_is ∙ submission-mapped test c y q place is

-- and of a completion queue
completion-fits : (m : Mapping) (c : Controller) (y : ℕ) (q : CompletionQueue) → IsSound m → QueuesInPlace (mapped m.regions) c
    → completion_queue c y ≡ Some q → q.base + cqe_size * q.size ≤ 2 ^ 64
completion-fits m c y q sound place is =
    let test : ℕ → Bool = mapped m.regions in
    let has = completion_queue-has test (IsSubmissionInPlace test) (IsCompletionInPlace test) (IsKept-in_place test) c y q place is in
    let some = has.0.at_least in
    mapped-end m q.base (cqe_size * q.size) sound has.1 (omega arith)

completion-mapped : (test : ℕ → Bool) (c : Controller) (y : ℕ) (q : CompletionQueue) → QueuesInPlace test c
    → completion_queue c y ≡ Some q → everywhere test (q.base + cqe_size * q.tail) cqe_size ≡ true
completion-mapped test c y q place is =
    let has = completion_queue-has test (IsSubmissionInPlace test) (IsCompletionInPlace test) (IsKept-in_place test) c y q place is in
    let below = has.0.tail_is_slot in
    everywhere-part test q.base (cqe_size * q.size) (cqe_size * q.tail) cqe_size has.1 (omega arith)

-- so the slots of all of them fit
pub completions-fit : (m : Mapping) (c : Controller) → IsSound m → QueuesInPlace (mapped m.regions) c → CompletionsFit c
completions-fit m c sound place = λ y q is. completion-fits m c y q sound place is

-- ---- taking

-- what taking the front of the queue that was found comes to
pub took-made : (v c : Controller) (y n : ℕ) (q new : SubmissionQueue) (taken : List ℕ) → v ≡ c → submission_queue c y ≡ Some q → n ≡ y
    → new ≡ front_taken q → taken ≡ (if n == 0 then v.taken else slice_set v.taken n (slice_index v.taken n + 1))
    → record v { submission = slice_set v.submission n (Some new); taken = taken } ≡ took c y
unfolding took
took-made v c y n q new taken same is at front count =
    ap (λ (t : List ℕ). record v { submission = slice_set v.submission n (Some new); taken = t }) count
    ∙ ap (λ (s : SubmissionQueue). record v {
      submission = slice_set v.submission n (Some s);
      taken = (if n == 0 then v.taken else slice_set v.taken n (slice_index v.taken n + 1));
    }) front
    ∙ ap (λ (m : ℕ). record v {
      submission = slice_set v.submission m (Some (front_taken q));
      taken = (if m == 0 then v.taken else slice_set v.taken m (slice_index v.taken m + 1));
    }) at
    ∙ ap (λ (w : Controller). took_of (Some q) w y) same
    ∙ ap (λ (o : Option SubmissionQueue). took_of o c y) (sym is)

-- ---- completing

-- a completion that is posted to the queues that were found
abbrev pub posted_to : Controller → SubmissionQueue → CompletionQueue → (y dw0 cid : ℕ) → StatusField → Posted
posted_to c q cq y dw0 cid st = record {
  addr = cq.base + cqe_size * cq.tail;
  entry = completion dw0 q.head y cid cq.phase st;
  controller = record (with_completion c q.completes_to (Some (after_post cq))) { taken = taken_less c y };
}

-- the queues of a completion, as they were found: the number of the completion queue, and whether there is room
pub record AreFound (c : Controller) (y to : ℕ) (q : SubmissionQueue) (cq : CompletionQueue) (full : Bool) : Type 0 where
  pub from : submission_queue c y ≡ Some q
  pub goes : to ≡ q.completes_to
  pub there : completion_queue c to ≡ Some cq
  pub room : full ≡ is_full cq.size cq.head cq.tail

post-found : (c : Controller) (y to dw0 cid : ℕ) (st : StatusField) (q : SubmissionQueue) (cq : CompletionQueue) (full : Bool)
    → AreFound c y to q cq full → post c y dw0 cid st ≡ cond full None (Some (posted_to c q cq y dw0 cid st))
unfolding post
post-found c y to dw0 cid st q cq full found =
    ap (λ (o : Option SubmissionQueue). post_from o c y dw0 cid st) found.from
    ∙ ap (λ (o : Option CompletionQueue). post_to o c q y dw0 cid st) (ap (completion_queue c) (sym found.goes) ∙ found.there)
    ∙ ap (λ (b : Bool). cond b None (Some (posted_to c q cq y dw0 cid st))) (sym found.room)

-- a completion is held where its queue is full
pub post-held : {c : Controller} {y to : ℕ} {q : SubmissionQueue} {cq : CompletionQueue} {full : Bool} (dw0 cid : ℕ) (st : StatusField)
    → AreFound c y to q cq full → full ≡ true → post c y dw0 cid st ≡ None
post-held {c} {y} {to} {q} {cq} {full} dw0 cid st found is =
    post-found c y to dw0 cid st q cq full found ∙ ap (λ (b : Bool). cond b None (Some (posted_to c q cq y dw0 cid st))) is

-- and posted where it is not
pub post-done : {c : Controller} {y to : ℕ} {q : SubmissionQueue} {cq : CompletionQueue} {full : Bool} (dw0 cid : ℕ) (st : StatusField)
    → AreFound c y to q cq full → full ≡ false → post c y dw0 cid st ≡ Some (posted_to c q cq y dw0 cid st)
post-done {c} {y} {to} {q} {cq} {full} dw0 cid st found is =
    post-found c y to dw0 cid st q cq full found ∙ ap (λ (b : Bool). cond b None (Some (posted_to c q cq y dw0 cid st))) is

-- a completion that is made of the queues that were found
pub posting-made : (c : Controller) (q : SubmissionQueue) (cq : CompletionQueue)
    (y dw0 cid head addr : ℕ) (phase : Bool) (st : StatusField) (bytes cqe : List ℕ) → addr ≡ cq.base + cqe_size * cq.tail
    → bytes ≡ cqe → cqe ≡ completion dw0 head y cid phase st → head ≡ q.head → phase ≡ cq.phase
    → (let p : Option Posting = Some (record { addr = addr; entry = bytes }) in p) ≡ Some (posting_of (posted_to c q cq y dw0 cid st))
posting-made c q cq y dw0 cid head addr phase st bytes cqe at of entry from tag =
    ap (λ (a : ℕ). let p : Option Posting = Some (record { addr = a; entry = bytes }) in p) at
    ∙ ap (λ (e : List ℕ). let p : Option Posting = Some (record { addr = cq.base + cqe_size * cq.tail; entry = e }) in p)
    (of ∙ entry ∙ ap (λ (h : ℕ). completion dw0 h y cid phase st) from ∙ ap (λ (p : Bool). completion dw0 q.head y cid p st) tag)

-- what posting to the queues that were found comes to
pub post-made : (v c : Controller) (y n dw0 cid : ℕ) (st : StatusField) (q : SubmissionQueue) (cq new : CompletionQueue)
    (to : ℕ) (taken : List ℕ) → v ≡ c
    → n ≡ y → to ≡ q.completes_to → new ≡ after_post cq
    → taken ≡ (if n == 0 then v.taken else slice_set v.taken n (slice_index v.taken n - 1))
    → record v { completion_queues = slice_set v.completion_queues to (Some new); taken = taken } ≡ (posted_to c q cq y dw0 cid st).controller
post-made v c y n dw0 cid st q cq new to taken same at goes behind count =
    ap (λ (t : List ℕ). record v { completion_queues = slice_set v.completion_queues to (Some new); taken = t }) count
    ∙ ap (λ (s : CompletionQueue). record v {
      completion_queues = slice_set v.completion_queues to (Some s);
      taken = (if n == 0 then v.taken else slice_set v.taken n (slice_index v.taken n - 1));
    }) behind
    ∙ ap (λ (m : ℕ). record v {
      completion_queues = slice_set v.completion_queues m (Some (after_post cq));
      taken = (if n == 0 then v.taken else slice_set v.taken n (slice_index v.taken n - 1));
    }) goes
    ∙ ap (λ (m : ℕ). record v {
      completion_queues = slice_set v.completion_queues q.completes_to (Some (after_post cq));
      taken = (if m == 0 then v.taken else slice_set v.taken m (slice_index v.taken m - 1));
    }) at
    ∙ ap (λ (w : Controller). (posted_to w q cq y dw0 cid st).controller) same

-- ---- storing

-- all of a completion's bytes are mapped
pub post-mapped : (test : ℕ → Bool) (c : Controller) (y dw0 cid : ℕ) (st : StatusField) (p : Posting) → QueuesInPlace test c
    → Some p ≡ option_map posting_of (post c y dw0 cid st) → everywhere test p.addr (length p.entry) ≡ true
unfolding post
post-mapped test c y dw0 cid st p place = by_queue (submission_queue c y)
  where
    by_full : (b : Bool) (q : SubmissionQueue) (cq : CompletionQueue) → completion_queue c q.completes_to ≡ Some cq
        → Some p ≡ option_map posting_of (cond b None (Some (posted_to c q cq y dw0 cid st))) → everywhere test p.addr (length p.entry) ≡ true
    by_full true q cq there is = cc
    by_full false q cq there is =
        let same : p ≡ posting_of (posted_to c q cq y dw0 cid st) = cc in
        ap (λ (x : Posting). everywhere test x.addr (length x.entry)) same
        ∙ ap (everywhere test (cq.base + cqe_size * cq.tail)) (length-completion dw0 q.head y cid cq.phase st)
        ∙ completion-mapped test c q.completes_to cq place there

    by_completions : (found : Option CompletionQueue) (q : SubmissionQueue) → completion_queue c q.completes_to ≡ found
        → Some p ≡ option_map posting_of (post_to found c q y dw0 cid st) → everywhere test p.addr (length p.entry) ≡ true
    by_completions None q there is = cc
    by_completions (Some cq) q there is = by_full (is_full cq.size cq.head cq.tail) q cq there is

    by_queue : (found : Option SubmissionQueue) → Some p ≡ option_map posting_of (post_from found c y dw0 cid st)
        → everywhere test p.addr (length p.entry) ≡ true
    by_queue None is = cc
    by_queue (Some q) is = by_completions (completion_queue c q.completes_to) q refl is

-- the host behind a completion that was stored
pub host-stored : (rs : List Region) (host after : ℕ → ℕ) (found : Option Posted) (p : Posting) → Some p ≡ option_map posting_of found
    → after ≡ put_image rs (stored (image rs host) p.addr p.entry) host → after ≡ host_behind rs host found
host-stored rs host after None p is written = cc
host-stored rs host after (Some posted) p is written =
    let same : p ≡ posting_of posted = cc in written ∙ ap (λ (x : Posting). put_image rs (stored (image rs host) x.addr x.entry) host) same
