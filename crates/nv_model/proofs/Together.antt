-- What each change of a controller's queues and counts keeps.
use Rattle.std.proofs.Common.{◌≡◌, ℕ, zero, suc, ◌<◌, Bool, true, false, ◌||◌, ◌==◌, List, [], ◌∷◌, length, set, slice_get, slice_index, replicate, Option}
use Rattle.std.proofs.Common.{Some, None, IfSome, IsSome, arith, refl, ap, ◌∙◌, eq-eqb}
use Rattle.std.specs.List.{list_any}
use Rattle.std.proofs.lemmas.List.{length-set}
use Rattle.nv_model.specs.Queue.{SubmissionQueue, CompletionQueue}
use Rattle.nv_model.specs.Controller.{Deletion, queue_count, queue_of}
use Rattle.nv_model.specs.Admin.{uses}
use Rattle.nv_model.specs.Running.{GoTogether}

-- ---- queues by number

-- what was put under a number has this, and what was there under the others
pub queue_of-set-has : {Q : Type 0} (P : Option Q → Type 0) (xs : List (Option Q)) (at : ℕ) (o : Option Q) (y : ℕ)
    → (y ≡ at → P o) → P (queue_of (slice_get xs y)) → P (queue_of (slice_get (set xs at o) y))
queue_of-set-has P [] at o y here there = there
queue_of-set-has P (x ∷ xs) zero o zero here there = here refl
queue_of-set-has P (x ∷ xs) zero o (suc y) here there = there
queue_of-set-has P (x ∷ xs) (suc at) o zero here there = there
queue_of-set-has P (x ∷ xs) (suc at) o (suc y) here there =
    queue_of-set-has P xs at o y (λ same. here (ap suc same)) there

-- what is there stays there, where another queue is put
pub there-put : {Q : Type 0} (xs : List (Option Q)) (at : ℕ) (q : Q) (y : ℕ) → IsSome (queue_of (slice_get xs y))
    → IsSome (queue_of (slice_get (set xs at (Some q)) y))
there-put xs at q y there = queue_of-set-has (λ o. IsSome o) xs at (Some q) y (λ _. refl) there

-- or where a queue of another number goes
pub there-gone : {Q : Type 0} (xs : List (Option Q)) (at y : ℕ) → (y ≡ at → ⊥) → IsSome (queue_of (slice_get xs y))
    → IsSome (queue_of (slice_get (set xs at None) y))
there-gone xs at y other there = queue_of-set-has (λ o. IsSome o) xs at None y (λ same. absurd (other same)) there

-- a number that a queue is put under, where there is such a number, has it
pub put-there : {Q : Type 0} (xs : List (Option Q)) (at : ℕ) (q : Q) → at < length xs
    → IsSome (queue_of (slice_get (set xs at (Some q)) at))
put-there [] at q below = absurd (omega arith)
put-there (x ∷ xs) zero q below = refl
put-there (x ∷ xs) (suc at) q below = put-there xs at q (omega arith)

-- of no queues there is none
pub none-of : {Q : Type 0} (n y : ℕ) → queue_of (slice_get (replicate {A = Option Q} n None) y) ≡ None
none-of zero y = refl
none-of (suc n) zero = refl
none-of (suc n) (suc y) = none-of n y

-- what one has, so that the other has
pub if_some-mapped : {A : Type 0} {P Q : A → Type 0} (o : Option A) → ((a : A) → P a → Q a) → IfSome o P → IfSome o Q
if_some-mapped None each there = tt
if_some-mapped (Some a) each there = each a there

-- where no submission queue uses a completion queue, each uses another
pub uses-none : (y : ℕ) (xs : List (Option SubmissionQueue)) (z : ℕ) → list_any (uses y) xs ≡ false
    → IfSome (queue_of (slice_get xs z)) (λ q. q.completes_to ≡ y → ⊥)
uses-none y [] z none = tt
uses-none y (None ∷ xs) zero none = tt
uses-none y (Some q ∷ xs) zero none =
    λ same. (let e : (q.completes_to == y) ≡ true = eq-eqb q.completes_to y same in let bad : (true || list_any (uses y) xs) ≡ false = rw e at none in cc)
uses-none y (None ∷ xs) (suc z) none = uses-none y xs z none
uses-none y (Some q ∷ xs) (suc z) none = uses-none y xs z (second (q.completes_to == y) (list_any (uses y) xs) none)
  where
    second : (a b : Bool) → (a || b) ≡ false → b ≡ false
    second true b neither = cc
    second false b neither = neither

-- one test does not both pass and fail
pub off : {A : Type 0} (e : Bool) → e ≡ true → e ≡ false → A
off true passes fails = cc
off false passes fails = cc

-- ---- while EN is 1

module _ (enabled ready : Bool) (ss : List (Option SubmissionQueue)) (cs : List (Option CompletionQueue)) (taken : List ℕ) (deletion : Option Deletion) (on : enabled ≡ true) where
  -- a submission queue whose completion queue is there is put
  pub submission-put : (y : ℕ) (q : SubmissionQueue) → IsSome (queue_of (slice_get cs q.completes_to))
      → GoTogether enabled ready ss cs taken deletion
      → GoTogether enabled ready (set ss y (Some q)) cs taken deletion
  submission-put y q to g =
      record {
        submission_count = length-set ss y (Some q) ∙ g.submission_count;
        completion_count = g.completion_count;
        taken_count = g.taken_count;
        completes = λ z. queue_of-set-has (λ o. IfSome o (λ (s : SubmissionQueue). IsSome (queue_of (slice_get cs s.completes_to)))) ss y (Some q) z (λ _. to) (g.completes z);
        taken_there = λ is z some. there-put ss y q z (g.taken_there is z some);
        admin_there = λ is up. (there-put ss y q 0 (g.admin_there is up).0, (g.admin_there is up).1);
        none_there = λ no. off enabled on no;
        taken_ready = g.taken_ready;
        ready_taken = g.ready_taken;
        deletion_there = if_some-mapped deletion (λ d was. (was.0, there-put ss y q d.queue was.1)) g.deletion_there;
      }

  -- a completion queue is put
  pub completion-put : (y : ℕ) (q : CompletionQueue) → GoTogether enabled ready ss cs taken deletion
      → GoTogether enabled ready ss (set cs y (Some q)) taken deletion
  completion-put y q g =
      record {
        submission_count = g.submission_count;
        completion_count = length-set cs y (Some q) ∙ g.completion_count;
        taken_count = g.taken_count;
        completes = λ z. if_some-mapped (queue_of (slice_get ss z)) (λ s was. there-put cs y q s.completes_to was) (g.completes z);
        taken_there = g.taken_there;
        admin_there = λ is up. ((g.admin_there is up).0, there-put cs y q 0 (g.admin_there is up).1);
        none_there = λ no. off enabled on no;
        taken_ready = g.taken_ready;
        ready_taken = g.ready_taken;
        deletion_there = g.deletion_there;
      }

  -- an I/O submission queue without taken commands goes, and no deletion waits
  pub submission-gone : (y : ℕ) → 0 < y → slice_index taken y ≡ 0 → GoTogether enabled ready ss cs taken deletion
      → GoTogether enabled ready (set ss y None) cs taken None
  submission-gone y io idle g =
      record {
        submission_count = length-set ss y None ∙ g.submission_count;
        completion_count = g.completion_count;
        taken_count = g.taken_count;
        completes = λ z. queue_of-set-has (λ o. IfSome o (λ (s : SubmissionQueue). IsSome (queue_of (slice_get cs s.completes_to)))) ss y None z (λ _. tt) (g.completes z);
        taken_there = λ is z some. there-gone ss y z (λ same. (let here : slice_index taken z ≡ 0 = ap (slice_index taken) same ∙ idle in omega arith)) (g.taken_there is z some);
        admin_there = λ is up. (there-gone ss y 0 (λ same. omega arith) (g.admin_there is up).0, (g.admin_there is up).1);
        none_there = λ no. off enabled on no;
        taken_ready = g.taken_ready;
        ready_taken = g.ready_taken;
        deletion_there = tt;
      }

  -- an I/O completion queue that no submission queue uses goes
  pub completion-gone : (y : ℕ) → 0 < y → list_any (uses y) ss ≡ false → GoTogether enabled ready ss cs taken deletion
      → GoTogether enabled ready ss (set cs y None) taken deletion
  completion-gone y io unused g =
      record {
        submission_count = g.submission_count;
        completion_count = length-set cs y None ∙ g.completion_count;
        taken_count = g.taken_count;
        completes = λ z. both (queue_of (slice_get ss z)) (uses-none y ss z unused) (g.completes z);
        taken_there = g.taken_there;
        admin_there = λ is up. ((g.admin_there is up).0, there-gone cs y 0 (λ same. omega arith) (g.admin_there is up).1);
        none_there = λ no. off enabled on no;
        taken_ready = g.taken_ready;
        ready_taken = g.ready_taken;
        deletion_there = g.deletion_there;
      }
    where
      both : (o : Option SubmissionQueue) → IfSome o (λ q. q.completes_to ≡ y → ⊥)
          → IfSome o (λ q. IsSome (queue_of (slice_get cs q.completes_to)))
          → IfSome o (λ q. IsSome (queue_of (slice_get (set cs y None) q.completes_to)))
      both None other there = tt
      both (Some q) other there = there-gone cs y q.completes_to other there

  -- other counts, of queues that are there, while RDY is 1
  pub taken-put : (after : List ℕ) → length after ≡ queue_count
      → ((y : ℕ) → 0 < slice_index after y → IsSome (queue_of (slice_get ss y)) × (ready ≡ true))
      → GoTogether enabled ready ss cs taken deletion → GoTogether enabled ready ss cs after deletion
  taken-put after count each g =
      record {
        submission_count = g.submission_count;
        completion_count = g.completion_count;
        taken_count = count;
        completes = g.completes;
        taken_there = λ is z some. (each z some).0;
        admin_there = g.admin_there;
        none_there = g.none_there;
        taken_ready = λ z some. (each z some).1;
        ready_taken = λ no. off enabled on no;
        deletion_there = g.deletion_there;
      }

  -- a deletion that names an I/O queue that is there waits
  pub deletion-put : (d : Deletion) → 0 < d.queue → IsSome (queue_of (slice_get ss d.queue))
      → GoTogether enabled ready ss cs taken deletion
      → GoTogether enabled ready ss cs taken (Some d)
  deletion-put d io there g =
      record {
        submission_count = g.submission_count;
        completion_count = g.completion_count;
        taken_count = g.taken_count;
        completes = g.completes;
        taken_there = g.taken_there;
        admin_there = g.admin_there;
        none_there = g.none_there;
        taken_ready = g.taken_ready;
        ready_taken = g.ready_taken;
        deletion_there = (io, there);
      }
