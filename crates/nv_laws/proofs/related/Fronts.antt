-- What discipline says of the front command of a queue: what it names is apart from the destinations of commands that are taken.
use Rattle.std.proofs.Common.{◌≡◌, ℕ, zero, suc, ◌+◌, ◌*◌, ◌%◌, ◌<◌, ◌≤◌, Bool, true, false, cond, not, ◌&&◌, ◌||◌}
use Rattle.std.proofs.Common.{◌==◌, List, [], ◌∷◌, ◌++◌, flat_map, map}
use Rattle.std.proofs.Common.{slice_get, Option, Some, None, arith, refl, ap, ◌∙◌, subst}
use Rattle.std.specs.List.{enumerate_from, list_any, range_with_len}
use Rattle.std.proofs.lemmas.List.Concat.{flat_map-append}
use Rattle.std.proofs.Math.Nat.{mod-eq_of_lt}
use Rattle.nv_model.proofs.Endings.{and-true}
use Rattle.nv_model.proofs.QueueCounts.{ahead-some, front-waits}
use Rattle.nv_model.specs.Controller.{Controller, front, front_of, is_ready, queue_of, submission_queue}
use Rattle.nv_model.specs.Footprint.{Entry, Named, completion_slots, entries_of, footprints, io_named, is_destination, meets, named_as, names, queue_named, untaken_named}
use Rattle.nv_model.specs.Laws.{IsInOrder}
use Rattle.nv_model.specs.Memory.{image}
use Rattle.nv_model.specs.Queue.{SubmissionQueue, sqe_size, waiting}
use Rattle.nv_world_model.specs.Agrees.{is_awaited}
use Rattle.nv_world_model.specs.Disciplined.{clash, is_clear, taken_entries}
use Rattle.nv_world_model.specs.Geometry.{Guest, regions_of, shape_of}
use Rattle.nv_world_model.specs.SetUp.{any_two}
use Rattle.nv_world_model.specs.World.{World}
use Rattle.nv_laws.proofs.others.ShownTags.{any-behind, any-front}
use Rattle.nv_laws.proofs.related.Named.{any-numbered}
use Rattle.nv_laws.proofs.related.Beginning.{awaits}
use Rattle.nv_laws.proofs.related.Disciplines.{any-map, any-more, commands_of, name-meets, never-both, not-so}

-- ---- lists

-- a member of one of them is a member of all
pub any-flat : {X : Type 0} (p : X → Bool) (xss : List (List X)) → list_any (λ xs. list_any p xs) xss ≡ true → list_any p (flat_map (λ xs. xs) xss) ≡ true
any-flat p [] e = e
any-flat p (xs ∷ xss) e =
    (elim (list_any p xs) as (λ b. list_any p xs ≡ b → (b || list_any (λ ys. list_any p ys) xss) ≡ true → list_any p (xs ++ flat_map (λ ys. ys) xss) ≡ true) [
      | true ↦ λ is any. any-front p xs (flat_map (λ ys. ys) xss) is
      | false ↦ λ is any. any-behind p xs (flat_map (λ ys. ys) xss) (any-flat p xss any)
    ]) refl e

any-first : {X : Type 0} (p : X → Bool) (f : ℕ → X) (n : ℕ) → 0 < n → p (f 0) ≡ true → list_any p (map f (range_with_len 0 n)) ≡ true
any-first p f zero some is = absurd (omega arith)
any-first p f (suc n) some is = ap (λ b. b || list_any p (map f (range_with_len 1 n))) is

-- two that clash, of one list and of another behind it
two-cross : {X : Type 0} (meet : X → X → Bool) (xs ys : List X) → list_any (λ x. list_any (meet x) ys) xs ≡ true → any_two meet (xs ++ ys) ≡ true
two-cross meet [] ys e = cc
two-cross meet (x ∷ xs) ys e =
    (elim (list_any (meet x) ys) as (λ b. list_any (meet x) ys ≡ b → (b || list_any (λ y. list_any (meet y) ys) xs) ≡ true
    → (list_any (meet x) (xs ++ ys) || any_two meet (xs ++ ys)) ≡ true) [
      | true ↦ λ is any. ap (λ b. b || any_two meet (xs ++ ys)) (any-behind (meet x) xs ys is)
      | false ↦ λ is any. or-yes (list_any (meet x) (xs ++ ys)) (two-cross meet xs ys any)
    ]) refl e
  where
    or-yes : (b : Bool) → any_two meet (xs ++ ys) ≡ true → (b || any_two meet (xs ++ ys)) ≡ true
    or-yes true e = refl
    or-yes false e = e

-- ---- the front

-- the queue of a front entry
pub record IsFront (c : Controller) (queue addr : ℕ) : Type 0 where
  pub q : SubmissionQueue
  pub there : slice_get c.submission queue ≡ Some (Some q)
  pub open_still : q.closing ≡ false
  pub at : q.base + sqe_size * q.head ≡ addr

front_of-is : (q : SubmissionQueue) (addr : ℕ) → front_of (Some q) ≡ Some addr → (q.closing ≡ false) × (q.base + sqe_size * q.head ≡ addr)
front_of-is q addr e =
    (elim q.closing as (λ b. q.closing ≡ b → cond b None (cond (q.head == q.tail) None (Some (q.base + sqe_size * q.head))) ≡ Some addr
    → (b ≡ false) × (q.base + sqe_size * q.head ≡ addr)) [
      | true ↦ λ is f. cc
      | false ↦ λ is f. (
        refl,
        (elim (q.head == q.tail) as (λ b. cond b None (Some (q.base + sqe_size * q.head)) ≡ Some addr → q.base + sqe_size * q.head ≡ addr) [
          | true ↦ λ g. cc
          | false ↦ λ g. cc
        ]) f,
      )
    ]) refl e

queue-is : (xs : List (Option SubmissionQueue)) (y addr : ℕ) → front_of (queue_of (slice_get xs y)) ≡ Some addr
    → (q : SubmissionQueue) × (slice_get xs y ≡ Some (Some q)) × (front_of (Some q) ≡ Some addr)
queue-is xs y addr e = by_found (slice_get xs y) refl e
  where
    by_found : (o : Option (Option SubmissionQueue)) → slice_get xs y ≡ o → front_of (queue_of o) ≡ Some addr
        → (q : SubmissionQueue) × (slice_get xs y ≡ Some (Some q)) × (front_of (Some q) ≡ Some addr)
    by_found None is f = cc
    by_found (Some None) is f = cc
    by_found (Some (Some q)) is f = (q, is, f)

pub front-is : (c : Controller) (queue addr : ℕ) → front c queue ≡ Some addr → IsFront c queue addr
unfolding front
front-is c queue addr e =
    (elim (is_ready c) as (λ b. cond b (front_of (submission_queue c queue)) None ≡ Some addr → IsFront c queue addr) [
      | true ↦ λ f.
          let found = queue-is c.submission queue addr f in
          let parts = front_of-is found.0 addr found.2 in
          record { q = found.0; there = found.1; open_still = parts.0; at = parts.1 }
      | false ↦ λ f. cc
    ]) e

module _ (number : ℕ) (guest : Guest) (w : World) (c : Controller) (queue addr : ℕ) (is_front : front c queue ≡ Some addr)
    (order : (q : SubmissionQueue) → slice_get c.submission queue ≡ Some (Some q) → IsInOrder q.size q.head q.tail) where
  abbrev mine : ℕ → ℕ
  mine = image (regions_of guest) w.host

  abbrev untaken : List (List Named)
  untaken = flat_map (λ x. queue_named (shape_of guest) mine x.0 x.1) (enumerate_from 0 c.submission)

  abbrev taken : List (List Named)
  taken = map (io_named (shape_of guest) mine) (taken_entries number w)

  -- what it names is named
  front-among : (p : Named → Bool) → list_any p (untaken_named (shape_of guest) mine queue addr) ≡ true
      → list_any (λ spans. list_any p spans) untaken ≡ true
  front-among p e =
      let f = front-is c queue addr is_front in
      let q = f.q in
      let at_head = f.at in
      let sorted = order q f.there in
      let some : 0 < waiting q = ahead-some q.size q.head q.tail sorted (front-waits c queue addr q (ap queue_of f.there) is_front) in
      let head_below = sorted.head_is_slot in
      let first : q.base + sqe_size * ((q.head + 0) % q.size) ≡ addr = ap (λ n. q.base + sqe_size * n) (head-first q.head q.size head_below) ∙ at_head in
      any-numbered (λ spans. list_any p spans) (λ x. queue_named (shape_of guest) mine x.0 x.1) 0 c.submission queue (Some q) f.there
      (ap (λ b. list_any (λ spans. list_any p spans) (cond b [] (map (untaken_named (shape_of guest) mine (0 + queue)) (entries_of q)))) f.open_still
      ∙ any-map (λ spans. list_any p spans) (untaken_named (shape_of guest) mine (0 + queue)) (entries_of q)
      (any-first (λ x. list_any p (untaken_named (shape_of guest) mine (0 + queue) x)) (λ i. q.base + sqe_size * ((q.head + i) % q.size)) (waiting q) some
      (ap (λ x. list_any p (untaken_named (shape_of guest) mine (0 + queue) x)) first ∙ numbered p e)))
    where
      head-first : (head size : ℕ) → head < size → (head + 0) % size ≡ head
      head-first head size below =
          let none : head + 0 ≡ head = omega arith in
          ap (λ n. n % size) none ∙ mod-eq_of_lt below

      numbered : (p : Named → Bool) → list_any p (untaken_named (shape_of guest) mine queue addr) ≡ true
          → list_any p (untaken_named (shape_of guest) mine (0 + queue) addr) ≡ true
      numbered p e = let same : queue ≡ 0 + queue = omega arith in subst (λ n. list_any p (untaken_named (shape_of guest) mine n addr) ≡ true) same e

  -- it clashes with no command that is taken
  pub front-clear : is_clear (flat_map (λ named. named) (commands_of number guest w c)) (completion_slots c) ≡ true
      → list_any (λ m. list_any (clash m) (flat_map (λ named. named) taken)) (untaken_named (shape_of guest) mine queue addr) ≡ false
  unfolding footprints
  front-clear clear =
      not-so (list_any (λ m. list_any (clash m) (flat_map (λ named. named) taken)) (untaken_named (shape_of guest) mine queue addr))
      (λ bad.
      never-both (any_two clash (flat_map (λ named. named) (untaken ++ taken)))
      (ap (any_two clash) (flat_map-append (λ named. named) untaken taken)
      ∙ two-cross clash (flat_map (λ named. named) untaken) (flat_map (λ named. named) taken)
      (any-flat (λ m. list_any (clash m) (flat_map (λ named. named) taken)) untaken
      (front-among (λ m. list_any (clash m) (flat_map (λ named. named) taken)) bad)))
      (not-not (any_two clash (flat_map (λ named. named) (untaken ++ taken))) (and-true (not (any_two clash (flat_map (λ named. named) (untaken ++ taken)))) _ clear).0))
    where
      not-not : (b : Bool) → not b ≡ true → b ≡ false
      not-not true e = cc
      not-not false e = refl

  -- no byte of the entry is awaited
  pub entry-free : is_clear (flat_map (λ named. named) (commands_of number guest w c)) (completion_slots c) ≡ true
      → (at : ℕ) → addr ≤ at → at < addr + sqe_size → is_awaited number guest w at ≡ false
  entry-free clear at from within =
      not-so (is_awaited number guest w at)
      (λ bad.
      never-both (list_any (λ m. list_any (clash m) (flat_map (λ named. named) taken)) (untaken_named (shape_of guest) mine queue addr))
      (any-front (λ m. list_any (clash m) (flat_map (λ named. named) taken)) (named_as Entry addr sqe_size ∷ [])
      (cond (queue == 0) _ _)
      (ap (λ b. b || false)
      (any-flat (clash (named_as Entry addr sqe_size)) taken
      (any-map (λ spans. list_any (clash (named_as Entry addr sqe_size)) spans) (io_named (shape_of guest) mine) (taken_entries number w)
      (any-more (λ entry. list_any (awaits at) (io_named (shape_of guest) mine entry))
      (λ entry. list_any (clash (named_as Entry addr sqe_size)) (io_named (shape_of guest) mine entry)) (taken_entries number w)
      (λ entry some. any-more (awaits at) (clash (named_as Entry addr sqe_size)) (io_named (shape_of guest) mine entry) (λ n is. entry-clash n is) some) bad)))))
      (front-clear clear))
    where
      entry-clash : (n : Named) → awaits at n ≡ true → clash (named_as Entry addr sqe_size) n ≡ true
      entry-clash n is =
          let both = and-true (is_destination n) (names n at) is in
          ap (λ b. b && meets addr sqe_size n) both.0 ∙ name-meets number guest w addr sqe_size at n from within both.1
