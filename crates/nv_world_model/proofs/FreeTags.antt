-- Which free tags are claimed, and when a take is busy.
use Rattle.std.proofs.Common.{◌≡◌, ℕ, zero, suc, ◌+◌, ◌<◌, Bool, true, false, cond, nat_le, List, [], ◌∷◌, filter, length, map, slice_get, take}
use Rattle.std.proofs.Common.{inl, inr, Option, Some, None, arith, refl, sym, ap, ◌∙◌, subst, leb-false, leb-true}
use Rattle.std.specs.List.{enumerate_from}
use Rattle.std.proofs.lemmas.Bool.{cases_order}
use Rattle.std.proofs.lemmas.List.{length-take-le}
use Rattle.nv_model.specs.Controller.{front}
use Rattle.nv_model.specs.declared.reply.Reply.TheVariants as reply
use Rattle.nv_world_model.specs.declared.event.Event.TheVariants as event
use Rattle.nv_world_model.specs.Geometry.{Geometry}
use Rattle.nv_world_model.specs.Seat.{Owner, owner_of}
use Rattle.nv_world_model.specs.Share.{tags_of_entry}
use Rattle.nv_world_model.specs.Step.{entry_at, for_one, is_io_queue, replied, step, take_from, take_front, take_tags}
use Rattle.nv_world_model.specs.World.{Lane, Tag, World, claimed, is_free, tags_where}

-- ---- the first of a list

-- what is among the first stands there in the whole
take-get : {X : Type 0} (count i : ℕ) (xs : List X) (x : X) → slice_get (take count xs) i ≡ Some x → (i < count) × (slice_get xs i ≡ Some x)
take-get zero i xs x e = cc
take-get (suc count) i [] x e = cc
take-get (suc count) zero (y ∷ ys) x e = (omega arith, e)
take-get (suc count) (suc i) (y ∷ ys) x e = (let rest = take-get count i ys x e in (omega (arith, rest.0), rest.1))

take-there : {X : Type 0} (count i : ℕ) (xs : List X) → i < count → slice_get (take count xs) i ≡ slice_get xs i
take-there zero i xs below = absurd (omega (arith, below))
take-there (suc count) i [] below = refl
take-there (suc count) zero (y ∷ ys) below = refl
take-there (suc count) (suc i) (y ∷ ys) below = take-there count i ys (omega (arith, below))

some-same : {X : Type 0} (x y : X) → Some x ≡ Some y → x ≡ y
some-same x y e = cc

-- ---- the numbers of free tags

-- where the first tag has this number
abbrev free_from : (from : ℕ) → List Tag → List ℕ
free_from from tags = map (λ t. t.0) (filter (λ t. is_free t.1) (enumerate_from from tags))

-- by whether the first is free
abbrev free_by : Bool → (from : ℕ) → Tag → List Tag → List ℕ
free_by b from t tags =
    (let rest = filter (λ (p : ℕ × Tag). is_free p.1) (enumerate_from (from + 1) tags) in map (λ (p : ℕ × Tag). p.0) (cond b ((from, t) ∷ rest) rest))

-- as many as are free
free-count : (from : ℕ) (tags : List Tag) → length (free_from from tags) ≡ length (filter is_free tags)
free-count from [] = refl
free-count from (t ∷ tags) = by (is_free t) (free-count (from + 1) tags)
  where
    by : (b : Bool) → length (free_from (from + 1) tags) ≡ length (filter is_free tags)
        → length (free_by b from t tags) ≡ length (cond b (t ∷ filter is_free tags) (filter is_free tags))
    by true more = ap suc more
    by false more = more

-- the tag of a number is there and free
pub record IsFreeAt (from : ℕ) (tags : List Tag) (number : ℕ) : Type 0 where
  pub at : ℕ
  pub is : number ≡ from + at
  pub t : Tag
  pub there : slice_get tags at ≡ Some t
  pub free : is_free t ≡ true

one-behind : (from : ℕ) (t : Tag) (tags : List Tag) (number : ℕ) → IsFreeAt (from + 1) tags number → IsFreeAt from (t ∷ tags) number
one-behind from t tags number f =
    (let is = f.is in record { at = suc f.at; is = omega (arith, is); t = f.t; there = f.there; free = f.free })

free-at : (from : ℕ) (tags : List Tag) (i number : ℕ) → slice_get (free_from from tags) i ≡ Some number → IsFreeAt from tags number
free-at from [] i number e = cc
free-at from (t ∷ tags) i number e = by (is_free t) refl (free-at (from + 1) tags) i e
  where
    by : (b : Bool) → is_free t ≡ b → ((i number : ℕ) → slice_get (free_from (from + 1) tags) i ≡ Some number → IsFreeAt (from + 1) tags number)
        → (i : ℕ) → slice_get (free_by b from t tags) i ≡ Some number
        → IsFreeAt from (t ∷ tags) number
    by true free more zero e =
        (let same : from ≡ number = some-same from number e in
        record { at = 0; is = omega (arith, same); t = t; there = refl; free = free })
    by true free more (suc i) e = one-behind from t tags number (more i number e)
    by false free more i e = one-behind from t tags number (more i number e)

-- each free tag has its number among them
free-listed : (from : ℕ) (tags : List Tag) (at : ℕ) (t : Tag) → slice_get tags at ≡ Some t → is_free t ≡ true
    → (k : ℕ) × (slice_get (free_from from tags) k ≡ Some (from + at))
free-listed from [] at t there free = cc
free-listed from (s ∷ tags) at t there free = by (is_free s) refl (free-listed (from + 1) tags) at there
  where
    by : (b : Bool) → is_free s ≡ b
        → ((at : ℕ) (t : Tag) → slice_get tags at ≡ Some t → is_free t ≡ true → (k : ℕ) × (slice_get (free_from (from + 1) tags) k ≡ Some (from + 1 + at)))
        → (at : ℕ) → slice_get (s ∷ tags) at ≡ Some t
        → (k : ℕ) × (slice_get (free_by b from s tags) k ≡ Some (from + at))
    by true is more zero there = (let none : from ≡ from + 0 = omega arith in (0, ap (λ (n : ℕ). Some n) none))
    by true is more (suc at) there =
        (let later = more at t there free in
        let same : from + 1 + at ≡ from + suc at = omega arith in
        (suc later.0, later.1 ∙ ap (λ (n : ℕ). Some n) same))
    by false is more zero there =
        (let same : s ≡ t = some-same s t there in
        let bad : true ≡ false = sym free ∙ subst (λ (x : Tag). is_free x ≡ false) same is in
        absurd (cc))
    by false is more (suc at) there =
        (let later = more at t there free in
        let same : from + 1 + at ≡ from + suc at = omega arith in
        (later.0, later.1 ∙ ap (λ (n : ℕ). Some n) same))

-- they rise
free-rise : (from : ℕ) (tags : List Tag) (i j number other : ℕ) → slice_get (free_from from tags) i ≡ Some number
    → slice_get (free_from from tags) j ≡ Some other → i < j → number < other
free-rise from [] i j number other e f before = cc
free-rise from (t ∷ tags) i j number other e f before = by (is_free t) (free-rise (from + 1) tags) i j e f before
  where
    by : (b : Bool)
        → ((i j number other : ℕ) → slice_get (free_from (from + 1) tags) i ≡ Some number → slice_get (free_from (from + 1) tags) j ≡ Some other → i < j
        → number < other)
        → (i j : ℕ) → slice_get (free_by b from t tags) i ≡ Some number
        → slice_get (free_by b from t tags) j ≡ Some other → i < j → number < other
    by true more i zero e f before = absurd (omega (arith, before))
    by true more zero (suc j) e f before =
        (let same : from ≡ number = some-same from number e in
        let later = free-at (from + 1) tags j other f in
        let is = later.is in
        omega (arith, same, is))
    by true more (suc i) (suc j) e f before = more i j number other e f (omega (arith, before))
    by false more i j e f before = more i j number other e f before

-- so the lower of two stands before the higher
free-before : (from : ℕ) (tags : List Tag) (i k number other : ℕ) → slice_get (free_from from tags) i ≡ Some number
    → slice_get (free_from from tags) k ≡ Some other → other < number → k < i
free-before from tags i k number other e f below =
    elim (cases_order k i) [
      | inl same ↦ (let one : Some number ≡ Some other = sym e ∙ subst (λ n. slice_get (free_from from tags) n ≡ Some other) same f in
          let equal = some-same number other one in
          absurd (omega (arith, below, equal)))
      | inr (inl less) ↦ less
      | inr (inr more) ↦ (let bad = free-rise from tags i k number other e f more in absurd (omega (arith, below, bad)))
    ]

-- ---- what is claimed

-- the lowest free tags in order, so many of them: each is there and free, each free one below is found before, and they rise
pub record AreLowest (count : ℕ) (tags : List Tag) (found : List ℕ) : Type 0 where
  pub many : length found ≡ count
  pub free : (i tag : ℕ) → slice_get found i ≡ Some tag → (t : Tag) × (slice_get tags tag ≡ Some t) × (is_free t ≡ true)
  pub lowest : (i tag other : ℕ) (t : Tag) → slice_get found i ≡ Some tag → other < tag → slice_get tags other ≡ Some t → is_free t ≡ true
      → (k : ℕ) × (k < i) × (slice_get found k ≡ Some other)
  pub rise : (i j tag other : ℕ) → slice_get found i ≡ Some tag → slice_get found j ≡ Some other → i < j → tag < other

-- a free tag of the list from its start on
pub free-there : (tags : List Tag) (i tag : ℕ) → slice_get (tags_where is_free tags) i ≡ Some tag
    → (t : Tag) × (slice_get tags tag ≡ Some t) × (is_free t ≡ true)
free-there tags i tag e =
    (let f = free-at 0 tags i tag e in
    let is = f.is in
    let same : f.at ≡ tag = omega (arith, is) in
    (f.t, subst (λ n. slice_get tags n ≡ Some f.t) same f.there, f.free))

listed-there : (tags : List Tag) (tag : ℕ) (t : Tag) → slice_get tags tag ≡ Some t → is_free t ≡ true
    → (k : ℕ) × (slice_get (tags_where is_free tags) k ≡ Some tag)
listed-there tags tag t there free =
    (let k = free-listed 0 tags tag t there free in
    let same : 0 + tag ≡ tag = omega arith in
    (k.0, k.1 ∙ ap (λ (n : ℕ). Some n) same))

first-lowest : (count : ℕ) (tags : List Tag) → nat_le count (length (tags_where is_free tags)) ≡ true
    → AreLowest count tags (take count (tags_where is_free tags))
first-lowest count tags enough =
    record {
      many = length-take-le count (tags_where is_free tags) (leb-true count (length (tags_where is_free tags)) enough);
      free = (λ i tag e. free-there tags i tag (take-get count i (tags_where is_free tags) tag e).1);
      lowest = (λ i tag other t e below there free.
          (let at = take-get count i (tags_where is_free tags) tag e in
          let k = listed-there tags other t there free in
          let before = free-before 0 tags i k.0 tag other at.1 k.1 below in
          let within = at.0 in
          (k.0, before, take-there count k.0 (tags_where is_free tags) (omega (arith, before, within)) ∙ k.1)));
      rise = (λ i j tag other e f before.
          free-rise 0 tags i j tag other (take-get count i (tags_where is_free tags) tag e).1 (take-get count j (tags_where is_free tags) other f).1 before);
    }

claimed-by : (count : ℕ) (tags : List Tag) (found : List ℕ) (b : Bool) → nat_le count (length (tags_where is_free tags)) ≡ b
    → cond b (Some (take count (tags_where is_free tags))) None ≡ Some found → AreLowest count tags found
claimed-by count tags found true enough e =
    (let same = some-same (take count (tags_where is_free tags)) found e in subst (AreLowest count tags) same (first-lowest count tags enough))
claimed-by count tags found false few e = cc

pub claimed-lowest : (count : ℕ) (tags : List Tag) (found : List ℕ) → claimed count tags ≡ Some found → AreLowest count tags found
unfolding claimed
claimed-lowest count tags found e = claimed-by count tags found (nat_le count (length (tags_where is_free tags))) refl e

-- where none are, fewer are free
few-by : (count : ℕ) (tags : List Tag) (b : Bool) → nat_le count (length (tags_where is_free tags)) ≡ b
    → cond b (Some (take count (tags_where is_free tags))) None ≡ None → length (filter is_free tags) < count
few-by count tags true enough e = cc
few-by count tags false few e =
    (let below = leb-false count (length (tags_where is_free tags)) few in
    let many = free-count 0 tags in
    omega (arith, below, many))

pub claimed-few : (count : ℕ) (tags : List Tag) → claimed count tags ≡ None → length (filter is_free tags) < count
unfolding claimed
claimed-few count tags e = few-by count tags (nat_le count (length (tags_where is_free tags))) refl e

-- ---- Busy

-- a take that is busy found a guest's command that wants more tags than are free
pub record IsBusy (owner : Option Owner) (queue : ℕ) (l : Lane) (w : World) : Type 0 where
  pub o : Owner
  pub owns : owner ≡ Some o
  pub addr : ℕ
  pub found : front o.controller queue ≡ Some addr
  pub few : length (filter is_free l.tags) < tags_of_entry o.given.namespace (entry_at addr o w)

take_tags-busy : (tags : Option (List ℕ)) (addr queue lane : ℕ) (o : Owner) (w : World) → (take_tags tags addr queue lane o w).reply ≡ reply.Busy
    → tags ≡ None
take_tags-busy None addr queue lane o w e = refl
take_tags-busy (Some tags) addr queue lane o w e = cc

take_front-busy : (f : Option ℕ) (queue number : ℕ) (l : Lane) (o : Owner) (w : World) → front o.controller queue ≡ f
    → (take_front f queue number l o w).reply ≡ reply.Busy → IsBusy (Some o) queue l w
take_front-busy None queue number l o w is e = cc
take_front-busy (Some addr) queue number l o w is e =
    (let wanted = tags_of_entry o.given.namespace (entry_at addr o w) in
    record {
      o = o;
      owns = refl;
      addr = addr;
      found = is;
      few = claimed-few wanted l.tags (take_tags-busy (claimed wanted l.tags) addr queue number o w e);
    })

take_from-busy : (b : Bool) (queue number : ℕ) (l : Lane) (o : Owner) (w : World)
    → (cond b (take_front (front o.controller queue) queue number l o w) (replied reply.Ignored w)).reply ≡ reply.Busy → IsBusy (Some o) queue l w
take_from-busy true queue number l o w e = take_front-busy (front o.controller queue) queue number l o w refl e
take_from-busy false queue number l o w e = cc

lane-busy : (x : Option Lane) (queue lane : ℕ) (l : Lane) (o : Owner) (w : World) → x ≡ Some l
    → (for_one x w (λ k. take_from queue lane k o w)).reply ≡ reply.Busy → IsBusy (Some o) queue l w
lane-busy None queue lane l o w there e = cc
lane-busy (Some k) queue lane l o w there e =
    (let same : k ≡ l = some-same k l there in
    subst (λ x. IsBusy (Some o) queue x w) same (take_from-busy (is_io_queue queue) queue lane k o w e))

guest-busy : (x : Option Owner) (queue lane : ℕ) (l : Lane) (w : World) → slice_get w.lanes lane ≡ Some l
    → (for_one x w (λ o. for_one (slice_get w.lanes lane) w (λ k. take_from queue lane k o w))).reply ≡ reply.Busy → IsBusy x queue l w
guest-busy None queue lane l w there e = cc
guest-busy (Some o) queue lane l w there e = lane-busy (slice_get w.lanes lane) queue lane l o w there e

pub busy-few : (geometry : Geometry) (guest queue lane : ℕ) (w : World) (l : Lane) → slice_get w.lanes lane ≡ Some l
    → (step geometry (event.Take guest queue lane) w).reply ≡ reply.Busy → IsBusy (owner_of geometry w guest) queue l w
unfolding step
busy-few geometry guest queue lane w l there e = guest-busy (owner_of geometry w guest) queue lane l w there e
