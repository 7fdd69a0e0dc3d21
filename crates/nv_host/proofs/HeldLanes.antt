-- How many tags of a lane a guest's commands have, once one of the lane's tags is another.
use Rattle.std.proofs.Common.{◌≡◌, ℕ, zero, suc, ◌+◌, ◌≤◌, ◌==◌, ◌⊎◌, inl, inr, Bool, true, false, cond, List, [], ◌∷◌, length, map, set, slice_get}
use Rattle.std.proofs.Common.{Option, Some, None, arith, refl, sym, ap, ◌∙◌, subst}
use Rattle.std.proofs.lemmas.Bool.{cases_eq, ne_eqb}
use Rattle.std.proofs.lemmas.Option.{slice_get-map}
use Rattle.std.specs.List.{count_by}
use Rattle.std.specs.Option.{option_map}
use Rattle.nv_core.proofs.HeldTags.{count-cons}
use Rattle.nv_core.specs.Held.{held_in, is_of}
use Rattle.nv_laws_sound.proofs.Lists.{count-set}
use Rattle.nv_laws_sound.specs.Unplaced.{unplaced_lane, unplaced_tag}
use Rattle.nv_world_model.proofs.Seats.{slice_get-set, slice_get-set-other}
use Rattle.nv_world_model.specs.World.{Ended, Flying, Free, Lane, Tag, Taken, World, changed_at, tag_changed, tag_in, tag_of, with_tag, with_tags}

-- ---- lists

-- one that is changed counts once at most
count-more : {X : Type 0} (p : X → Bool) (xs : List X) (i : ℕ) (y : X) → count_by p (set xs i y) ≤ count_by p xs + cond (p y) 1 0
count-more p [] i y = omega arith
count-more p (z ∷ xs) zero y =
    (let now = count-cons p y xs in
    let was = count-cons p z xs in
    omega (arith, now, was))
count-more p (z ∷ xs) (suc i) y =
    (let rest = count-more p xs i y in
    let now = count-cons p z (set xs i y) in
    let was = count-cons p z xs in
    omega (arith, rest, now, was))

-- and as before where what it is now does as it did
count-same : {X : Type 0} (p : X → Bool) (xs : List X) (i : ℕ) (x y : X) → slice_get xs i ≡ Some x → p y ≡ p x → count_by p (set xs i y) ≡ count_by p xs
count-same p xs i x y at same =
    (let moved = count-set p xs i x y at in
    let alike : ◌≡◌ {A = ℕ} (cond (p y) 1 0) (cond (p x) 1 0) = ap (λ (b : Bool). cond b 1 0) same in
    omega (arith, moved, alike))

-- ---- lanes

abbrev pub held : World → (guest lane : ℕ) → ℕ
held w guest lane = held_in guest (slice_get w.lanes lane)

pub changed-more : (o : Option Lane) (lanes : List Lane) (lane guest a n : ℕ) (change : Lane → Lane) → slice_get lanes lane ≡ o
    → ((l : Lane) → slice_get lanes lane ≡ Some l → held_in guest (Some (change l)) ≤ held_in guest (Some l) + n)
    → held_in guest (slice_get (changed_at o lane change lanes) a) ≤ held_in guest (slice_get lanes a) + n
changed-more None lanes lane guest a n change at each = omega arith
changed-more (Some l) lanes lane guest a n change at each = by (cases_eq a lane)
  where
    by : (a ≡ lane) ⊎ (a ≡ lane → ⊥) → held_in guest (slice_get (set lanes lane (change l)) a) ≤ held_in guest (slice_get lanes a) + n
    by (inl same) =
        (let now = ap (held_in guest) (slice_get-set lanes lane l (change l) at) in
        let was = ap (held_in guest) at in
        let more = each l at in
        subst (λ (k : ℕ). held_in guest (slice_get (set lanes lane (change l)) k) ≤ held_in guest (slice_get lanes k) + n) (sym same) (omega (arith, now, was, more)))
    by (inr other) =
        (let same = ap (held_in guest) (slice_get-set-other lanes lane a (change l) (ne_eqb a lane other)) in
        omega (arith, same))

lane-apart : (o : Option Lane) (lanes : List Lane) (lane guest a : ℕ) (change : Lane → Lane) → (a == lane) ≡ false
    → held_in guest (slice_get (changed_at o lane change lanes) a) ≡ held_in guest (slice_get lanes a)
lane-apart None lanes lane guest a change apart = refl
lane-apart (Some l) lanes lane guest a change apart = ap (held_in guest) (slice_get-set-other lanes lane a (change l) apart)

-- ---- one tag

pub tag-more : (w : World) (lane tag guest a : ℕ) (now : Tag) → held (with_tag lane tag now w) guest a ≤ held w guest a + cond (is_of guest now) 1 0
tag-more w lane tag guest a now =
    changed-more (slice_get w.lanes lane) w.lanes lane guest a (cond (is_of guest now) 1 0) (tag_changed tag now) refl
    (λ l at. count-more (is_of guest) l.tags tag now)

-- a tag of the same guest's
pub tag-same : (w : World) (lane tag guest a : ℕ) (t now : Tag) → tag_of w lane tag ≡ Some t → is_of guest now ≡ is_of guest t
    → held (with_tag lane tag now w) guest a ≤ held w guest a
tag-same w lane tag guest a t now there same =
    (let more =
    changed-more (slice_get w.lanes lane) w.lanes lane guest a 0 (tag_changed tag now) refl
    (λ l at.
    (let found : slice_get l.tags tag ≡ Some t = sym (ap (λ (o : Option Lane). tag_in o tag) at) ∙ there in
    let e = count-same (is_of guest) l.tags tag t now found same in
    omega (arith, e))) in
    omega (arith, more))

-- ---- several

-- none of them is that guest's
pub tags-none : (lane : ℕ) (tags : List ℕ) (w : World) (guest a : ℕ) (now : Tag) → is_of guest now ≡ false
    → held (with_tags lane tags now w) guest a ≤ held w guest a
unfolding with_tags
tags-none lane [] w guest a now others = omega arith
tags-none lane (tag ∷ tags) w guest a now others =
    (let one = tag-more w lane tag guest a now in
    let none : ◌≡◌ {A = ℕ} (cond (is_of guest now) 1 0) 0 = ap (λ (b : Bool). cond b 1 0) others in
    let rest = tags-none lane tags (with_tag lane tag now w) guest a now others in
    omega (arith, one, none, rest))

-- they are of another lane
pub tags-apart : (lane : ℕ) (tags : List ℕ) (w : World) (guest a : ℕ) (now : Tag) → (a == lane) ≡ false
    → held (with_tags lane tags now w) guest a ≡ held w guest a
unfolding with_tags
tags-apart lane [] w guest a now apart = refl
tags-apart lane (tag ∷ tags) w guest a now apart =
    tags-apart lane tags (with_tag lane tag now w) guest a now apart
    ∙ lane-apart (slice_get w.lanes lane) w.lanes lane guest a (tag_changed tag now) apart

small : (b : Bool) → cond b 1 0 ≤ 1
small true = omega arith
small false = omega arith

-- no more than there are
pub tags-more : (lane : ℕ) (tags : List ℕ) (w : World) (guest a : ℕ) (now : Tag) → held (with_tags lane tags now w) guest a ≤ held w guest a + length tags
unfolding with_tags
tags-more lane [] w guest a now = omega arith
tags-more lane (tag ∷ tags) w guest a now =
    (let one = tag-more w lane tag guest a now in
    let most = small (is_of guest now) in
    let rest = tags-more lane tags (with_tag lane tag now w) guest a now in
    omega (arith, one, most, rest))

-- ---- places

unplaced-of : (guest : ℕ) (t : Tag) → is_of guest (unplaced_tag t) ≡ is_of guest t
unplaced-of guest Free = refl
unplaced-of guest (Taken command reads) = refl
unplaced-of guest (Flying command share at) = refl
unplaced-of guest (Ended command st share) = refl

unplaced-count : (guest : ℕ) (tags : List Tag) → count_by (is_of guest) (map unplaced_tag tags) ≡ count_by (is_of guest) tags
unplaced-count guest [] = refl
unplaced-count guest (t ∷ tags) =
    (let one : ◌≡◌ {A = ℕ} (cond (is_of guest (unplaced_tag t)) 1 0) (cond (is_of guest t) 1 0) = ap (λ (b : Bool). cond b 1 0) (unplaced-of guest t) in
    let rest = unplaced-count guest tags in
    let now = count-cons (is_of guest) (unplaced_tag t) (map unplaced_tag tags) in
    let was = count-cons (is_of guest) t tags in
    omega (arith, one, rest, now, was))

unplaced-held : (guest : ℕ) (o : Option Lane) → held_in guest (option_map unplaced_lane o) ≡ held_in guest o
unplaced-held guest None = refl
unplaced-held guest (Some l) = unplaced-count guest l.tags

-- lanes that are the same but for the places of parts
pub held-alike : (guest lane : ℕ) (ls ms : List Lane) → map unplaced_lane ls ≡ map unplaced_lane ms
    → held_in guest (slice_get ls lane) ≡ held_in guest (slice_get ms lane)
held-alike guest lane ls ms same =
    sym (unplaced-held guest (slice_get ls lane))
    ∙ ap (held_in guest) (sym (slice_get-map unplaced_lane ls lane) ∙ ap (λ (ns : List Lane). slice_get ns lane) same ∙ slice_get-map unplaced_lane ms lane)
    ∙ unplaced-held guest (slice_get ms lane)
