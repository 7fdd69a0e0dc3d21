-- What is shown to a guest is what is shown of its tags, one by one.
use Rattle.std.proofs.Common.{◌≡◌, ℕ, zero, suc, ◌+◌, Bool, true, false, cond, ◌||◌, List, [], ◌∷◌, ◌++◌, flat_map, slice_get}
use Rattle.std.proofs.Common.{Option, Some, None, arith, refl, sym, ap, ◌∙◌, subst, eq-eqb}
use Rattle.std.specs.List.{enumerate_from, list_any}
use Rattle.nv_entry.specs.Completion.{status_of}
use Rattle.nv_entry.specs.Status.{StatusField}
use Rattle.nv_world_model.specs.Area.{bounce_page, list_page}
use Rattle.nv_world_model.specs.Contained.{is_answered_at, tag_stands}
use Rattle.nv_world_model.specs.Device.{Held}
use Rattle.nv_world_model.specs.Geometry.{Geometry, Guest}
use Rattle.nv_world_model.specs.Seat.{completion_at, held_in}
use Rattle.nv_world_model.specs.View.{Span, is_tag_of, lies_in, list_shown, moved_shown, own_shown, result_shown, shown, slot_shown, source_shown, tag_shown}
use Rattle.nv_world_model.specs.World.{Answered, Ended, Flying, Free, InDevice, Lane, Queued, Tag, Taken, World, tag_in, tag_of}
use Rattle.nv_laws.proofs.others.Shown.{any-chosen, in_span, one-of}

-- the spans that are shown of a tag as it stands in the world
abbrev pub tag_spans : Guest → Geometry → World → (lane tag : ℕ) → Tag → List Span
tag_spans guest geometry w lane tag t =
    tag_shown t guest (held_in (slice_get w.device lane) tag) (λ at. status_of (completion_at geometry w lane at)) geometry.mediator lane tag

-- a tag of that guest's shows a byte
pub record IsShownBy (number : ℕ) (guest : Guest) (geometry : Geometry) (w : World) (addr : ℕ) : Type 0 where
  pub lane : ℕ
  pub tag : ℕ
  pub t : Tag
  pub there : tag_of w lane tag ≡ Some t
  pub own : is_tag_of number (Some t) ≡ true
  pub lies : list_any (in_span addr) (tag_spans guest geometry w lane tag t) ≡ true

-- what is shown is shown by one
pub shown-by : (geometry : Geometry) (w : World) (number : ℕ) (guest : Guest) (addr : ℕ) → lies_in (shown number guest geometry w) addr ≡ true
    → IsShownBy number guest geometry w addr
unfolding shown
shown-by geometry w number guest addr e =
    let in_lane = one-of (in_span addr) (λ l. flat_map (own_shown number guest geometry w l.0) (enumerate_from 0 l.1.tags)) 0 w.lanes e in
    let in_tag = one-of (in_span addr) (own_shown number guest geometry w (0 + in_lane.place)) 0 in_lane.member.tags in_lane.lies in
    let lane = in_lane.place in
    let tag = in_tag.place in
    let t = in_tag.member in
    let named_lane : 0 + lane ≡ lane = omega arith in
    let named_tag : 0 + tag ≡ tag = omega arith in
    let lies : list_any (in_span addr) (own_shown number guest geometry w lane (tag, t)) ≡ true =
    subst (λ n. list_any (in_span addr) (own_shown number guest geometry w n (tag, t)) ≡ true) named_lane
    (subst (λ n. list_any (in_span addr) (own_shown number guest geometry w (0 + lane) (n, t)) ≡ true) named_tag in_tag.lies) in
    let mine = any-chosen (in_span addr) (is_tag_of number (Some t)) (tag_spans guest geometry w lane tag t) lies in
    record { lane = lane; tag = tag; t = t; there = ap (λ o. tag_in o tag) in_lane.at ∙ in_tag.at; own = mine.0; lies = mine.1 }

-- ---- and what one shows is shown

pub any-front : {X : Type 0} (p : X → Bool) (xs ys : List X) → list_any p xs ≡ true → list_any p (xs ++ ys) ≡ true
any-front p [] ys e = cc
any-front p (x ∷ xs) ys e =
    (elim (p x) as (λ b. (b || list_any p xs) ≡ true → (b || list_any p (xs ++ ys)) ≡ true) [
      | true ↦ λ any. refl
      | false ↦ λ any. any-front p xs ys any
    ]) e

pub any-behind : {X : Type 0} (p : X → Bool) (xs ys : List X) → list_any p ys ≡ true → list_any p (xs ++ ys) ≡ true
any-behind p [] ys e = e
any-behind p (x ∷ xs) ys e = (elim (p x) as (λ b. (b || list_any p (xs ++ ys)) ≡ true) [ true ↦ refl | false ↦ any-behind p xs ys e ])

-- one of numbered members
among-them : {X : Type 0} (p : Span → Bool) (f : ℕ × X → List Span) (from : ℕ) (xs : List X) (place : ℕ) (x : X) → slice_get xs place ≡ Some x
    → list_any p (f (from + place, x)) ≡ true → list_any p (flat_map f (enumerate_from from xs)) ≡ true
among-them p f from [] place x at lies = cc
among-them p f from (y ∷ ys) zero x at lies =
    let same : y ≡ x = cc in
    let here : from + 0 ≡ from = omega arith in
    any-front p (f (from, y)) (flat_map f (enumerate_from (from + 1) ys))
    (subst (λ v. list_any p (f (from, v)) ≡ true) (sym same) (subst (λ n. list_any p (f (n, x)) ≡ true) here lies))
among-them p f from (y ∷ ys) (suc place) x at lies =
    let here : from + suc place ≡ from + 1 + place = omega arith in
    any-behind p (f (from, y)) (flat_map f (enumerate_from (from + 1) ys))
    (among-them p f (from + 1) ys place x at (subst (λ n. list_any p (f (n, x)) ≡ true) here lies))

-- the lane of a tag that is there
lane-there : (lanes : Option Lane) (tag : ℕ) (t : Tag) → tag_in lanes tag ≡ Some t → (l : Lane) × (lanes ≡ Some l) × (slice_get l.tags tag ≡ Some t)
lane-there None tag t e = cc
lane-there (Some l) tag t e = (l, refl, e)

pub shows-it : (geometry : Geometry) (w : World) (number : ℕ) (guest : Guest) (addr : ℕ) → IsShownBy number guest geometry w addr
    → lies_in (shown number guest geometry w) addr ≡ true
unfolding shown
shows-it geometry w number guest addr s =
    let at = lane-there (slice_get w.lanes s.lane) s.tag s.t s.there in
    let named_lane : s.lane ≡ 0 + s.lane = omega arith in
    let named_tag : s.tag ≡ 0 + s.tag = omega arith in
    let lies : list_any (in_span addr) (own_shown number guest geometry w s.lane (s.tag, s.t)) ≡ true =
    ap (λ b. list_any (in_span addr) (cond b (tag_spans guest geometry w s.lane s.tag s.t) [])) s.own ∙ s.lies in
    among-them (in_span addr) (λ l. flat_map (own_shown number guest geometry w l.0) (enumerate_from 0 l.1.tags)) 0 w.lanes s.lane at.0 at.1
    (among-them (in_span addr) (own_shown number guest geometry w (0 + s.lane)) 0 at.0.tags s.tag s.t at.2
    (subst (λ n. list_any (in_span addr) (own_shown number guest geometry w (0 + s.lane) (n, s.t)) ≡ true) named_tag
    (subst (λ n. list_any (in_span addr) (own_shown number guest geometry w n (s.tag, s.t)) ≡ true) named_lane lies)))

-- ---- a tag that is as it was

-- shows what it showed, where the device holds the same of it, and a completion that waits for it has its status still
pub spans-same : (t : Tag) (guest : Guest) (held again : Option Held) (f g : ℕ → StatusField) (mediator lane tag : ℕ) → held ≡ again
    → ((at : ℕ) → tag_stands (is_answered_at at) t ≡ true → f at ≡ g at)
    → tag_shown t guest held f mediator lane tag ≡ tag_shown t guest again g mediator lane tag
spans-same Free guest held again f g mediator lane tag same statuses = refl
spans-same (Taken command reads) guest held again f g mediator lane tag same statuses = refl
spans-same (Flying command share (Queued at)) guest held again f g mediator lane tag same statuses = refl
spans-same (Flying command share InDevice) guest held again f g mediator lane tag same statuses =
    ap (λ h.
    slot_shown InDevice mediator lane ++ list_shown share.plan guest (list_page mediator lane tag) (bounce_page mediator lane tag)
    ++ source_shown share.plan (bounce_page mediator lane tag) ++ moved_shown h share.plan (bounce_page mediator lane tag)) same
spans-same (Flying command share (Answered at)) guest held again f g mediator lane tag same statuses =
    ap (λ st.
    slot_shown (Answered at) mediator lane ++ list_shown share.plan guest (list_page mediator lane tag) (bounce_page mediator lane tag)
    ++ source_shown share.plan (bounce_page mediator lane tag) ++ result_shown st share.plan (bounce_page mediator lane tag)) (statuses at (eq-eqb at at refl))
spans-same (Ended command st share) guest held again f g mediator lane tag same statuses = refl
