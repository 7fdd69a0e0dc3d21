-- Tags as they are kept, looked up and changed.
use Rattle.std.proofs.Common.{◌≡◌, ℕ, zero, suc, ◌<◌, ◌≤◌, ◌⊎◌, inl, inr, List, [], ◌∷◌, length, set, slice_get, Option, Some, None}
use Rattle.std.proofs.Common.{arith, refl, sym, ap, ◌∙◌, subst}
use Rattle.std.proofs.lemmas.Bool.{cases_eq, ne_eqb}
use Rattle.std.proofs.lemmas.Option.{slice_get_past}
use Rattle.nv_core.specs.Tags.{AreUsed, HasCommand, IsUsed, command_at, ended_as, flying_as, part_in, plan_in, plan_kept, state_in}
use Rattle.nv_core.specs.Tags.{state_of as state_of_tag, tag_made, tags_by, tags_of}
use Rattle.nv_core.specs.declared.progress.Progress.{Progress}
use Rattle.nv_core.specs.declared.progress.Progress.TheVariants as progress
use Rattle.nv_entry.specs.Status.{StatusField}
use Rattle.nv_laws_sound.proofs.Lists.{length-set, slice_get-below, slice_get-there, some-same}
use Rattle.nv_model.specs.Transcript.{ReadDone}
use Rattle.nv_plan.specs.Made.{MadePlan, share_made}
use Rattle.nv_tags.specs.Tags.{Slot, leader_of, slot_at, slot_or_free, state_at, state_of}
use Rattle.nv_tags.specs.Tags as slot
use Rattle.nv_tags.specs.declared.state.TagState.{TagState}
use Rattle.nv_world_model.proofs.Seats.{slice_get-set, slice_get-set-other}
use Rattle.nv_world_model.specs.Share.{Share}
use Rattle.nv_world_model.specs.World.{Command, Ended, Flying, InDevice, Standing, Taken, Tag, is_free}

-- ---- lists

-- lists that are alike at each place
pub same-lists : {X : Type 0} (xs ys : List X) → ((i : ℕ) → slice_get xs i ≡ slice_get ys i) → xs ≡ ys
same-lists [] [] same = refl
same-lists [] (y ∷ ys) same = (let first = same 0 in cc)
same-lists (x ∷ xs) [] same = (let first = same 0 in cc)
same-lists (x ∷ xs) (y ∷ ys) same =
    let first : x ≡ y = some-same x y (same 0) in
    let rest = same-lists xs ys (λ i. same (suc i)) in
    cc

-- what is put at a place stands there
pub get-set : {X : Type 0} (xs : List X) (at : ℕ) (x : X) → at < length xs → slice_get (set xs at x) at ≡ Some x
get-set xs at x below = let there = slice_get-there xs at below in slice_get-set xs at there.0 x there.1

pub get-other : {X : Type 0} (xs : List X) (at i : ℕ) (x : X) → (i ≡ at → ⊥) → slice_get (set xs at x) i ≡ slice_get xs i
get-other xs at i x apart = slice_get-set-other xs at i x (ne_eqb i at apart)

-- what stands at a place behind a change is what was put, or was there
pub get-either : {X : Type 0} (xs : List X) (at i : ℕ) (x y : X) → slice_get (set xs at x) i ≡ Some y
    → ((i ≡ at) × (x ≡ y)) ⊎ ((i ≡ at → ⊥) × (slice_get xs i ≡ Some y))
get-either xs at i x y e = by (cases_eq i at)
  where
    by : (i ≡ at) ⊎ (i ≡ at → ⊥) → ((i ≡ at) × (x ≡ y)) ⊎ ((i ≡ at → ⊥) × (slice_get xs i ≡ Some y))
    by (inl same) =
        (let below = slice_get-below (set xs at x) i y e in
        let long = length-set xs at x in
        inl (same, some-same x y (sym (get-set xs at x (omega arith)) ∙ sym (ap (slice_get (set xs at x)) same) ∙ e)))
    by (inr apart) = inr (apart, sym (get-other xs at i x apart) ∙ e)

-- two changes at two places
pub set-apart : {X : Type 0} (xs : List X) (a b : ℕ) (x y : X) → (a ≡ b → ⊥) → set (set xs a x) b y ≡ set (set xs b y) a x
set-apart [] a b x y apart = refl
set-apart (z ∷ xs) zero zero x y apart = absurd (apart refl)
set-apart (z ∷ xs) zero (suc b) x y apart = refl
set-apart (z ∷ xs) (suc a) zero x y apart = refl
set-apart {X = X} (z ∷ xs) (suc a) (suc b) x y apart =
    ap (λ (ys : List X). z ∷ ys) (set-apart xs a b x y (λ same. apart (ap suc same)))

-- ---- a tag that is looked up

-- by its slot and by what is kept of it
abbrev pub tag_at : List Progress → Option Slot → Option Progress → Option Tag
tag_at kept None p = None
tag_at kept (Some s) None = None
tag_at kept (Some s) (Some p) = Some (tag_made kept s p)

at-none : (kept : List Progress) (s : Option Slot) → None ≡ tag_at kept s None
at-none kept None = refl
at-none kept (Some s) = refl

pub tags-get : (kept : List Progress) (slots : List Slot) (ps : List Progress) (i : ℕ)
    → slice_get (tags_by kept slots ps) i ≡ tag_at kept (slice_get slots i) (slice_get ps i)
unfolding tags_by
tags-get kept [] ps i = refl
tags-get kept (s ∷ slots) [] i = at-none kept (slice_get (s ∷ slots) i)
tags-get kept (s ∷ slots) (p ∷ ps) zero = refl
tags-get kept (s ∷ slots) (p ∷ ps) (suc i) = tags-get kept slots ps i

pub tags-length : (kept : List Progress) (slots : List Slot) (ps : List Progress) → length slots ≡ length ps → length (tags_by kept slots ps) ≡ length slots
unfolding tags_by
tags-length kept [] ps same = refl
tags-length kept (s ∷ slots) [] same = absurd (omega arith)
tags-length kept (s ∷ slots) (p ∷ ps) same = ap suc (tags-length kept slots ps (omega arith))

-- its slot, and what is kept of it
pub record IsKept (slots : List Slot) (ps : List Progress) (tag : ℕ) (t : Tag) : Type 0 where
  pub slot : Slot
  pub progress : Progress
  pub below : tag < length slots
  pub slot_is : slice_get slots tag ≡ Some slot
  pub progress_is : slice_get ps tag ≡ Some progress
  pub made : tag_made ps slot progress ≡ t

pub tags-kept : (slots : List Slot) (ps : List Progress) (tag : ℕ) (t : Tag) → slice_get (tags_of slots ps) tag ≡ Some t → IsKept slots ps tag t
tags-kept slots ps tag t e = by (slice_get slots tag) (slice_get ps tag) refl refl (sym (tags-get ps slots ps tag) ∙ e)
  where
    by : (s : Option Slot) (p : Option Progress) → slice_get slots tag ≡ s → slice_get ps tag ≡ p → tag_at ps s p ≡ Some t → IsKept slots ps tag t
    by None p slot_is progress_is made = cc
    by (Some s) None slot_is progress_is made = cc
    by (Some s) (Some p) slot_is progress_is made =
        record {
          slot = s;
          progress = p;
          below = slice_get-below slots tag s slot_is;
          slot_is = slot_is;
          progress_is = progress_is;
          made = some-same (tag_made ps s p) t made;
        }

-- one that is there
pub kept-there : (slots : List Slot) (ps : List Progress) (tag : ℕ) → length slots ≡ length ps → tag < length slots
    → (s : Slot) × ((p : Progress) × ((slice_get slots tag ≡ Some s) × (slice_get ps tag ≡ Some p)))
kept-there slots ps tag same below =
    let s = slice_get-there slots tag below in
    let p = slice_get-there ps tag (omega arith) in
    (s.0, (p.0, (s.1, p.1)))

pub slot-got : (slots : List Slot) (tag : ℕ) (s : Slot) → slice_get slots tag ≡ Some s → slot_at slots tag ≡ s
slot-got slots tag s e = ap slot_or_free e

-- a slot that is used was looked up
pub slot-used : (o : Option Slot) (command : Command) (point : slot.Point) → slot_or_free o ≡ slot.Used command point → o ≡ Some (slot.Used command point)
slot-used None command point e = cc
slot-used (Some s) command point e = ap (λ (x : Slot). Some x) e

-- ---- what a tag is that is used

-- it is its slot's command's, at its slot's point
abbrev pub IsAtPoint : Command → slot.Point → Tag → Type 0
IsAtPoint command slot.Taken t = (reads : List ReadDone) × (t ≡ Taken command reads)
IsAtPoint command slot.Flying t = (share : Share) × ((standing : Standing) × (t ≡ Flying command share standing))
IsAtPoint command (slot.Ended st) t = (share : Option Share) × (t ≡ Ended command st share)

flying-as : (command : Command) (share : Option Share) → HasCommand (flying_as command share) → IsAtPoint command slot.Flying (flying_as command share)
flying-as command None has = absurd has
flying-as command (Some share) has = (share, (InDevice, refl))

ended-as : (command : Command) (st : StatusField) (share : Option Share) → HasCommand (ended_as command st share)
    → IsAtPoint command (slot.Ended st) (ended_as command st share)
ended-as command st None has = absurd has
ended-as command st (Some share) has = (Some share, refl)

pub made-at : (kept : List Progress) (command : Command) (point : slot.Point) (p : Progress) → IsUsed kept (slot.Used command point) p
    → IsAtPoint command point (tag_made kept (slot.Used command point) p)
made-at kept command slot.Taken progress.Nothing is = absurd is
made-at kept command slot.Taken (progress.Reading reads) is = (reads, refl)
made-at kept command slot.Taken (progress.Going plan) is = absurd is
made-at kept command slot.Taken (progress.Over plan) is = absurd is
made-at kept command slot.Taken (progress.Part part) is = absurd is
made-at kept command slot.Taken (progress.PartOver part) is = absurd is
made-at kept command slot.Flying progress.Nothing is = absurd is
made-at kept command slot.Flying (progress.Reading reads) is = absurd is
made-at kept command slot.Flying (progress.Going plan) is = flying-as command (share_made 0 plan) is
made-at kept command slot.Flying (progress.Over plan) is = absurd is
made-at kept command slot.Flying (progress.Part part) is =
    flying-as command (part_in part (plan_in (slice_get kept command.leader))) is
made-at kept command slot.Flying (progress.PartOver part) is = absurd is
made-at kept command (slot.Ended st) progress.Nothing is = (None, refl)
made-at kept command (slot.Ended st) (progress.Reading reads) is = absurd is
made-at kept command (slot.Ended st) (progress.Going plan) is = absurd is
made-at kept command (slot.Ended st) (progress.Over plan) is = ended-as command st (share_made 0 plan) is
made-at kept command (slot.Ended st) (progress.Part part) is = absurd is
made-at kept command (slot.Ended st) (progress.PartOver part) is =
    ended-as command st (part_in part (plan_in (slice_get kept command.leader))) is

-- its point
pub made-state : (kept : List Progress) (s : Slot) (p : Progress) → IsUsed kept s p → state_of_tag (tag_made kept s p) ≡ state_of s
made-state kept slot.Free p is = refl
made-state kept (slot.Used command slot.Taken) p is = ap state_of_tag (made-at kept command slot.Taken p is).1
made-state kept (slot.Used command slot.Flying) p is = ap state_of_tag (made-at kept command slot.Flying p is).1.1
made-state kept (slot.Used command (slot.Ended st)) p is = ap state_of_tag (made-at kept command (slot.Ended st) p is).1

-- whether it is free
pub made-free : (kept : List Progress) (s : Slot) (p : Progress) → IsUsed kept s p → is_free (tag_made kept s p) ≡ slot.is_free s
made-free kept slot.Free p is = refl
made-free kept (slot.Used command slot.Taken) p is = ap is_free (made-at kept command slot.Taken p is).1
made-free kept (slot.Used command slot.Flying) p is = ap is_free (made-at kept command slot.Flying p is).1.1
made-free kept (slot.Used command (slot.Ended st)) p is = ap is_free (made-at kept command (slot.Ended st) p is).1

-- its command
pub made-command : (kept : List Progress) (s : Slot) (p : Progress) → IsUsed kept s p → command_at (Some (tag_made kept s p)) ≡ slot.command_in s
made-command kept slot.Free p is = refl
made-command kept (slot.Used command slot.Taken) p is = ap (λ (t : Tag). command_at (Some t)) (made-at kept command slot.Taken p is).1
made-command kept (slot.Used command slot.Flying) p is = ap (λ (t : Tag). command_at (Some t)) (made-at kept command slot.Flying p is).1.1
made-command kept (slot.Used command (slot.Ended st)) p is = ap (λ (t : Tag). command_at (Some t)) (made-at kept command (slot.Ended st) p is).1

-- ---- where plans stay

-- the plan that is kept in a tag is kept there further on
abbrev pub StaysPlan : (kept now : List Progress) → (tag : ℕ) → Type 0
StaysPlan kept now tag = (plan : MadePlan) → plan_in (slice_get kept tag) ≡ Some plan → plan_in (slice_get now tag) ≡ Some plan

-- so a tag whose command goes by it is what it was
flying-part : (led now : Option MadePlan) (command : Command) (part : ℕ) → ((plan : MadePlan) → led ≡ Some plan → now ≡ Some plan)
    → HasCommand (flying_as command (part_in part led)) → flying_as command (part_in part now) ≡ flying_as command (part_in part led)
flying-part None now command part stays has = absurd has
flying-part (Some plan) now command part stays has =
    ap (λ (o : Option MadePlan). flying_as command (part_in part o)) (stays plan refl)

ended-part : (led now : Option MadePlan) (command : Command) (part : ℕ) (st : StatusField) → ((plan : MadePlan) → led ≡ Some plan → now ≡ Some plan)
    → HasCommand (ended_as command st (part_in part led)) → ended_as command st (part_in part now) ≡ ended_as command st (part_in part led)
ended-part None now command part st stays has = absurd has
ended-part (Some plan) now command part st stays has =
    ap (λ (o : Option MadePlan). ended_as command st (part_in part o)) (stays plan refl)

pub made-stays : (kept now : List Progress) (s : Slot) (p : Progress) → StaysPlan kept now (leader_of s) → IsUsed kept s p
    → tag_made now s p ≡ tag_made kept s p
made-stays kept now slot.Free p stays is = refl
made-stays kept now (slot.Used command slot.Taken) p stays is = refl
made-stays kept now (slot.Used command slot.Flying) progress.Nothing stays is = refl
made-stays kept now (slot.Used command slot.Flying) (progress.Reading reads) stays is = refl
made-stays kept now (slot.Used command slot.Flying) (progress.Going plan) stays is = refl
made-stays kept now (slot.Used command slot.Flying) (progress.Over plan) stays is = refl
made-stays kept now (slot.Used command slot.Flying) (progress.Part part) stays is =
    flying-part (plan_in (slice_get kept command.leader)) (plan_in (slice_get now command.leader)) command part stays is
made-stays kept now (slot.Used command slot.Flying) (progress.PartOver part) stays is = refl
made-stays kept now (slot.Used command (slot.Ended st)) progress.Nothing stays is = refl
made-stays kept now (slot.Used command (slot.Ended st)) (progress.Reading reads) stays is = refl
made-stays kept now (slot.Used command (slot.Ended st)) (progress.Going plan) stays is = refl
made-stays kept now (slot.Used command (slot.Ended st)) (progress.Over plan) stays is = refl
made-stays kept now (slot.Used command (slot.Ended st)) (progress.Part part) stays is = refl
made-stays kept now (slot.Used command (slot.Ended st)) (progress.PartOver part) stays is =
    ended-part (plan_in (slice_get kept command.leader)) (plan_in (slice_get now command.leader)) command part st stays is

pub used-stays : (kept now : List Progress) (s : Slot) (p : Progress) → StaysPlan kept now (leader_of s) → IsUsed kept s p → IsUsed now s p
used-stays kept now slot.Free p stays is = is
used-stays kept now (slot.Used command point) p stays is =
    subst HasCommand (sym (made-stays kept now (slot.Used command point) p stays is)) is

-- a place in which a plan stays, or none was kept
pub record IsNext (slots : List Slot) (ps : List Progress) (tag : ℕ) (s : Slot) (p : Progress) (t : Tag) : Type 0 where
  pub below : tag < length slots
  pub before : Progress
  pub before_is : slice_get ps tag ≡ Some before
  pub stays : (plan : MadePlan) → plan_kept before ≡ Some plan → plan_kept p ≡ Some plan
  pub used : IsUsed ps s p
  pub made : tag_made ps s p ≡ t

-- one tag is changed, and it alone: what is kept of it, and its slot
module _ (slots : List Slot) (ps : List Progress) (same : length slots ≡ length ps) (are : AreUsed ps slots) (tag : ℕ) (s : Slot) (p : Progress) (t : Tag)
    (next : IsNext slots ps tag s p t) where
  below : tag < length ps
  below = (let b = next.below in omega arith)

  pub next-stays : (leader : ℕ) → StaysPlan ps (set ps tag p) leader
  next-stays leader plan is = by (cases_eq leader tag)
    where
      by : (leader ≡ tag) ⊎ (leader ≡ tag → ⊥) → plan_in (slice_get (set ps tag p) leader) ≡ Some plan
      by (inl here) =
          ap (λ (i : ℕ). plan_in (slice_get (set ps tag p) i)) here
          ∙ ap plan_in (get-set ps tag p below)
          ∙ next.stays plan (sym (ap plan_in next.before_is) ∙ sym (ap (λ (i : ℕ). plan_in (slice_get ps i)) here) ∙ is)
      by (inr apart) = ap plan_in (get-other ps tag leader p apart) ∙ is

  pub used-set : AreUsed (set ps tag p) (set slots tag s)
  used-set i si pi slot_is progress_is = by (get-either slots tag i s si slot_is) (get-either ps tag i p pi progress_is)
    where
      by : ((i ≡ tag) × (s ≡ si)) ⊎ ((i ≡ tag → ⊥) × (slice_get slots i ≡ Some si))
          → ((i ≡ tag) × (p ≡ pi)) ⊎ ((i ≡ tag → ⊥) × (slice_get ps i ≡ Some pi)) → IsUsed (set ps tag p) si pi
      by (inl x) (inl y) =
          used-stays ps (set ps tag p) si pi (next-stays (leader_of si)) (subst (λ (q : Progress). IsUsed ps si q) y.1 (subst (λ (z : Slot). IsUsed ps z p) x.1 next.used))
      by (inl x) (inr y) = absurd (y.0 x.0)
      by (inr x) (inl y) = absurd (x.0 y.0)
      by (inr x) (inr y) = used-stays ps (set ps tag p) si pi (next-stays (leader_of si)) (are i si pi x.1 y.1)

  -- all other tags are what they were
  others : (i : ℕ) (os : Option Slot) (op : Option Progress) → slice_get slots i ≡ os → slice_get ps i ≡ op → tag_at (set ps tag p) os op ≡ tag_at ps os op
  others i None op slot_is progress_is = refl
  others i (Some si) None slot_is progress_is = refl
  others i (Some si) (Some pi) slot_is progress_is =
      ap (λ (x : Tag). Some x) (made-stays ps (set ps tag p) si pi (next-stays (leader_of si)) (are i si pi slot_is progress_is))

  pub tags-set : tags_of (set slots tag s) (set ps tag p) ≡ set (tags_of slots ps) tag t
  tags-set = same-lists (tags_of (set slots tag s) (set ps tag p)) (set (tags_of slots ps) tag t) (λ i. by i (cases_eq i tag))
    where
      here : Some (tag_made (set ps tag p) s p) ≡ slice_get (set (tags_of slots ps) tag t) tag
      here =
          (let long = tags-length ps slots ps same in
          let b = next.below in
          ap (λ (x : Tag). Some x) (made-stays ps (set ps tag p) s p (next-stays (leader_of s)) next.used ∙ next.made)
          ∙ sym (get-set (tags_of slots ps) tag t (omega arith)))

      by : (i : ℕ) → (i ≡ tag) ⊎ (i ≡ tag → ⊥)
          → slice_get (tags_of (set slots tag s) (set ps tag p)) i ≡ slice_get (set (tags_of slots ps) tag t) i
      by i (inl is) =
          ap (slice_get (tags_of (set slots tag s) (set ps tag p))) is
          ∙ tags-get (set ps tag p) (set slots tag s) (set ps tag p) tag
          ∙ ap (λ (o : Option Slot). tag_at (set ps tag p) o (slice_get (set ps tag p) tag)) (get-set slots tag s next.below)
          ∙ ap (λ (o : Option Progress). tag_at (set ps tag p) (Some s) o) (get-set ps tag p below)
          ∙ here
          ∙ sym (ap (slice_get (set (tags_of slots ps) tag t)) is)
      by i (inr apart) =
          tags-get (set ps tag p) (set slots tag s) (set ps tag p) i
          ∙ ap (λ (o : Option Slot). tag_at (set ps tag p) o (slice_get (set ps tag p) i)) (get-other slots tag i s apart)
          ∙ ap (λ (o : Option Progress). tag_at (set ps tag p) (slice_get slots i) o) (get-other ps tag i p apart)
          ∙ others i (slice_get slots i) (slice_get ps i) refl refl
          ∙ sym (tags-get ps slots ps i)
          ∙ sym (get-other (tags_of slots ps) tag i t apart)

-- ---- looked up

-- the point of a tag
pub tags-state : (slots : List Slot) (ps : List Progress) (tag : ℕ) → length slots ≡ length ps → AreUsed ps slots → tag < length slots
    → state_in (slice_get (tags_of slots ps) tag) ≡ Some (state_at slots tag)
tags-state slots ps tag same are below =
    let k = kept-there slots ps tag same below in
    ap state_in (tags-get ps slots ps tag)
    ∙ ap (λ (o : Option Slot). state_in (tag_at ps o (slice_get ps tag))) k.1.1.0
    ∙ ap (λ (o : Option Progress). state_in (tag_at ps (Some k.0) o)) k.1.1.1
    ∙ ap (λ (x : TagState). Some x) (made-state ps k.0 k.1.0 (are tag k.0 k.1.0 k.1.1.0 k.1.1.1) ∙ sym (ap (λ (o : Option Slot). state_of (slot_or_free o)) k.1.1.0))

-- a tag that is not there
pub tags-past : (slots : List Slot) (ps : List Progress) (tag : ℕ) → length slots ≤ tag → state_in (slice_get (tags_of slots ps) tag) ≡ None
tags-past slots ps tag past =
    ap state_in (tags-get ps slots ps tag)
    ∙ ap (λ (o : Option Slot). state_in (tag_at ps o (slice_get ps tag))) (slice_get_past slots tag past)

-- the command of a tag
pub tags-command : (slots : List Slot) (ps : List Progress) (tag : ℕ) (command : Command) → AreUsed ps slots
    → command_at (slice_get (tags_of slots ps) tag) ≡ Some command → slot.command_in (slot_at slots tag) ≡ Some command
tags-command slots ps tag command are e =
    by (slice_get slots tag) (slice_get ps tag) refl refl (sym (ap command_at (tags-get ps slots ps tag)) ∙ e)
  where
    by : (s : Option Slot) (p : Option Progress) → slice_get slots tag ≡ s → slice_get ps tag ≡ p → command_at (tag_at ps s p) ≡ Some command
        → slot.command_in (slot_at slots tag) ≡ Some command
    by None p slot_is progress_is made = cc
    by (Some s) None slot_is progress_is made = cc
    by (Some s) (Some p) slot_is progress_is made =
        ap (λ (o : Option Slot). slot.command_in (slot_or_free o)) slot_is ∙ sym (made-command ps s p (are tag s p slot_is progress_is)) ∙ made
