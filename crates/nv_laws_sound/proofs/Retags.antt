-- A tag that stands nowhere, before and behind an event: free, taken or ended. Nothing else of its lane is touched.
use Rattle.std.proofs.Common.{◌≡◌, ℕ, ◌%◌, Bool, true, false, cond, ◌==◌, List, set, slice_get, Option, Some, None, arith, refl, sym, ap, ◌∙◌, subst}
use Rattle.std.proofs.lemmas.Bool.{eqb-false, ne_eqb}
use Rattle.nv_model.specs.Limits.{page}
use Rattle.nv_world_model.specs.Contained.{is_answered_at, is_queued_at, tag_stands}
use Rattle.nv_world_model.specs.Device.{DeviceLane, Held}
use Rattle.nv_world_model.specs.Geometry.{Geometry}
use Rattle.nv_world_model.specs.World.{Command, Flying, Lane, Standing, Tag, World, changed_at, tag_changed, tag_in, tag_of, with_device, with_host, with_tag}
use Rattle.nv_world_model.specs.Share.{Share}
use Rattle.nv_world_model.specs.Step.{standing_at, stands}
use Rattle.nv_world_model.proofs.Seats.{slice_get-set-other}
use Rattle.nv_laws_sound.specs.Consistent.{IsConsistentOfTags, IsLane, IsTag, SomeStands, standing_count, waits_for_device, waits_for_mediator}
use Rattle.nv_laws_sound.proofs.Lists.{IsThere, Put, Was, count-set, length-set, set-same, set-there, slice_get-below, slice_get-there, some-same}
use Rattle.nv_laws_sound.proofs.Changes.{world-lane}

-- ---- where a tag is

-- the lane of a tag, the device's side of it, and what the device holds under its number
pub record IsAt (w : World) (lane tag : ℕ) (t : Tag) : Type 0 where
  pub l : Lane
  pub d : DeviceLane
  pub held : Option Held
  pub at_lane : slice_get w.lanes lane ≡ Some l
  pub at_device : slice_get w.device lane ≡ Some d
  pub at_tag : slice_get l.tags tag ≡ Some t
  pub at_held : slice_get d.held tag ≡ Some held

is-at-lane : (geometry : Geometry) (w : World) (lane tag : ℕ) (t : Tag) (l : Lane) (d : DeviceLane) → IsConsistentOfTags geometry w
    → slice_get w.lanes lane ≡ Some l → slice_get w.device lane ≡ Some d → slice_get l.tags tag ≡ Some t → IsAt w lane tag t
is-at-lane geometry w lane tag t l d is at there found =
    let positions = (is.lanes lane l d at there).positions in
    let sized = positions.tags in
    let holds = positions.held in
    let below = slice_get-below l.tags tag t found in
    let under = slice_get-there d.held tag (omega (arith, sized, holds, below)) in
    record { l = l; d = d; held = under.0; at_lane = at; at_device = there; at_tag = found; at_held = under.1 }

pub is-at : (geometry : Geometry) (w : World) (lane tag : ℕ) (t : Tag) → IsConsistentOfTags geometry w → tag_of w lane tag ≡ Some t → IsAt w lane tag t
is-at geometry w lane tag t is found =
    (elim (slice_get w.lanes lane) as (λ o. slice_get w.lanes lane ≡ o → tag_in o tag ≡ Some t → IsAt w lane tag t) [
      | None ↦ λ at there. cc
      | Some l ↦ λ at there.
          let below = slice_get-below w.lanes lane l at in
          let sides = is.sides in
          let d = slice_get-there w.device lane (omega (arith, below, sides)) in
          is-at-lane geometry w lane tag t l d.0 is at d.1 there
    ]) refl found

-- the tag is as the lane says
pub tag-is : (geometry : Geometry) (w : World) (lane tag : ℕ) (t : Tag) → IsConsistentOfTags geometry w → (a : IsAt w lane tag t)
    → IsTag geometry lane tag w.host a.l.head a.d a.held t
tag-is geometry w lane tag t is a = (is.lanes lane a.l a.d a.at_lane a.at_device).tags tag t a.held a.at_tag a.at_held

-- ---- tags that stand nowhere

abbrev pub StandsNowhere : Tag → Type 0
StandsNowhere t = (test : Standing → Bool) → tag_stands test t ≡ false

-- what stands is another tag, and still does
pub stands-kept : (test : Standing → Bool) (tags : List Tag) (tag : ℕ) (t now : Tag) → slice_get tags tag ≡ Some t → tag_stands test t ≡ false
    → SomeStands test tags → SomeStands test (set tags tag now)
stands-kept test tags tag t now at none s =
    record {
      tag = s.tag;
      there = s.there;
      is = slice_get-set-other tags tag s.tag now (ne_eqb s.tag tag (λ same. apart same)) ∙ s.is;
      stands = s.stands;
    }
  where
    apart : s.tag ≡ tag → ⊥
    apart same =
        let one : s.there ≡ t = some-same s.there t (sym s.is ∙ subst (λ n. slice_get tags n ≡ Some t) (sym same) at) in
        let bad : true ≡ false = sym s.stands ∙ subst (λ x. tag_stands test x ≡ false) (sym one) none in
        cc

-- as many stand so as before
pub count-kept : (test : Standing → Bool) (tags : List Tag) (tag : ℕ) (t now : Tag) → slice_get tags tag ≡ Some t
    → tag_stands test t ≡ tag_stands test now → standing_count test (set tags tag now) ≡ standing_count test tags
count-kept test tags tag t now at same =
    let changed = count-set (tag_stands test) tags tag t now at in
    let one : ◌≡◌ {A = ℕ} (cond (tag_stands test t) 1 0) (cond (tag_stands test now) 1 0) = ap {B = ℕ} (λ b. cond b 1 0) same in
    omega (arith, changed, one)

-- ---- a lane with one tag changed

-- each tag is as it should be, where this one and the others are
pub tags-with : (Is : (tag : ℕ) → Option Held → Tag → Type 0) (tags : List Tag) (helds : List (Option Held)) (tag : ℕ) (now : Tag) (held : Option Held)
    → Is tag held now
    → ((other : ℕ) (t : Tag) (h : Option Held) → (other == tag) ≡ false → slice_get tags other ≡ Some t → slice_get helds other ≡ Some h → Is other h t)
    → (other : ℕ) (t : Tag) (h : Option Held) → slice_get (set tags tag now) other ≡ Some t → slice_get (set helds tag held) other ≡ Some h → Is other h t
tags-with Is tags helds tag now held one others other t h at there =
    one_of (set-there tags tag now other t at) (set-there helds tag held other h there)
  where
    one_of : IsThere tags tag now other t → IsThere helds tag held other h → Is other h t
    one_of (Put same put) (Put again given) =
        subst (λ n. Is n h t) (sym same) (subst (λ k. Is tag k t) given (subst (Is tag held) put one))
    one_of (Put same put) (Was apart found) = absurd (eqb-false other tag apart same)
    one_of (Was apart found) (Put same put) = absurd (eqb-false other tag apart same)
    one_of (Was apart found) (Was again under) = others other t h apart found under

pub lane-retagged : (geometry : Geometry) (lane tag : ℕ) (host : ℕ → ℕ) (l : Lane) (d : DeviceLane) (t now : Tag) (held : Option Held)
    → IsLane geometry lane host l d → slice_get l.tags tag ≡ Some t → slice_get d.held tag ≡ Some held → StandsNowhere t → StandsNowhere now
    → IsTag geometry lane tag host l.head d held now → IsLane geometry lane host (tag_changed tag now l) d
lane-retagged geometry lane tag host l d t now held is at under was nowhere new =
    record {
      positions = record {
        head = is.positions.head;
        tail = is.positions.tail;
        posted = is.positions.posted;
        read = is.positions.read;
        tags = length-set l.tags tag now ∙ is.positions.tags;
        held = is.positions.held;
      };
      tags =
          subst (λ helds. (other : ℕ) (x : Tag) (h : Option Held) → slice_get (set l.tags tag now) other ≡ Some x
          → slice_get helds other ≡ Some h → IsTag geometry lane other host l.head d h x)
          (set-same d.held tag held under)
          (tags-with (λ other h x. IsTag geometry lane other host l.head d h x) l.tags d.held tag now held new (λ other x h apart there. is.tags other x h there));
      queued = (λ slot between. stands-kept (is_queued_at slot) l.tags tag t now at (was (is_queued_at slot)) (is.queued slot between));
      answered = (λ slot between. stands-kept (is_answered_at slot) l.tags tag t now at (was (is_answered_at slot)) (is.answered slot between));
      queued_count = count-kept waits_for_device l.tags tag t now at (was waits_for_device ∙ sym (nowhere waits_for_device)) ∙ is.queued_count;
      answered_count = count-kept waits_for_mediator l.tags tag t now at (was waits_for_mediator ∙ sym (nowhere waits_for_mediator)) ∙ is.answered_count;
    }

-- ---- the world with one tag changed

pub with_tag-is : (lane tag : ℕ) (now : Tag) (w : World) (l : Lane) → slice_get w.lanes lane ≡ Some l
    → with_tag lane tag now w ≡ record w { lanes = set w.lanes lane (tag_changed tag now l) }
with_tag-is lane tag now w l at = ap (λ o. record w { lanes = changed_at o lane (tag_changed tag now) w.lanes }) at

pub retagged : (geometry : Geometry) (lane tag : ℕ) (w : World) (t now : Tag) → geometry.mediator % page ≡ 0 → IsConsistentOfTags geometry w
    → (a : IsAt w lane tag t) → StandsNowhere t → StandsNowhere now → IsTag geometry lane tag w.host a.l.head a.d a.held now
    → IsConsistentOfTags geometry (with_tag lane tag now w)
retagged geometry lane tag w t now aligned is a was nowhere new =
    let there = is.lanes lane a.l a.d a.at_lane a.at_device in
    let lanes = lane-retagged geometry lane tag w.host a.l a.d t now a.held there a.at_tag a.at_held was nowhere new in
    let whole = world-lane geometry w lane w.host (tag_changed tag now a.l) a.d aligned (λ at apart below x low high. refl) lanes is in
    subst (IsConsistentOfTags geometry) (sym (with_tag-is lane tag now w a.l a.at_lane))
    (subst (λ ds. IsConsistentOfTags geometry (record w { lanes = set w.lanes lane (tag_changed tag now a.l); device = ds })) (set-same w.device lane a.d a.at_device) whole)

-- ---- the world with one lane, the device's side of it, and the host changed

-- a tag that was handed on stands elsewhere, and the device's side of its lane and the host change
pub stands-is : (w : World) (lane tag : ℕ) (l : Lane) (d : DeviceLane) (command : Command) (share : Share) (before s : Standing) (host : ℕ → ℕ) (change : DeviceLane → DeviceLane)
    → slice_get w.lanes lane ≡ Some l → slice_get w.device lane ≡ Some d → slice_get l.tags tag ≡ Some (Flying command share before)
    → stands s lane tag (with_device lane change (with_host host w))
    ≡ record w { host = host; lanes = set w.lanes lane (tag_changed tag (Flying command share s) l); device = set w.device lane (change d) }
stands-is w lane tag l d command share before s host change at there found =
    let z = with_device lane change (with_host host w) in
    let here : tag_of w lane tag ≡ Some (Flying command share before) = ap (λ o. tag_in o tag) at ∙ found in
    ap (λ o. standing_at o s lane tag z) here
    ∙ ap (λ o. record z { lanes = changed_at o lane (tag_changed tag (Flying command share s)) w.lanes }) at
    ∙ ap (λ o. record w { host = host; lanes = set w.lanes lane (tag_changed tag (Flying command share s) l); device = changed_at o lane change w.device }) there
