-- The ways through a step in two worlds that look alike to its owner: both go the same way, so what holds of the worlds behind each end of it holds behind
-- the step.
use Rattle.std.proofs.Common.{◌≡◌, ℕ, Bool, true, false, cond, ◌==◌, eqb-true, List, slice_get, Option, Some, None, refl, sym, ap, ◌∙◌, subst}
use Rattle.std.specs.Option.{option_map}
use Rattle.nv_entry.specs.Status.{StatusField}
use Rattle.nv_model.specs.Controller.{Controller}
use Rattle.nv_model.specs.Transcript.{ReadDone}
use Rattle.nv_model.specs.declared.reply.Reply.TheVariants as reply
use Rattle.nv_world_model.specs.Contained.{guest_of_one}
use Rattle.nv_world_model.specs.Device.{DeviceLane, Held}
use Rattle.nv_world_model.specs.Geometry.{Geometry, Guest}
use Rattle.nv_world_model.specs.Share.{Share}
use Rattle.nv_world_model.specs.Seat.{Owner, held_in, owner_by, owner_of}
use Rattle.nv_world_model.specs.Step.{After, for_one, for_ended, for_held, for_leader, for_owner, for_taken, replied}
use Rattle.nv_world_model.specs.View.{IsAlike, is_tag_of, lane_numbers, ring_numbers}
use Rattle.nv_world_model.specs.World.{Command, Ended, Flying, Free, Lane, Tag, Taken, World, tag_in, tag_of}
use Rattle.nv_laws_sound.specs.Consistent.{IsConsistentOfTags}
use Rattle.nv_laws_sound.proofs.Lists.{some-same}
use Rattle.nv_laws_sound.proofs.Retags.{is-at}
use Rattle.nv_laws.proofs.others.AlikeGroups.{tag-same}
use Rattle.nv_laws.proofs.others.AlikeReplies.{by-controller, by-guest, held-alike, lanes-same, own, rings-same}

module _ (P : World → World → Type 0) (w z : World) (holds : P w z) where
  either-one : (b : Bool) (x y u v : After) → (b ≡ true → P x.world u.world) → (b ≡ false → P y.world v.world) → P (cond b x y).world (cond b u v).world
  either-one true x y u v so not_so = so refl
  either-one false x y u v so not_so = not_so refl

  -- by tests that are the same
  pub either-both : (b c : Bool) → b ≡ c → (x y u v : After) → (b ≡ true → P x.world u.world) → (b ≡ false → P y.world v.world)
      → P (cond b x y).world (cond c u v).world
  either-both b c same x y u v so not_so = subst (λ t. P (cond b x y).world (cond t u v).world) same (either-one b x y u v so not_so)

  leader-both : (tag : ℕ) (command : Command) (x y : After) → (command.leader ≡ tag → P x.world y.world)
      → P (for_leader tag command w x).world (for_leader tag command z y).world
  leader-both tag command x y each =
      either-one (command.leader == tag) x (replied reply.Stale w) y (replied reply.Stale z) (λ same. each (eqb-true command.leader tag same)) (λ other. holds)

  pub taken-both : (number tag : ℕ) (t : Option Tag) → guest_of_one t ≡ Some number → (more again : Command → List ReadDone → After)
      → ((command : Command) (reads : List ReadDone) → t ≡ Some (Taken command reads) → command.guest ≡ number → command.leader ≡ tag
      → P (more command reads).world (again command reads).world)
      → P (for_taken tag t w more).world (for_taken tag t z again).world
  taken-both number tag None mine more again each = holds
  taken-both number tag (Some Free) mine more again each = holds
  taken-both number tag (Some (Taken command reads)) mine more again each =
      leader-both tag command (more command reads) (again command reads) (λ leads. each command reads refl (some-same command.guest number mine) leads)
  taken-both number tag (Some (Flying command share standing)) mine more again each = holds
  taken-both number tag (Some (Ended command st share)) mine more again each = holds

  pub ended-both : (number tag : ℕ) (t : Option Tag) → guest_of_one t ≡ Some number → (more again : Command → After)
      → ((command : Command) (st : StatusField) (share : Option Share) → t ≡ Some (Ended command st share) → command.guest ≡ number → command.leader ≡ tag
      → P (more command).world (again command).world)
      → P (for_ended tag t w more).world (for_ended tag t z again).world
  ended-both number tag None mine more again each = holds
  ended-both number tag (Some Free) mine more again each = holds
  ended-both number tag (Some (Taken command reads)) mine more again each = holds
  ended-both number tag (Some (Flying command share standing)) mine more again each = holds
  ended-both number tag (Some (Ended command st share)) mine more again each =
      leader-both tag command (more command) (again command) (λ leads. each command st share refl (some-same command.guest number mine) leads)

  pub lane-both : (x y : Option Lane) → option_map lane_numbers x ≡ option_map lane_numbers y → (more again : Lane → After)
      → ((l m : Lane) → x ≡ Some l → y ≡ Some m → lane_numbers l ≡ lane_numbers m → P (more l).world (again m).world)
      → P (for_one x w more).world (for_one y z again).world
  lane-both None None numbers more again each = holds
  lane-both None (Some m) numbers more again each = cc
  lane-both (Some l) None numbers more again each = cc
  lane-both (Some l) (Some m) numbers more again each = each l m refl refl (some-same (lane_numbers l) (lane_numbers m) numbers)

  pub device-both : (x y : Option DeviceLane) → option_map ring_numbers x ≡ option_map ring_numbers y → (more again : DeviceLane → After)
      → ((d e : DeviceLane) → x ≡ Some d → y ≡ Some e → ring_numbers d ≡ ring_numbers e → P (more d).world (again e).world)
      → P (for_one x w more).world (for_one y z again).world
  device-both None None numbers more again each = holds
  device-both None (Some e) numbers more again each = cc
  device-both (Some d) None numbers more again each = cc
  device-both (Some d) (Some e) numbers more again each = each d e refl refl (some-same (ring_numbers d) (ring_numbers e) numbers)

  pub held-both : (x : Option (Option Held)) (more again : Held → After) → ((h : Held) → x ≡ Some (Some h) → P (more h).world (again h).world)
      → P (for_held x w more).world (for_held x z again).world
  held-both None more again each = holds
  held-both (Some None) more again each = holds
  held-both (Some (Some h)) more again each = each h refl

-- ---- a tag in both worlds

-- its lane, and the device's side of it
pub record IsInBoth (w z : World) (lane tag : ℕ) (t s : Tag) : Type 0 where
  pub l : Lane
  pub m : Lane
  pub d : DeviceLane
  pub e : DeviceLane
  pub lane_one : slice_get w.lanes lane ≡ Some l
  pub lane_two : slice_get z.lanes lane ≡ Some m
  pub device_one : slice_get w.device lane ≡ Some d
  pub device_two : slice_get z.device lane ≡ Some e
  pub tag_one : slice_get l.tags tag ≡ Some t
  pub tag_two : slice_get m.tags tag ≡ Some s
  pub lanes : lane_numbers l ≡ lane_numbers m
  pub rings : ring_numbers d ≡ ring_numbers e

-- what has the same numbers as what is there is there, too
there-too : {X Y : Type 0} (f : X → Y) (x y : Option X) (a : X) → option_map f x ≡ option_map f y → x ≡ Some a → (b : X) × (y ≡ Some b) × (f a ≡ f b)
there-too f None y a same at = cc
there-too f (Some x) None a same at = cc
there-too f (Some x) (Some y) a same at =
    let one : x ≡ a = cc in
    (y, refl, ap f (sym one) ∙ some-same (f x) (f y) same)

module _ (geometry : Geometry) (w z : World) (number : ℕ) (guest : Guest) (given : slice_get geometry.guests number ≡ Some guest)
    (alike : IsAlike number guest geometry w z) where
  pub lane-too : (lane : ℕ) (l : Lane) → slice_get w.lanes lane ≡ Some l → (m : Lane) × (slice_get z.lanes lane ≡ Some m) × (lane_numbers l ≡ lane_numbers m)
  lane-too lane l at = there-too lane_numbers (slice_get w.lanes lane) (slice_get z.lanes lane) l (lanes-same geometry w z number guest given alike lane) at

  pub device-too : (lane : ℕ) (d : DeviceLane) → slice_get w.device lane ≡ Some d
      → (e : DeviceLane) × (slice_get z.device lane ≡ Some e) × (ring_numbers d ≡ ring_numbers e)
  device-too lane d at = there-too ring_numbers (slice_get w.device lane) (slice_get z.device lane) d (rings-same geometry w z number guest given alike lane) at

  -- a tag of that guest's
  pub tag-too : (lane tag : ℕ) (t : Tag) → tag_of w lane tag ≡ Some t → is_tag_of number (Some t) ≡ true → tag_of z lane tag ≡ Some t
  tag-too lane tag t there mine =
      sym (tag-same number (tag_of w lane tag) (tag_of z lane tag) (alike.view.tags lane tag) (ap (is_tag_of number) there ∙ mine)) ∙ there

  -- and stands in the same lane of both
  abbrev pub found-both : (lane tag : ℕ) (l m : Lane) (d e : DeviceLane) (t : Tag) → slice_get w.lanes lane ≡ Some l → slice_get z.lanes lane ≡ Some m
      → slice_get w.device lane ≡ Some d → slice_get z.device lane ≡ Some e → lane_numbers l ≡ lane_numbers m → ring_numbers d ≡ ring_numbers e
      → slice_get l.tags tag ≡ Some t → is_tag_of number (Some t) ≡ true → IsInBoth w z lane tag t t
  found-both lane tag l m d e t at too there again numbers rings found mine =
      record {
        l = l;
        m = m;
        d = d;
        e = e;
        lane_one = at;
        lane_two = too;
        device_one = there;
        device_two = again;
        tag_one = found;
        tag_two = sym (ap (λ o. tag_in o tag) too) ∙ tag-too lane tag t (ap (λ o. tag_in o tag) at ∙ found) mine;
        lanes = numbers;
        rings = rings;
      }

  pub in-both : (lane tag : ℕ) (t : Tag) → IsConsistentOfTags geometry w → tag_of w lane tag ≡ Some t → is_tag_of number (Some t) ≡ true → IsInBoth w z lane tag t t
  in-both lane tag t fine there mine =
      let a = is-at geometry w lane tag t fine there in
      let m = lane-too lane a.l a.at_lane in
      let e = device-too lane a.d a.at_device in
      found-both lane tag a.l m.0 a.d e.0 t a.at_lane m.1 a.at_device e.1 m.2 e.2 a.at_tag mine

  -- what the device holds of it
  pub held-too : (lane tag : ℕ) (t : Tag) → tag_of w lane tag ≡ Some t → is_tag_of number (Some t) ≡ true
      → held_in (slice_get w.device lane) tag ≡ held_in (slice_get z.device lane) tag
  held-too lane tag t there mine =
      held-alike number (tag_of w lane tag) (tag_of z lane tag) _ _ (alike.view.held lane tag) (there ∙ sym (tag-too lane tag t there mine)) (ap (is_tag_of number) there ∙ mine)

  module _ (P : World → World → Type 0) (holds : P w z) where
    owner-there : (found : Option Controller) → slice_get w.controllers number ≡ found → slice_get z.controllers number ≡ found
        → (Q : Option Owner → Type 0) → Q None
        → ((c : Controller) → slice_get w.controllers number ≡ Some c → slice_get z.controllers number ≡ Some c
        → Q (Some (own geometry w z number guest given alike c)))
        → Q (owner_by number (Some guest) found)
    owner-there None one two Q none some = none
    owner-there (Some c) one two Q none some = some c one two

    pub guest-both : (n : ℕ) → n ≡ number → (more again : Owner → After)
        → ((c : Controller) → slice_get w.controllers number ≡ Some c → slice_get z.controllers number ≡ Some c
        → P (more (own geometry w z number guest given alike c)).world (again (own geometry w z number guest given alike c)).world)
        → P (for_one (owner_of geometry w n) w more).world (for_one (owner_of geometry z n) z again).world
    guest-both n same more again each =
        subst (λ o. P (for_one o w more).world (for_one (owner_of geometry z n) z again).world) (sym (by-controller geometry w z number guest given alike n same))
        (subst (λ o. P (for_one (owner_by number (Some guest) (slice_get z.controllers number)) w more).world (for_one o z again).world)
        (sym (by-guest geometry w z number guest given alike n same z))
        (owner-there (slice_get z.controllers number) alike.view.controller refl (λ o. P (for_one o w more).world (for_one o z again).world) holds each))

    pub owner-both : (n : ℕ) → n ≡ number → (more again : Owner → After)
        → ((c : Controller) → slice_get w.controllers number ≡ Some c → slice_get z.controllers number ≡ Some c
        → P (more (own geometry w z number guest given alike c)).world (again (own geometry w z number guest given alike c)).world)
        → P (for_owner (owner_of geometry w n) w more).world (for_owner (owner_of geometry z n) z again).world
    owner-both n same more again each =
        subst (λ o. P (for_owner o w more).world (for_owner (owner_of geometry z n) z again).world) (sym (by-controller geometry w z number guest given alike n same))
        (subst (λ o. P (for_owner (owner_by number (Some guest) (slice_get z.controllers number)) w more).world (for_owner o z again).world)
        (sym (by-guest geometry w z number guest given alike n same z))
        (owner-there (slice_get z.controllers number) alike.view.controller refl (λ o. P (for_owner o w more).world (for_owner o z again).world) holds each))
