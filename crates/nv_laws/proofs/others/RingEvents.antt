-- What the device's takes and the mediator's reaping leave: their owner is the guest of the one tag whose slot is next.
use Rattle.std.proofs.Common.{◌≡◌, ℕ, zero, suc, Bool, true, false, cond, List, [], ◌∷◌, length, set, slice_get, Option, Some, arith, refl}
use Rattle.std.proofs.Common.{sym, ap, ◌∙◌, subst}
use Rattle.std.proofs.lemmas.Bool.{eqb-false}
use Rattle.nv_entry.specs.Completion.{status_of}
use Rattle.nv_model.specs.Queue.{is_empty, next_slot}
use Rattle.nv_world_model.specs.declared.event.Event.TheVariants as event
use Rattle.nv_world_model.specs.Area.{ring_size}
use Rattle.nv_world_model.specs.ShareArea.{share_entry}
use Rattle.nv_world_model.specs.Contained.{front_guest, guest_standing, is_answered_at, is_queued_at, next_guest, tag_stands}
use Rattle.nv_world_model.specs.Device.{DeviceLane, Held, front_entry, held_of}
use Rattle.nv_world_model.specs.Geometry.{Geometry}
use Rattle.nv_world_model.specs.Seat.{completion_at}
use Rattle.nv_world_model.specs.Step.{completion_read, device_take, device_took, ended_at, passed_on, reap, reaped, step}
use Rattle.nv_world_model.specs.View.{guest_of_tag}
use Rattle.nv_world_model.specs.World.{Answered, Ended, Flying, InDevice, Lane, Standing, Tag, World, tag_changed, tag_of, with_lane}
use Rattle.nv_laws_sound.specs.Consistent.{IsConsistentOfTags}
use Rattle.nv_laws_sound.specs.LaidOut.{IsLaidOut}
use Rattle.nv_laws_sound.proofs.Lists.{set-same, slice_get-below, slice_get-there, some-same}
use Rattle.nv_laws_sound.proofs.ReapEvents.{answered-at, ended-is}
use Rattle.nv_laws_sound.proofs.Rings.{between-head, far-some}
use Rattle.nv_laws_sound.proofs.Slots.{completion-one, entry-one}
use Rattle.nv_laws_sound.proofs.TakenEvents.{queued-at, took-world}
use Rattle.nv_laws_sound.proofs.Walks.{device-walk, either, lane-walk}
use Rattle.nv_laws.specs.Leaving.{Leaves}
use Rattle.nv_laws.proofs.others.Events.{LeavesRest, leaves-nothing, leaves-tag}
use Rattle.nv_laws.proofs.others.Parts.{held-put, tag-apart}

-- ---- the tag whose slot is next

-- where all tags that stand so have one guest, it is the guest of the first
standing-guest : (test : Standing → Bool) (tags : List Tag) (place : ℕ) (t : Tag) → slice_get tags place ≡ Some t → tag_stands test t ≡ true
    → ((at : ℕ) (u : Tag) → slice_get tags at ≡ Some u → tag_stands test u ≡ true → guest_of_tag u ≡ guest_of_tag t)
    → guest_standing test tags ≡ guest_of_tag t
unfolding guest_standing
standing-guest test [] place t at stands one = cc
standing-guest test (x ∷ tags) zero t at stands one =
    let same : x ≡ t = cc in
    ap (λ b. cond b (guest_of_tag x) (guest_standing test tags)) (ap (tag_stands test) same ∙ stands) ∙ ap guest_of_tag same
standing-guest test (x ∷ tags) (suc place) t at stands one =
    let rest = standing-guest test tags place t at stands (λ i u there also. one (suc i) u there also) in
    (elim (tag_stands test x) as (λ b. tag_stands test x ≡ b → cond b (guest_of_tag x) (guest_standing test tags) ≡ guest_of_tag t) [
      | true ↦ λ first. one 0 x refl first
      | false ↦ λ none. rest
    ]) refl

module _ (host_bytes : ℕ) (geometry : Geometry) (w : World) (laid : IsLaidOut host_bytes (length w.lanes) geometry) (fine : IsConsistentOfTags geometry w) where
  -- nothing but lanes has changed
  rest-lanes : (whose : Option ℕ) (lanes : List Lane) (devices : List DeviceLane) → LeavesRest geometry whose w (record w { lanes = lanes; device = devices })
  rest-lanes whose lanes devices =
      record { bytes = (λ at a b. refl); area = (λ n g addr a b c. refl); blocks = (λ at offset a. refl); marks = (λ at a k. k); controllers = (λ n d. refl) }

  -- ---- takes

  took-leaves : (lane tag : ℕ) (l : Lane) (d : DeviceLane) (held : Option Held) (t : Tag) → slice_get w.lanes lane ≡ Some l → slice_get w.device lane ≡ Some d
      → slice_get l.tags tag ≡ Some t → slice_get d.held tag ≡ Some held → tag_stands (is_queued_at d.head) t ≡ true
      → Leaves geometry (guest_of_tag t) w (device_took lane (front_entry geometry.mediator lane d w.host) w)
  took-leaves lane tag l d held t at there found under next =
      let before = fine.lanes lane l d at there in
      let tags = before.positions.tags in
      let among = slice_get-below l.tags tag t found in
      let a = queued-at geometry lane tag d.head w.host l.head d held t (before.tags tag t held found under) next in
      let entry = share_entry a.share a.guest.namespace a.guest a.command.entry geometry.mediator lane tag in
      let new = Flying a.command a.share InDevice in
      let own : guest_of_tag t ≡ Some a.command.guest = ap guest_of_tag a.flies in
      let behind = record d { head = next_slot ring_size d.head; held = set d.held tag (Some (held_of entry w.host)) } in
      took-world (Leaves geometry (guest_of_tag t) w) geometry w lane tag l d held t a (omega (arith, tags, among)) at there found
      (leaves-tag geometry (guest_of_tag t) w (record w { lanes = set w.lanes lane (tag_changed tag new l); device = set w.device lane behind })
      lane tag l (tag_changed tag new l) d behind t new at there found refl refl refl (λ b apart. held-put d.held tag (Some (held_of entry w.host)) b apart)
      (λ number differ. tag-apart (guest_of_tag t) number t refl differ) (λ number differ. tag-apart (guest_of_tag t) number new (sym own) differ)
      (rest-lanes (guest_of_tag t) (set w.lanes lane (tag_changed tag new l)) (set w.device lane behind)))

  pub front-is : (lane : ℕ) (l : Lane) (d : DeviceLane) (tag : ℕ) (t : Tag) → slice_get w.lanes lane ≡ Some l → slice_get w.device lane ≡ Some d
      → slice_get l.tags tag ≡ Some t → tag_stands (is_queued_at d.head) t ≡ true → front_guest (slice_get w.lanes lane) (slice_get w.device lane) ≡ guest_of_tag t
  front-is lane l d tag t at there found next =
      ap (λ o. front_guest o (slice_get w.device lane)) at ∙ ap (λ o. front_guest (Some l) o) there
      ∙ standing-guest (is_queued_at d.head) l.tags tag t found next
      (λ i u here also.
      (let same = entry-one geometry lane w.host l d (fine.lanes lane l d at there) d.head i tag u t here found also next in
      ap guest_of_tag (some-same u t (sym here ∙ ap (slice_get l.tags) same ∙ found))))

  pub device_takes-leave : (lane : ℕ) → Leaves geometry (front_guest (slice_get w.lanes lane) (slice_get w.device lane)) w (step geometry (event.DevTake lane) w).world
  unfolding step
  device_takes-leave lane =
      let whose = front_guest (slice_get w.lanes lane) (slice_get w.device lane) in
      let nothing = leaves-nothing geometry whose w in
      device-walk (Leaves geometry whose w) w nothing (slice_get w.device lane) (λ d. device_take geometry.mediator lane d w) (λ d there.
      either (Leaves geometry whose w) w nothing (is_empty d.head d.tail) _ _ (λ none. nothing) (λ some.
      (let among = slice_get-below w.device lane d there in
      let sides = fine.sides in
      let l = slice_get-there w.lanes lane (omega (arith, among, sides)) in
      let before = fine.lanes lane l.0 d l.1 there in
      let waits : d.head ≡ d.tail → ⊥ = eqb-false d.head d.tail some in
      let next = before.queued d.head (between-head d.head d.tail before.positions.head before.positions.tail (far-some d.head d.tail before.positions.head before.positions.tail waits)) in
      let tags = before.positions.tags in
      let sized = before.positions.held in
      let inside = slice_get-below l.0.tags next.tag next.there next.is in
      let held = slice_get-there d.held next.tag (omega (arith, tags, sized, inside)) in
      subst (λ o. Leaves geometry o w (device_took lane (front_entry geometry.mediator lane d w.host) w)) (sym (front-is lane l.0 d next.tag next.there l.1 there next.is next.stands))
      (took-leaves lane next.tag l.0 d held.0 next.there l.1 there next.is held.1 next.stands))))

  -- ---- reaping

  reaped-leaves : (lane tag : ℕ) (l : Lane) (d : DeviceLane) (held : Option Held) (t : Tag) → slice_get w.lanes lane ≡ Some l → slice_get w.device lane ≡ Some d
      → slice_get l.tags tag ≡ Some t → slice_get d.held tag ≡ Some held → tag_stands (is_answered_at l.head) t ≡ true
      → Leaves geometry (guest_of_tag t) w (reaped lane (completion_at geometry w lane l.head) w)
  unfolding reaped
  reaped-leaves lane tag l d held t at there found under next =
      let before = fine.lanes lane l d at there in
      let a = answered-at geometry lane tag l.head w.host l.head d held t (before.tags tag t held found under) next in
      let flies : slice_get l.tags tag ≡ Some (Flying a.command a.share (Answered l.head)) = found ∙ ap (λ x. Some x) a.flies in
      let st = status_of (completion_at geometry w lane l.head) in
      let new = Ended a.command (passed_on st) (Some a.share) in
      let now = tag_changed tag new (completion_read l) in
      let own : guest_of_tag t ≡ Some a.command.guest = ap guest_of_tag a.flies in
      subst (λ n. Leaves geometry (guest_of_tag t) w (ended_at (tag_of w lane n) st lane n (with_lane lane completion_read w))) (sym a.identifier)
      (subst (Leaves geometry (guest_of_tag t) w) (sym (ended-is w lane tag l a.command a.share (Answered l.head) st at flies))
      (leaves-tag geometry (guest_of_tag t) w (record w { lanes = set w.lanes lane now }) lane tag l now d d t new at there found refl refl (sym (set-same w.device lane d there)) (λ b apart. refl)
      (λ number differ. tag-apart (guest_of_tag t) number t refl differ) (λ number differ. tag-apart (guest_of_tag t) number new (sym own) differ)
      (rest-lanes (guest_of_tag t) (set w.lanes lane now) w.device)))

  pub next-is : (lane : ℕ) (l : Lane) (d : DeviceLane) (tag : ℕ) (t : Tag) → slice_get w.lanes lane ≡ Some l → slice_get w.device lane ≡ Some d
      → slice_get l.tags tag ≡ Some t → tag_stands (is_answered_at l.head) t ≡ true → next_guest (slice_get w.lanes lane) ≡ guest_of_tag t
  next-is lane l d tag t at there found next =
      ap next_guest at
      ∙ standing-guest (is_answered_at l.head) l.tags tag t found next
      (λ i u here also.
      (let same = completion-one geometry lane w.host l d (fine.lanes lane l d at there) l.head i tag u t here found also next in
      ap guest_of_tag (some-same u t (sym here ∙ ap (slice_get l.tags) same ∙ found))))

  pub reaps-leave : (lane : ℕ) → Leaves geometry (next_guest (slice_get w.lanes lane)) w (step geometry (event.Reap lane) w).world
  unfolding step
  reaps-leave lane =
      let whose = next_guest (slice_get w.lanes lane) in
      let nothing = leaves-nothing geometry whose w in
      lane-walk (Leaves geometry whose w) w nothing (slice_get w.lanes lane) _ (λ l at.
      device-walk (Leaves geometry whose w) w nothing (slice_get w.device lane) (λ d. reap geometry lane l d w) (λ d there.
      either (Leaves geometry whose w) w nothing (is_empty l.head d.posted) _ _ (λ none. nothing) (λ some.
      (let before = fine.lanes lane l d at there in
      let waits : l.head ≡ d.posted → ⊥ = eqb-false l.head d.posted some in
      let next = before.answered l.head (between-head l.head d.posted before.positions.read before.positions.posted (far-some l.head d.posted before.positions.read before.positions.posted waits)) in
      let tags = before.positions.tags in
      let sized = before.positions.held in
      let inside = slice_get-below l.tags next.tag next.there next.is in
      let held = slice_get-there d.held next.tag (omega (arith, tags, sized, inside)) in
      subst (λ o. Leaves geometry o w (reaped lane (completion_at geometry w lane l.head) w)) (sym (next-is lane l d next.tag next.there at there next.is next.stands))
      (reaped-leaves lane next.tag l d held.0 next.there at there next.is held.1 next.stands)))))
