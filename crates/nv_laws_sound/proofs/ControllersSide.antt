-- Events of the physical controller change nothing of the mediator's side but the places of parts.
use Rattle.std.proofs.Common.{◌≡◌, ℕ, List, [], ◌∷◌, map, set, slice_get, Option, Some, None, refl, sym, ap, ◌∙◌}
use Rattle.std.specs.Option.{option_map}
use Rattle.std.specs.List.{list_any}
use Rattle.std.specs.Prelude.{◌==◌, ◌+◌, nat_le}
use Rattle.std.proofs.lemmas.List.{map-set}
use Rattle.std.proofs.lemmas.Option.{slice_get-map}
use Rattle.nv_entry.specs.Status.{StatusField}
use Rattle.nv_entry.specs.Submission.{cid_of}
use Rattle.nv_laws_sound.proofs.Lists.{set-same}
use Rattle.nv_laws_sound.proofs.Retags.{with_tag-is}
use Rattle.nv_laws_sound.proofs.Unplaced.{tag-of, tag-onto}
use Rattle.nv_laws_sound.proofs.Walks.{device-walk, either, held-walk}
use Rattle.nv_laws_sound.specs.Unplaced.{HasSameSide, IsControllers, unplaced, unplaced_lane, unplaced_tag}
use Rattle.nv_model.specs.Queue.{is_empty}
use Rattle.nv_world_model.specs.Device.{DeviceLane, Held, completion_posted, completion_written, entry_taken, held_status, with_held}
use Rattle.nv_world_model.specs.Geometry.{Geometry}
use Rattle.nv_world_model.specs.Step.{device_fail, device_move, device_moved, device_post, device_posted, device_took, is_success, kept_block, standing_at, stands, step}
use Rattle.nv_world_model.specs.World.{Answered, Ended, Flying, Free, InDevice, Lane, Standing, Tag, Taken, World, changed_at, tag_in, tag_of, with_device, with_host, with_tag}
use Rattle.nv_world_model.specs.declared.event.Event.{Event}
use Rattle.nv_world_model.specs.declared.event.Event.TheVariants as event

same-side : (w : World) → HasSameSide w w
same-side w = record { lanes = refl; controllers = refl; tails = refl }

-- ---- a lane's side of the controller changes, and its tail does not

tails-same : (lane : ℕ) (change : DeviceLane → DeviceLane) → ((d : DeviceLane) → (change d).tail ≡ d.tail) → (ds : List DeviceLane)
    → map (λ d. d.tail) (changed_at (slice_get ds lane) lane change ds) ≡ map (λ d. d.tail) ds
tails-same lane change keeps ds = by (slice_get ds lane) refl
  where
    tail : DeviceLane → ℕ
    tail d = d.tail

    by : (o : Option DeviceLane) → slice_get ds lane ≡ o → map (λ d. d.tail) (changed_at o lane change ds) ≡ map (λ d. d.tail) ds
    by None at = refl
    by (Some d) at =
        map-set (λ (x : DeviceLane). x.tail) ds lane (change d)
        ∙ ap (set (map (λ (x : DeviceLane). x.tail) ds) lane) (keeps d)
        ∙ set-same (map (λ (x : DeviceLane). x.tail) ds) lane d.tail
        (slice_get-map (λ (x : DeviceLane). x.tail) ds lane ∙ ap (option_map (λ (x : DeviceLane). x.tail)) at)

-- ---- a part stands elsewhere

-- a tag that is put where it is
put-same : (lane tag : ℕ) (t : Tag) (w : World) → tag_of w lane tag ≡ Some t → with_tag lane tag t w ≡ w
put-same lane tag t w at = by (slice_get w.lanes lane) refl at
  where
    by : (o : Option Lane) → slice_get w.lanes lane ≡ o → tag_in o tag ≡ Some t → with_tag lane tag t w ≡ w
    by None found there = cc
    by (Some l) found there =
        with_tag-is lane tag t w l found
        ∙ ap (λ (ts : List Tag). let v : World = record w { lanes = set w.lanes lane (record l { tags = ts }) } in v) (set-same l.tags tag t there)
        ∙ ap (λ (ls : List Lane). let v : World = record w { lanes = ls } in v) (set-same w.lanes lane l found)

stands-unplaced : (o : Option Tag) (s : Standing) (lane tag : ℕ) (w : World) → tag_of w lane tag ≡ o → unplaced (standing_at o s lane tag w) ≡ unplaced w
stands-unplaced None s lane tag w at = refl
stands-unplaced (Some Free) s lane tag w at = refl
stands-unplaced (Some (Taken c rs)) s lane tag w at = refl
stands-unplaced (Some (Flying c share before)) s lane tag w at =
    sym (tag-onto lane tag (Flying c share s) w)
    ∙ put-same lane tag (Flying c share InDevice) (unplaced w) (tag-of w lane tag ∙ ap (option_map unplaced_tag) at)
stands-unplaced (Some (Ended c st share)) s lane tag w at = refl

stands-rest : (o : Option Tag) (s : Standing) (lane tag : ℕ) (w : World) → (standing_at o s lane tag w).controllers ≡ w.controllers
stands-rest None s lane tag w = refl
stands-rest (Some Free) s lane tag w = refl
stands-rest (Some (Taken c rs)) s lane tag w = refl
stands-rest (Some (Flying c share before)) s lane tag w = refl
stands-rest (Some (Ended c st share)) s lane tag w = refl

stands-device : (o : Option Tag) (s : Standing) (lane tag : ℕ) (w : World) → (standing_at o s lane tag w).device ≡ w.device
stands-device None s lane tag w = refl
stands-device (Some Free) s lane tag w = refl
stands-device (Some (Taken c rs)) s lane tag w = refl
stands-device (Some (Flying c share before)) s lane tag w = refl
stands-device (Some (Ended c st share)) s lane tag w = refl

stands-side : (w v : World) (s : Standing) (lane tag : ℕ) → HasSameSide w v → HasSameSide w (stands s lane tag v)
stands-side w v s lane tag is =
    record {
      lanes = ap (λ (x : World). x.lanes) (stands-unplaced (tag_of v lane tag) s lane tag v refl) ∙ is.lanes;
      controllers = stands-rest (tag_of v lane tag) s lane tag v ∙ is.controllers;
      tails = ap (map (λ (d : DeviceLane). d.tail)) (stands-device (tag_of v lane tag) s lane tag v) ∙ is.tails;
    }

-- the controller's side of a lane, and the host
device-side : (w v : World) (lane : ℕ) (change : DeviceLane → DeviceLane) → ((d : DeviceLane) → (change d).tail ≡ d.tail) → v.lanes ≡ w.lanes
    → v.controllers ≡ w.controllers → v.device ≡ changed_at (slice_get w.device lane) lane change w.device → HasSameSide w v
device-side w v lane change keeps lanes controllers device =
    record {
      lanes = ap (map unplaced_lane) lanes;
      controllers = controllers;
      tails = ap (map (λ (d : DeviceLane). d.tail)) device ∙ tails-same lane change keeps w.device;
    }

-- ---- the events

module _ (w : World) where
  abbrev Same : World → Type 0
  Same v = HasSameSide w v

  took-side : (lane : ℕ) (entry : List ℕ) → Same (device_took lane entry w)
  unfolding device_took
  took-side lane entry =
      stands-side w (with_device lane (entry_taken entry w.host) w) InDevice lane (cid_of entry)
      (device-side w (with_device lane (entry_taken entry w.host) w) lane (entry_taken entry w.host) (λ d. refl) refl refl refl)

  moved-side : (blocks lane slot number : ℕ) (h : Held) → Same (device_moved blocks lane slot number h w)
  unfolding device_moved
  moved-side blocks lane slot number h = device-side w (device_moved blocks lane slot number h w) lane (with_held slot (Some _)) (λ d. refl) refl refl refl

  posted-side : (mediator lane slot : ℕ) (st : StatusField) (d : DeviceLane) → Same (device_posted mediator lane slot st d w)
  unfolding device_posted
  posted-side mediator lane slot st d =
      let v : World = with_device lane (completion_posted slot) (with_host (completion_written mediator lane slot st d w.host) w) in
      stands-side w v (Answered d.posted) lane slot (device-side w v lane (completion_posted slot) (λ x. refl) refl refl refl)

  left-posted : (left : List ℕ) (mediator lane slot : ℕ) (h : Held) (d : DeviceLane) → Same (device_post left mediator lane slot h d w).world
  left-posted [] mediator lane slot h d = posted-side mediator lane slot (held_status h) d
  left-posted (number ∷ left) mediator lane slot h d = same-side w

  pub side-alone : (geometry : Geometry) (e : Event) → IsControllers e → Same (step geometry e w).world
  unfolding step kept_block
  side-alone geometry (event.Guest guest a) is = absurd is
  side-alone geometry (event.Admin guest) is = absurd is
  side-alone geometry (event.Take guest queue lane) is = absurd is
  side-alone geometry (event.List lane tag addr len) is = absurd is
  side-alone geometry (event.Submit lane tag) is = absurd is
  side-alone geometry (event.GiveUp lane tag) is = absurd is
  side-alone geometry (event.DevTake lane) is =
      device-walk Same w (same-side w) (slice_get w.device lane) _ (λ d there.
      either Same w (same-side w) (is_empty d.head d.tail) _ _ (λ none. same-side w) (λ some. took-side lane _))
  side-alone geometry (event.DevMove lane slot number) is =
      device-walk Same w (same-side w) (slice_get w.device lane) _ (λ d there.
      held-walk Same w (same-side w) (slice_get d.held slot) (λ h. device_move geometry.disk_blocks lane slot number h w) (λ h held.
      either Same w (same-side w) (list_any (λ k. k == number) h.left) _ _ (λ left. moved-side geometry.disk_blocks lane slot number h) (λ gone. same-side w)))
  side-alone geometry (event.DevPost lane slot) is =
      device-walk Same w (same-side w) (slice_get w.device lane) _ (λ d there.
      held-walk Same w (same-side w) (slice_get d.held slot) (λ h. device_post h.left geometry.mediator lane slot h d w) (λ h held.
      left-posted h.left geometry.mediator lane slot h d))
  side-alone geometry (event.DevFail lane slot st) is =
      device-walk Same w (same-side w) (slice_get w.device lane) _ (λ d there.
      held-walk Same w (same-side w) (slice_get d.held slot) (λ h. device_fail geometry.mediator lane slot st d w) (λ h held.
      either Same w (same-side w) (is_success st) _ _ (λ good. same-side w) (λ bad. posted-side geometry.mediator lane slot st d)))
  side-alone geometry (event.Keep block) is =
      either Same w (same-side w) (nat_le (block + 1) geometry.disk_blocks) _ _
      (λ there. record { lanes = refl; controllers = refl; tails = refl }) (λ out. same-side w)
  side-alone geometry (event.Reap lane) is = absurd is
  side-alone geometry (event.Post lane tag) is = absurd is
