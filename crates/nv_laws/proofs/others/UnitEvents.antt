-- What a unit that moves leaves.
use Rattle.std.proofs.Common.{◌≡◌, ℕ, ◌<◌, inl, inr, true, false, ◌==◌, All, length, set, slice_get, Some, None, arith, refl, sym, ap}
use Rattle.std.proofs.Common.{◌∙◌, subst}
use Rattle.std.specs.List.{list_any}
use Rattle.nv_mem.specs.GuestMap.{guest_of}
use Rattle.nv_mem.specs.Places.{At}
use Rattle.nv_model.specs.Laws.{IsAnother}
use Rattle.nv_world_model.specs.declared.event.Event.TheVariants as event
use Rattle.nv_world_model.specs.Area.{bounce_page, tag_count}
use Rattle.nv_world_model.specs.Contained.{given_to, guest_of_one, in_extents_of, in_image_of}
use Rattle.nv_world_model.specs.Device.{DeviceLane, Held, device_unit, unit_gone, with_held}
use Rattle.nv_world_model.specs.Geometry.{Geometry, regions_of}
use Rattle.nv_world_model.specs.Step.{device_move, device_moved, step}
use Rattle.nv_world_model.specs.View.{is_tag_of}
use Rattle.nv_world_model.specs.World.{Flying, InDevice, Lane, Tag, World, changed_at, tag_in}
use Rattle.nv_laws_sound.specs.Consistent.{IsConsistentOfTags}
use Rattle.nv_laws_sound.specs.LaidOut.{IsLaidOut}
use Rattle.nv_laws_sound.proofs.Lists.{set-same, slice_get-below, slice_get-there, some-same}
use Rattle.nv_laws_sound.proofs.MoveEvents.{held-flies, moved-elsewhere, moved-undisturbed, unit-apart}
use Rattle.nv_laws_sound.proofs.Named.{addresses-apart}
use Rattle.nv_laws_sound.proofs.Walks.{device-walk, either, held-walk}
use Rattle.nv_laws.specs.Leaving.{Leaves}
use Rattle.nv_laws.proofs.others.Events.{leaves-nothing, leaves-tag, not-some}
use Rattle.nv_laws.proofs.others.Leaving.{area-left, outside-area}
use Rattle.nv_laws.proofs.others.MoveEvents.{unit-stays}
use Rattle.nv_laws.proofs.others.Parts.{held-put, tag-apart}
use Rattle.nv_laws.proofs.others.TagEvents.{of-tag}

module _ (host_bytes : ℕ) (geometry : Geometry) (w : World) (laid : IsLaidOut host_bytes (length w.lanes) geometry) (fine : IsConsistentOfTags geometry w) where
  moved-leaves : (lane tag number : ℕ) (l : Lane) (d : DeviceLane) (h : Held) (t : Tag) → slice_get w.lanes lane ≡ Some l → slice_get w.device lane ≡ Some d
      → slice_get l.tags tag ≡ Some t → slice_get d.held tag ≡ Some (Some h) → list_any (λ k. k == number) h.left ≡ true
      → Leaves geometry (guest_of_one (tag_in (slice_get w.lanes lane) tag)) w (device_moved geometry.disk_blocks lane tag number h w)
  unfolding device_moved
  moved-leaves lane tag number l d h t at there found held left =
      let before = fine.lanes lane l d at there in
      let lane_below = slice_get-below w.lanes lane l at in
      let tags = before.positions.tags in
      let among = slice_get-below l.tags tag t found in
      let tag_below : tag < tag_count = omega (arith, tags, among) in
      let holds = held-flies geometry lane tag w.host l.head d h t (before.tags tag t (Some h) found held) in
      let was = Flying holds.command holds.share InDevice in
      let flies : slice_get l.tags tag ≡ Some was = found ∙ ap (λ x. Some x) holds.flies in
      let whose = holds.command.guest in
      let given = holds.is.given in
      let m = device_unit number geometry.disk_blocks h w.host w.disk w.kept in
      let now = with_held tag (Some (unit_gone number m.differed h)) d in
      let image_out : (x : ℕ) → in_image_of (given_to (Some whose) geometry) x ≡ false → guest_of (regions_of holds.guest) x ≡ None =
      λ x out. not-some (guest_of (regions_of holds.guest) x) (sym (ap (λ o. in_image_of o x) given) ∙ out) in
      let stays : (x : ℕ) → in_extents_of (given_to (Some whose) geometry) x ≡ false → _ =
      λ x out. unit-stays host_bytes (length w.lanes) geometry laid whose holds.guest given holds.command.entry holds.share holds.planned holds.some
      lane tag h w.host holds.in_device number left x (sym (ap (λ o. in_extents_of o x) given) ∙ out) tag_below w.disk w.kept in
      of-tag host_bytes geometry w laid fine lane tag was whose _ (ap (λ x. tag_in x tag) at ∙ flies) refl
      (leaves-tag geometry (Some whose) w _ lane tag l l d now was was at there flies (sym (set-same l.tags tag was flies)) (sym (set-same w.lanes lane l at))
      (ap (λ o. changed_at o lane (with_held tag (Some (unit_gone number m.differed h))) w.device) there)
      (λ b apart. held-put d.held tag (Some (unit_gone number m.differed h)) b apart)
      (λ other differ. tag-apart (Some whose) other was refl differ) (λ other differ. tag-apart (Some whose) other was refl differ)
      (record {
        bytes = (λ x out area.
            sym (unit-apart number geometry.disk_blocks x h w.host w.disk w.kept
            (subst (All (IsAnother (At x))) (sym holds.in_device.places)
            (addresses-apart holds.guest holds.command.entry holds.share (bounce_page geometry.mediator lane tag) x (laid.given whose holds.guest given).sound.apart holds.planned (image_out x out)
            (elim (outside-area geometry w x area) [
              | inl before_area ↦ inl (omega (arith, before_area))
              | inr behind_area ↦ inr (omega (arith, behind_area, lane_below, tag_below))
            ])))));
        area = (λ other guest addr others_given differ s.
            area-left geometry w m.memory lane tag l.head l d (record d { held = set d.held tag (Some (unit_gone number m.differed h)) }) other addr fine at there
            (moved-elsewhere host_bytes geometry (length w.lanes) lane tag laid lane_below tag_below holds.guest whose given holds.command.entry holds.share
            holds.planned h w.host holds.in_device number w.disk w.kept)
            (λ b x apart b_below here.
            moved-undisturbed host_bytes geometry (length w.lanes) lane tag laid lane_below tag_below holds.guest whose given holds.command.entry holds.share
            holds.planned h w.host holds.in_device number w.disk w.kept b l.head d
            (set d.held tag (Some (unit_gone number m.differed h))) x apart b_below)
            (λ x here. subst (λ y. is_tag_of other (Some y) ≡ false) (some-same was x (sym flies ∙ here)) (tag-apart (Some whose) other was refl differ))
            s);
        blocks = (λ x offset out. sym (ap (λ f. f offset) (stays x out).bytes));
        marks = (λ x out k. (stays x out).mark k);
        controllers = (λ n differ. refl);
      }))

  pub moves-leave : (lane slot number : ℕ) → Leaves geometry (guest_of_one (tag_in (slice_get w.lanes lane) slot)) w (step geometry (event.DevMove lane slot number) w).world
  unfolding step
  moves-leave lane slot number =
      let nothing = leaves-nothing geometry (guest_of_one (tag_in (slice_get w.lanes lane) slot)) w in
      let P = Leaves geometry (guest_of_one (tag_in (slice_get w.lanes lane) slot)) w in
      device-walk P w nothing (slice_get w.device lane) _ (λ d there.
      held-walk P w nothing (slice_get d.held slot) (λ h. device_move geometry.disk_blocks lane slot number h w) (λ h held.
      either P w nothing (list_any (λ k. k == number) h.left) _ _ (λ left.
      (let among = slice_get-below w.device lane d there in
      let sides = fine.sides in
      let l = slice_get-there w.lanes lane (omega (arith, among, sides)) in
      let before = fine.lanes lane l.0 d l.1 there in
      let tags = before.positions.tags in
      let sized = before.positions.held in
      let under = slice_get-below d.held slot (Some h) held in
      let t = slice_get-there l.0.tags slot (omega (arith, tags, sized, under)) in
      moved-leaves lane slot number l.0 d h t.0 l.1 there t.1 held left)) (λ none. nothing)))
