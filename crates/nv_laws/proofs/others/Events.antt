-- What the events of guests and of their tags leave.
use Rattle.std.proofs.Common.{◌≡◌, ℕ, true, false, ◌==◌, length, set, slice_get, Option, Some, None, is_some, refl, sym, ap, ◌∙◌, subst}
use Rattle.std.specs.Prelude.{◌≢◌}
use Rattle.std.proofs.lemmas.Bool.{ne_eqb}
use Rattle.nv_mem.specs.GuestMap.{guest_of}
use Rattle.nv_model.specs.Admin.{AdminStep, NothingToDo, QueueFull, Stepped}
use Rattle.nv_model.specs.Controller.{Controller}
use Rattle.nv_model.specs.Memory.{put_image}
use Rattle.nv_model.specs.Private.{Acted, acted}
use Rattle.nv_model.specs.declared.act.Act.{Act}
use Rattle.nv_model.proofs.PutImages.{put_image-elsewhere}
use Rattle.nv_world_model.specs.declared.event.Event.TheVariants as event
use Rattle.nv_world_model.specs.Contained.{given_to, in_area, in_extents_of, in_image_of}
use Rattle.nv_world_model.specs.Device.{DeviceLane}
use Rattle.nv_world_model.specs.Geometry.{Geometry, Guest, regions_of, shape_of}
use Rattle.nv_world_model.specs.Seat.{Owner, held_in, owner_of, put_back, seat}
use Rattle.nv_world_model.specs.Step.{acted_by, acted_in, administered_by, administered_in, step}
use Rattle.nv_world_model.specs.View.{is_tag_of, own_held, own_tag}
use Rattle.nv_world_model.specs.World.{Lane, Tag, World, tag_in, tag_of}
use Rattle.nv_world_model.proofs.Seats.{IsOwner, owner_of-is, owner_of-number}
use Rattle.nv_world_model.proofs.Seats.{slice_get-set-other}
use Rattle.nv_world_model.proofs.SeatSteps.{Changed, IsPlain, NotDone, NotThere, Shown, act-plain}
use Rattle.nv_laws_sound.specs.Consistent.{IsConsistentOfTags}
use Rattle.nv_laws_sound.specs.LaidOut.{IsLaidOut}
use Rattle.nv_laws_sound.proofs.Changes.{put_image-area}
use Rattle.nv_laws_sound.proofs.Walks.{guest-walk}
use Rattle.nv_laws.specs.Leaving.{IsShownAt, Leaves}
use Rattle.nv_laws.proofs.others.Leaving.{bytes-in-lane}
use Rattle.nv_laws.proofs.others.Parts.{device-elsewhere, helds-left, tags-left}

-- all but tags and what the device holds
pub record LeavesRest (geometry : Geometry) (whose : Option ℕ) (w z : World) : Type 0 where
  pub bytes : (at : ℕ) → in_image_of (given_to whose geometry) at ≡ false → in_area geometry w at ≡ false → w.host at ≡ z.host at
  pub area : (number : ℕ) (guest : Guest) (addr : ℕ) → slice_get geometry.guests number ≡ Some guest → whose ≢ Some number
      → IsShownAt number geometry w addr → w.host addr ≡ z.host addr
  pub blocks : (at offset : ℕ) → in_extents_of (given_to whose geometry) at ≡ false → w.disk at offset ≡ z.disk at offset
  pub marks : (at : ℕ) → in_extents_of (given_to whose geometry) at ≡ false → w.kept at ≡ true → z.kept at ≡ true
  pub controllers : (number : ℕ) → whose ≢ Some number → slice_get w.controllers number ≡ slice_get z.controllers number

module _ (geometry : Geometry) (whose : Option ℕ) (w : World) where
  -- nothing has changed
  pub rest-nothing : LeavesRest geometry whose w w
  rest-nothing =
      record { bytes = (λ at a b. refl); area = (λ n g addr a b c. refl); blocks = (λ at offset a. refl); marks = (λ at a k. k); controllers = (λ n d. refl) }

  pub leaves-nothing : Leaves geometry whose w w
  leaves-nothing =
      record {
        bytes = (λ at a b. refl);
        area = (λ n g addr a b c. refl);
        blocks = (λ at offset a. refl);
        marks = (λ at a k. k);
        controllers = (λ n d. refl);
        tags = (λ n lane tag d. refl);
        held = (λ n lane tag d. refl);
      }

  -- lanes and the device's side are as they were
  pub leaves-lanes : (z : World) → z.lanes ≡ w.lanes → z.device ≡ w.device → LeavesRest geometry whose w z → Leaves geometry whose w z
  leaves-lanes z lanes device rest =
      record {
        bytes = rest.bytes;
        area = rest.area;
        blocks = rest.blocks;
        marks = rest.marks;
        controllers = rest.controllers;
        tags = (λ n lane tag d. ap (λ ls. own_tag n (tag_in (slice_get ls lane) tag)) (sym lanes));
        held = (λ n lane tag d.
            ap (λ ls. own_held n (tag_in (slice_get ls lane) tag) (held_in (slice_get w.device lane) tag)) (sym lanes)
            ∙ ap (λ ds. own_held n (tag_of z lane tag) (held_in (slice_get ds lane) tag)) (sym device));
      }

  -- one tag of the owner's changes, and perhaps what the device holds under it
  pub leaves-tag : (z : World) (lane tag : ℕ) (l now : Lane) (d behind : DeviceLane) (t new : Tag) → slice_get w.lanes lane ≡ Some l → slice_get w.device lane ≡ Some d
      → slice_get l.tags tag ≡ Some t → now.tags ≡ set l.tags tag new → z.lanes ≡ set w.lanes lane now → z.device ≡ set w.device lane behind
      → ((b : ℕ) → (b ≡ tag → ⊥) → slice_get behind.held b ≡ slice_get d.held b)
      → ((number : ℕ) → whose ≢ Some number → is_tag_of number (Some t) ≡ false) → ((number : ℕ) → whose ≢ Some number → is_tag_of number (Some new) ≡ false)
      → LeavesRest geometry whose w z → Leaves geometry whose w z
  leaves-tag z lane tag l now d behind t new at there found changed lanes device held was is rest =
      record {
        bytes = rest.bytes;
        area = rest.area;
        blocks = rest.blocks;
        marks = rest.marks;
        controllers = rest.controllers;
        tags = (λ n a b differ.
            tags-left n w.lanes lane tag l now t new at found changed (was n differ) (is n differ) a b
            ∙ ap (λ ls. own_tag n (tag_in (slice_get ls a) b)) (sym lanes));
        held = (λ n a b differ.
            helds-left n w.lanes lane tag l now t new at found changed (was n differ) (is n differ)
            (λ x y. held_in (slice_get w.device x) y) (λ x y. held_in (slice_get (set w.device lane behind) x) y)
            (λ x y apart. device-elsewhere w.device lane tag d behind there held x y apart) a b
            ∙ ap (λ ls. own_held n (tag_in (slice_get ls a) b) (held_in (slice_get (set w.device lane behind) a) b)) (sym lanes)
            ∙ ap (λ ds. own_held n (tag_of z a b) (held_in (slice_get ds a) b)) (sym device));
      }

-- ---- a guest's memory and controller

-- no byte of a guest's
pub not-some : {A : Type 0} (o : Option A) → is_some o ≡ false → o ≡ None
not-some None e = refl
not-some (Some x) e = cc

module _ (host_bytes : ℕ) (geometry : Geometry) (w : World) (laid : IsLaidOut host_bytes (length w.lanes) geometry) (fine : IsConsistentOfTags geometry w) where
  outside-image : (o : Owner) (at : ℕ) → slice_get geometry.guests o.number ≡ Some o.given → in_image_of (given_to (Some o.number) geometry) at ≡ false
      → guest_of (regions_of o.given) at ≡ None
  outside-image o at given out =
      not-some (guest_of (regions_of o.given) at) (sym (ap (λ x. in_image_of x at) given) ∙ out)

  -- a guest's memory is put back, and what its controller is now
  pub rest-put_back : (o : Owner) (memory : ℕ → ℕ) (z : World) → slice_get geometry.guests o.number ≡ Some o.given
      → z.host ≡ put_image (regions_of o.given) memory w.host → z.disk ≡ w.disk → z.kept ≡ w.kept
      → ((number : ℕ) → (number == o.number) ≡ false → slice_get z.controllers number ≡ slice_get w.controllers number)
      → LeavesRest geometry (Some o.number) w z
  rest-put_back o memory z given host disk kept controllers =
      record {
        bytes = (λ at out area.
            sym (put_image-elsewhere (regions_of o.given) memory w.host at (outside-image o at given out)) ∙ sym (ap (λ h. h at) host));
        area = (λ number guest addr whose differ s.
            (let lies = bytes-in-lane geometry w s.lane s.tag addr s.t fine s.there s.bytes in
            put_image-area host_bytes (length w.lanes) geometry o.number o.given memory w.host s.lane laid given lies.below addr lies.low lies.high ∙ sym (ap (λ h. h addr) host)));
        blocks = (λ at offset out. sym (ap (λ d. d at offset) disk));
        marks = (λ at out k. ap (λ f. f at) kept ∙ k);
        controllers = (λ number differ. sym (controllers number (ne_eqb number o.number (λ same. differ (ap (λ n. Some n) (sym same))))));
      }

  pub leaves-put_back : (o : Owner) (memory : ℕ → ℕ) (c : Controller) → slice_get geometry.guests o.number ≡ Some o.given
      → Leaves geometry (Some o.number) w (put_back o memory c w)
  unfolding put_back
  leaves-put_back o memory c given =
      leaves-lanes geometry (Some o.number) w (put_back o memory c w) refl refl
      (rest-put_back o memory (put_back o memory c w) given refl refl refl (λ number apart. slice_get-set-other w.controllers o.number number c apart))

  -- ---- acts and admin steps

  act-plainly : (o : Owner) → IsOwner geometry w o → (x : Acted) → IsPlain (seat geometry o w) x → Leaves geometry (Some o.number) w (acted_by x o w).world
  act-plainly o owns x (Changed memory c) = leaves-put_back o memory c owns.given
  act-plainly o owns x (Shown bytes) = leaves-nothing geometry (Some o.number) w
  act-plainly o owns x NotThere = leaves-nothing geometry (Some o.number) w
  act-plainly o owns x NotDone = leaves-nothing geometry (Some o.number) w

  admin-by : (o : Owner) → IsOwner geometry w o → (x : AdminStep) → Leaves geometry (Some o.number) w (administered_by x o w).world
  admin-by o owns NothingToDo = leaves-nothing geometry (Some o.number) w
  admin-by o owns QueueFull = leaves-nothing geometry (Some o.number) w
  admin-by o owns (Stepped c memory) = leaves-put_back o memory c owns.given

  numbered : (number : ℕ) (o : Owner) (z : World) → number ≡ o.number → Leaves geometry (Some o.number) w z → Leaves geometry (Some number) w z
  numbered number o z same leaves = subst (λ n. Leaves geometry (Some n) w z) (sym same) leaves

  pub acts-leave : (number : ℕ) (a : Act) → Leaves geometry (Some number) w (step geometry (event.Guest number a) w).world
  unfolding step acted_in
  acts-leave number a =
      guest-walk (Leaves geometry (Some number) w) w (leaves-nothing geometry (Some number) w) (owner_of geometry w number) (λ o. acted_by (acted (shape_of o.given) a (seat geometry o w)) o w)
      (λ o found. numbered number o _ (owner_of-number geometry w number o found) (act-plainly o (owner_of-is geometry w number o found) _ (act-plain geometry o a w)))

  pub admins-leave : (number : ℕ) → Leaves geometry (Some number) w (step geometry (event.Admin number) w).world
  unfolding step administered_in
  admins-leave number =
      guest-walk (Leaves geometry (Some number) w) w (leaves-nothing geometry (Some number) w) (owner_of geometry w number) (λ o. administered_in o w)
      (λ o found. numbered number o _ (owner_of-number geometry w number o found) (admin-by o (owner_of-is geometry w number o found) _))
