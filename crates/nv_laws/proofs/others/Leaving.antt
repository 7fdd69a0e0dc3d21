-- What leaves all but the owner's alone leaves every other guest's view.
use Rattle.std.proofs.Common.{◌≡◌, ℕ, ◌+◌, ◌<◌, ◌≤◌, ◌⊎◌, inl, inr, true, false, ◌==◌, nat_le, nat_lt, length, slice_get}
use Rattle.std.proofs.Common.{Option, Some, None, is_some, arith}
use Rattle.std.proofs.Common.{refl, sym, ap, ◌∙◌, eqb-true, leb-true, ltb-true, subst}
use Rattle.std.specs.Prelude.{◌≢◌}
use Rattle.std.proofs.lemmas.Bool.{cases_eq, cases_lt, le-leb, lt-ltb, ne_eqb}
use Rattle.nv_mem.specs.GuestMap.{guest_of, host_of}
use Rattle.nv_mem.proofs.Images.{guest_of-host}
use Rattle.nv_model.specs.Memory.{byte_at_host, image}
use Rattle.nv_model.proofs.Endings.{and-true}
use Rattle.nv_ns.specs.Extents.{blocks_in, place_in}
use Rattle.nv_world_model.specs.Area.{lane_start, ring_size, tag_count}
use Rattle.nv_world_model.specs.Contained.{LeavesOthers, given_to, in_area, in_extents_of, in_image_of, is_answered_at, is_queued_at, tag_stands}
use Rattle.nv_world_model.specs.Device.{DeviceLane, Held}
use Rattle.nv_world_model.specs.Geometry.{Geometry, Guest, regions_of}
use Rattle.nv_world_model.specs.View.{is_tag_of}
use Rattle.nv_world_model.specs.World.{Answered, Ended, Flying, Free, InDevice, Lane, Queued, Tag, Taken, World, tag_in, tag_of}
use Rattle.nv_laws_sound.specs.Consistent.{IsBetween, IsConsistentOfTags, IsTag}
use Rattle.nv_laws_sound.specs.LaidOut.{IsLaidOut}
use Rattle.nv_laws_sound.proofs.Lists.{slice_get-below}
use Rattle.nv_laws_sound.proofs.Namespaces.{place-own}
use Rattle.nv_laws_sound.proofs.Retags.{is-at, tag-is}
use Rattle.nv_laws_sound.specs.Area.{SameInLane}
use Rattle.nv_laws_sound.proofs.Slots.{held-under}
use Rattle.nv_laws_sound.proofs.TagsKept.{IsUndisturbed}
use Rattle.nv_laws.specs.Leaving.{InCompletion, InEntry, InPages, IsBytes, IsShownAt, Leaves}
use Rattle.nv_laws.proofs.others.Shown.{shown-at}

-- ---- apart from the owner

module _ (host_bytes : ℕ) (geometry : Geometry) (lanes : ℕ) (laid : IsLaidOut host_bytes lanes geometry) where
  -- a guest's bytes are none of another's
  image-of : (found : Option Guest) (number other : ℕ) (guest : Guest) (at addr : ℕ) → slice_get geometry.guests other ≡ found
      → slice_get geometry.guests number ≡ Some guest → number ≢ other → guest_of (regions_of guest) at ≡ Some addr → in_image_of found at ≡ false
  image-of None number other guest at addr is given differ there = refl
  image-of (Some g) number other guest at addr is given differ there =
      ap is_some ((laid.apart number other guest g given is differ).bytes at addr there)

  image-apart : (whose : Option ℕ) (number : ℕ) (guest : Guest) (at addr : ℕ) → slice_get geometry.guests number ≡ Some guest → whose ≢ Some number
      → guest_of (regions_of guest) at ≡ Some addr → in_image_of (given_to whose geometry) at ≡ false
  image-apart None number guest at addr given differ there = refl
  image-apart (Some other) number guest at addr given differ there =
      image-of (slice_get geometry.guests other) number other guest at addr refl given (λ same. differ (ap (λ n. Some n) (sym same))) there

  -- nor the mediator's
  area-apart : (w : World) (number : ℕ) (guest : Guest) (at addr : ℕ) → length w.lanes ≡ lanes → slice_get geometry.guests number ≡ Some guest
      → guest_of (regions_of guest) at ≡ Some addr → in_area geometry w at ≡ false
  area-apart w number guest at addr sized given there =
      (elim (in_area geometry w at) as (λ b. in_area geometry w at ≡ b → b ≡ false) [
        | false ↦ λ out. refl
        | true ↦ λ inside.
            (let both = and-true (nat_le geometry.mediator at) (nat_lt at (lane_start geometry.mediator (length w.lanes))) inside in
            let high = ltb-true at (lane_start geometry.mediator (length w.lanes)) both.1 in
            let none = laid.outside number guest at given (leb-true geometry.mediator at both.0) (omega (arith, high, sized)) in
            let bad : Some addr ≡ None = sym there ∙ none in
            cc)
      ]) refl

  -- a guest's blocks are none of another's
  extent-of : (found : Option Guest) (number other : ℕ) (guest : Guest) (lba : ℕ) → slice_get geometry.guests other ≡ found
      → slice_get geometry.guests number ≡ Some guest → number ≢ other → lba < blocks_in guest.namespace
      → in_extents_of found (place_in guest.namespace lba) ≡ false
  extent-of None number other guest lba is given differ below = refl
  extent-of (Some g) number other guest lba is given differ below =
      (laid.apart number other guest g given is differ).blocks (place_in guest.namespace lba) (place-own guest.namespace lba below)

  pub extent-apart : (whose : Option ℕ) (number : ℕ) (guest : Guest) (lba : ℕ) → slice_get geometry.guests number ≡ Some guest → whose ≢ Some number
      → lba < blocks_in guest.namespace → in_extents_of (given_to whose geometry) (place_in guest.namespace lba) ≡ false
  extent-apart None number guest lba given differ below = refl
  extent-apart (Some other) number guest lba given differ below =
      extent-of (slice_get geometry.guests other) number other guest lba refl given (λ same. differ (ap (λ n. Some n) (sym same))) below

  -- ---- views

  -- a guest's memory is as it was
  memory-left : (whose : Option ℕ) (w z : World) (number : ℕ) (guest : Guest) (addr : ℕ) → length w.lanes ≡ lanes → slice_get geometry.guests number ≡ Some guest
      → whose ≢ Some number → Leaves geometry whose w z → (found : Option ℕ) → host_of (regions_of guest) addr ≡ found
      → byte_at_host w.host found ≡ byte_at_host z.host found
  memory-left whose w z number guest addr sized given differ leaves None is = refl
  memory-left whose w z number guest addr sized given differ leaves (Some at) is =
      let there = guest_of-host (regions_of guest) addr at (laid.given number guest given).sound.apart is in
      leaves.bytes at (image-apart whose number guest at addr given differ there) (area-apart w number guest at addr sized given there)

  pub leaves-others : (whose : Option ℕ) (w z : World) → length w.lanes ≡ lanes → IsConsistentOfTags geometry w → Leaves geometry whose w z
      → LeavesOthers geometry whose w z
  unfolding image
  leaves-others whose w z sized is leaves =
      record {
        views = (λ number guest given differ.
            record {
              memory = (λ addr. memory-left whose w z number guest addr sized given differ leaves (host_of (regions_of guest) addr) refl);
              blocks = (λ lba offset below. leaves.blocks (place_in guest.namespace lba) offset (extent-apart whose number guest lba given differ below));
              controller = leaves.controllers number differ;
              tags = (λ lane tag. leaves.tags number lane tag differ);
              held = (λ lane tag. leaves.held number lane tag differ);
              area = (λ addr lies.
                  leaves.area number guest addr given differ
                  (shown-at host_bytes geometry w number guest addr (subst (λ n. IsLaidOut host_bytes n geometry) (sym sized) laid) is given lies));
            });
        bytes = leaves.bytes;
        blocks = leaves.blocks;
        marks = leaves.marks;
      }

-- ---- bytes of tags

-- a slot that a tag stands in lies between the positions of its ring
between-queued : (geometry : Geometry) (lane tag at : ℕ) (host : ℕ → ℕ) (head : ℕ) (d : DeviceLane) (held : Option Held) (t : Tag)
    → IsTag geometry lane tag host head d held t → tag_stands (is_queued_at at) t ≡ true → IsBetween d.head d.tail at
between-queued geometry lane tag at host head d held Free is e = cc
between-queued geometry lane tag at host head d held (Taken command reads) is e = cc
between-queued geometry lane tag at host head d held (Flying command share (Queued slot)) is e = subst (IsBetween d.head d.tail) (eqb-true slot at e) is.stands.0.slot
between-queued geometry lane tag at host head d held (Flying command share InDevice) is e = cc
between-queued geometry lane tag at host head d held (Flying command share (Answered slot)) is e = cc
between-queued geometry lane tag at host head d held (Ended command st share) is e = cc

between-answered : (geometry : Geometry) (lane tag at : ℕ) (host : ℕ → ℕ) (head : ℕ) (d : DeviceLane) (held : Option Held) (t : Tag)
    → IsTag geometry lane tag host head d held t → tag_stands (is_answered_at at) t ≡ true → IsBetween head d.posted at
between-answered geometry lane tag at host head d held Free is e = cc
between-answered geometry lane tag at host head d held (Taken command reads) is e = cc
between-answered geometry lane tag at host head d held (Flying command share (Queued slot)) is e = cc
between-answered geometry lane tag at host head d held (Flying command share InDevice) is e = cc
between-answered geometry lane tag at host head d held (Flying command share (Answered slot)) is e = subst (IsBetween head d.posted) (eqb-true slot at e) is.stands.0.slot
between-answered geometry lane tag at host head d held (Ended command st share) is e = cc

-- they lie in the tag's lane
pub record LiesInLane (mediator lane lanes tag addr : ℕ) : Type 0 where
  pub below : lane < lanes
  pub tag_below : tag < tag_count
  pub low : lane_start mediator lane ≤ addr
  pub high : addr < lane_start mediator (lane + 1)

pub bytes-in-lane : (geometry : Geometry) (w : World) (lane tag addr : ℕ) (t : Tag) → IsConsistentOfTags geometry w → tag_of w lane tag ≡ Some t
    → IsBytes geometry.mediator lane tag t addr → LiesInLane geometry.mediator lane (length w.lanes) tag addr
bytes-in-lane geometry w lane tag addr t is there bytes =
    let a = is-at geometry w lane tag t is there in
    let of_lane = is.lanes lane a.l a.d a.at_lane a.at_device in
    let tags = of_lane.positions.tags in
    let among = slice_get-below a.l.tags tag t a.at_tag in
    let below = slice_get-below w.lanes lane a.l a.at_lane in
    by_kind (omega (arith, tags, among)) below (λ at stands. (between-queued geometry lane tag at w.host a.l.head a.d a.held t (tag-is geometry w lane tag t is a) stands).slot)
    (λ at stands. (between-answered geometry lane tag at w.host a.l.head a.d a.held t (tag-is geometry w lane tag t is a) stands).slot) bytes
  where
    by_kind : tag < tag_count → lane < length w.lanes → ((at : ℕ) → tag_stands (is_queued_at at) t ≡ true → at < ring_size)
        → ((at : ℕ) → tag_stands (is_answered_at at) t ≡ true → at < ring_size)
        → IsBytes geometry.mediator lane tag t addr → LiesInLane geometry.mediator lane (length w.lanes) tag addr
    by_kind tag_below below queued answered (InPages low high) =
        record { below = below; tag_below = tag_below; low = omega (arith, low); high = omega (arith, high, tag_below) }
    by_kind tag_below below queued answered (InEntry at stands low high) =
        (let slot = queued at stands in record { below = below; tag_below = tag_below; low = omega (arith, low); high = omega (arith, high, slot) })
    by_kind tag_below below queued answered (InCompletion at stands low high) =
        (let slot = answered at stands in record { below = below; tag_below = tag_below; low = omega (arith, low); high = omega (arith, high, slot) })

-- ---- what is written in the area

-- an undisturbed tag's bytes are as they were
pub undisturbed-bytes : (geometry : Geometry) (lane tag addr : ℕ) (host other : ℕ → ℕ) (head now : ℕ) (d e : DeviceLane) (held : Option Held) (t : Tag)
    → IsUndisturbed geometry.mediator lane tag host other head now d e t → IsTag geometry lane tag host head d held t
    → IsBytes geometry.mediator lane tag t addr → host addr ≡ other addr
undisturbed-bytes geometry lane tag addr host other head now d e held t kept is (InPages low high) = kept.pages addr low high
undisturbed-bytes geometry lane tag addr host other head now d e held t kept is (InEntry at stands low high) =
    (kept.queued at stands (between-queued geometry lane tag at host head d held t is stands)).1 addr low high
undisturbed-bytes geometry lane tag addr host other head now d e held t kept is (InCompletion at stands low high) =
    (kept.answered at stands (between-answered geometry lane tag at host head d held t is stands)).1 addr low high

-- what is outside of the area lies before or behind it
pub outside-area : (geometry : Geometry) (w : World) (at : ℕ) → in_area geometry w at ≡ false
    → (at < geometry.mediator) ⊎ (lane_start geometry.mediator (length w.lanes) ≤ at)
outside-area geometry w at out =
    elim (cases_lt at geometry.mediator) [
      | inl before ↦ inl before
      | inr from ↦ elim (cases_lt at (lane_start geometry.mediator (length w.lanes))) [
        | inl inside ↦ (let bad : true ≡ false = sym (inside-is from inside) ∙ out in cc)
        | inr behind ↦ inr behind
      ]
    ]
  where
    inside-is : geometry.mediator ≤ at → at < lane_start geometry.mediator (length w.lanes) → in_area geometry w at ≡ true
    inside-is from inside = rw (le-leb geometry.mediator at from, lt-ltb at (lane_start geometry.mediator (length w.lanes)) inside) refl

-- where one lane is written, and in it nothing of other tags, the bytes of those are as they were
pub bytes-elsewhere : (geometry : Geometry) (w : World) (other : ℕ → ℕ) (lane tag now : ℕ) (l : Lane) (d e : DeviceLane) → IsConsistentOfTags geometry w
    → slice_get w.lanes lane ≡ Some l → slice_get w.device lane ≡ Some d
    → ((at : ℕ) → (at == lane) ≡ false → at < length w.lanes → SameInLane w.host other geometry.mediator at)
    → ((b : ℕ) (x : Tag) → (b == tag) ≡ false → b < tag_count → slice_get l.tags b ≡ Some x → IsUndisturbed geometry.mediator lane b w.host other l.head now d e x)
    → (a b : ℕ) (t : Tag) (addr : ℕ) → ((a ≡ lane) → (b ≡ tag) → ⊥) → tag_of w a b ≡ Some t → IsBytes geometry.mediator a b t addr → w.host addr ≡ other addr
bytes-elsewhere geometry w other lane tag now l d e fine at there elsewhere undisturbed a b t addr apart found bytes =
    by_lane (bytes-in-lane geometry w a b addr t fine found bytes) (cases_eq a lane)
  where
    in_lane : a ≡ lane → b < tag_count → w.host addr ≡ other addr
    in_lane same below =
        let here : slice_get l.tags b ≡ Some t = ap (λ o. tag_in o b) (sym (ap (slice_get w.lanes) same ∙ at)) ∙ found in
        let held = held-under geometry lane w.host l d (fine.lanes lane l d at there) b t here in
        undisturbed-bytes geometry lane b addr w.host other l.head now d e held.0 t
        (undisturbed b t (ne_eqb b tag (apart same)) below here) ((fine.lanes lane l d at there).tags b t held.0 here held.1)
        (subst (λ n. IsBytes geometry.mediator n b t addr) same bytes)

    by_lane : LiesInLane geometry.mediator a (length w.lanes) b addr → (a ≡ lane) ⊎ (a ≡ lane → ⊥) → w.host addr ≡ other addr
    by_lane lies (inl same) = in_lane same lies.tag_below
    by_lane lies (inr away) = elsewhere a (ne_eqb a lane away) lies.below addr lies.low lies.high

-- so what is shown to others is as it was
pub area-left : (geometry : Geometry) (w : World) (other : ℕ → ℕ) (lane tag now : ℕ) (l : Lane) (d e : DeviceLane) (number addr : ℕ) → IsConsistentOfTags geometry w
    → slice_get w.lanes lane ≡ Some l → slice_get w.device lane ≡ Some d
    → ((at : ℕ) → (at == lane) ≡ false → at < length w.lanes → SameInLane w.host other geometry.mediator at)
    → ((b : ℕ) (x : Tag) → (b == tag) ≡ false → b < tag_count → slice_get l.tags b ≡ Some x → IsUndisturbed geometry.mediator lane b w.host other l.head now d e x)
    → ((x : Tag) → slice_get l.tags tag ≡ Some x → is_tag_of number (Some x) ≡ false)
    → IsShownAt number geometry w addr → w.host addr ≡ other addr
area-left geometry w other lane tag now l d e number addr fine at there elsewhere undisturbed own s =
    bytes-elsewhere geometry w other lane tag now l d e fine at there elsewhere undisturbed s.lane s.tag s.t addr not_it s.there s.bytes
  where
    not_it : (s.lane ≡ lane) → (s.tag ≡ tag) → ⊥
    not_it same also =
        let found : slice_get l.tags s.tag ≡ Some s.t = ap (λ o. tag_in o s.tag) (sym (ap (slice_get w.lanes) same ∙ at)) ∙ s.there in
        let none = own s.t (subst (λ n. slice_get l.tags n ≡ Some s.t) also found) in
        let bad : true ≡ false = sym s.own ∙ none in
        cc
