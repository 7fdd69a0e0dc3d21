-- What is delivered of all tags of a command is what the guest's own memory has had since their units moved.
use Rattle.std.proofs.Common.{◌≡◌, ℕ, ◌+◌, ◌<◌, ◌≤◌, true, false, cond, List, [], ◌∷◌, All, length, slice_get, Option, Some, None}
use Rattle.std.proofs.Common.{arith, refl, sym, ap, ◌∙◌, subst}
use Rattle.std.specs.List.{AllPairs}
use Rattle.std.proofs.lemmas.List.Elements.{All-cons, All-head, All-nil, All-tail, All-weaker}
use Rattle.nv_mem.specs.GuestMap.{IsApart, guest_of, mapped}
use Rattle.nv_mem.specs.Places.{At, places_of, total_len}
use Rattle.nv_mem.proofs.PlaceLists.{length-places_of}
use Rattle.nv_model.specs.Judge.{Work, is_read}
use Rattle.nv_model.specs.Laws.{IsAnother}
use Rattle.nv_model.specs.Limits.{most_bytes}
use Rattle.nv_model.specs.Memory.{bytes_from, image, scattered}
use Rattle.nv_model.proofs.MemoryLemmas.{bytes_from-same}
use Rattle.nv_model.proofs.PutImages.{image-put_image, put_image-elsewhere}
use Rattle.nv_world_model.specs.Area.{bounce_page, tag_count}
use Rattle.nv_world_model.specs.Geometry.{Geometry, Guest, regions_of}
use Rattle.nv_world_model.specs.Plan.{Answer, Bounced, Direct, NoData, Plan}
use Rattle.nv_world_model.specs.Share.{Share}
use Rattle.nv_world_model.specs.Seat.{Owner}
use Rattle.nv_world_model.specs.Step.{delivered_all, delivered_by, delivered_from, scattered_to}
use Rattle.nv_world_model.specs.World.{Ended, Flying, Free, Lane, Tag, Taken, World, tag_in, tag_of}
use Rattle.nv_laws_sound.specs.Consistent.{IsConsistent, IsPlanned}
use Rattle.nv_laws_sound.specs.LaidOut.{IsLaidOut}
use Rattle.nv_laws_sound.proofs.Lists.{slice_get-there}
use Rattle.nv_laws_sound.proofs.PlanSizes.{own_work}
use Rattle.nv_laws.specs.Delivered.{HasPage, delivered_places, plan_delivered}
use Rattle.nv_laws.specs.Places.{HasAt}
use Rattle.nv_laws.proofs.units.Has.{delivered-same}
use Rattle.nv_laws.proofs.units.OwnShares.{own-share}

-- nothing is scattered to no places
scattered-none : (memory : ℕ → ℕ) (bytes : List ℕ) → scattered memory [] bytes ≡ memory
unfolding scattered
scattered-none memory bytes = refl

module _ (o : Owner) (apart : AllPairs IsApart (regions_of o.given)) where
  -- ---- one tag

  -- the guest's memory behind what is delivered
  by-image : (plan : Plan) (bounce : ℕ) (z : World) (addr : ℕ) → mapped (regions_of o.given) addr ≡ true
      → image (regions_of o.given) (delivered_by plan bounce o z).host addr
      ≡ scattered (image (regions_of o.given) z.host) (plan_delivered plan) (bytes_from z.host bounce (length (plan_delivered plan))) addr
  unfolding scattered_to
  by-image (Answer st) bounce z addr there = sym (ap (λ m. m addr) (scattered-none (image (regions_of o.given) z.host) _))
  by-image (NoData work) bounce z addr there = sym (ap (λ m. m addr) (scattered-none (image (regions_of o.given) z.host) _))
  by-image (Direct work) bounce z addr there = sym (ap (λ m. m addr) (scattered-none (image (regions_of o.given) z.host) _))
  by-image (Bounced work) bounce z addr there =
      elim (is_read work.opcode) as (λ b. image (regions_of o.given) (cond b (scattered_to bounce work o z) z).host addr
      ≡ scattered (image (regions_of o.given) z.host) (cond b (places_of work.pieces) []) (bytes_from z.host bounce (length (cond b (places_of work.pieces) []))) addr) [
        | true ↦
            image-put_image (regions_of o.given) (scattered (image (regions_of o.given) z.host) (places_of work.pieces) (bytes_from z.host bounce (total_len work.pieces))) z.host addr
            apart there
            ∙ ap (λ n. scattered (image (regions_of o.given) z.host) (places_of work.pieces) (bytes_from z.host bounce n) addr) (sym (length-places_of work.pieces))
        | false ↦ sym (ap (λ m. m addr) (scattered-none (image (regions_of o.given) z.host) _))
      ]

  from-image : (found : Option Tag) (bounce : ℕ) (z : World) (addr : ℕ) → mapped (regions_of o.given) addr ≡ true
      → image (regions_of o.given) (delivered_from found bounce o z).host addr
      ≡ scattered (image (regions_of o.given) z.host) (delivered_places found) (bytes_from z.host bounce (length (delivered_places found))) addr
  from-image None bounce z addr there = sym (ap (λ m. m addr) (scattered-none (image (regions_of o.given) z.host) _))
  from-image (Some Free) bounce z addr there = sym (ap (λ m. m addr) (scattered-none (image (regions_of o.given) z.host) _))
  from-image (Some (Taken command reads)) bounce z addr there = sym (ap (λ m. m addr) (scattered-none (image (regions_of o.given) z.host) _))
  from-image (Some (Flying command share standing)) bounce z addr there = sym (ap (λ m. m addr) (scattered-none (image (regions_of o.given) z.host) _))
  from-image (Some (Ended command st None)) bounce z addr there = sym (ap (λ m. m addr) (scattered-none (image (regions_of o.given) z.host) _))
  from-image (Some (Ended command st (Some share))) bounce z addr there = by-image share.plan bounce z addr there

  -- and the host outside of it, and all tags, are as they were
  by-host : (plan : Plan) (bounce : ℕ) (z : World) (at : ℕ) → guest_of (regions_of o.given) at ≡ None
      → (delivered_by plan bounce o z).host at ≡ z.host at
  unfolding scattered_to
  by-host (Answer st) bounce z at outside = refl
  by-host (NoData work) bounce z at outside = refl
  by-host (Direct work) bounce z at outside = refl
  by-host (Bounced work) bounce z at outside =
      elim (is_read work.opcode) as (λ b. (cond b (scattered_to bounce work o z) z).host at ≡ z.host at) [
        | true ↦
            put_image-elsewhere (regions_of o.given)
            (scattered (image (regions_of o.given) z.host) (places_of work.pieces) (bytes_from z.host bounce (total_len work.pieces))) z.host at outside
        | false ↦ refl
      ]

  by-lanes : (plan : Plan) (bounce : ℕ) (z : World) → (delivered_by plan bounce o z).lanes ≡ z.lanes
  unfolding scattered_to
  by-lanes (Answer st) bounce z = refl
  by-lanes (NoData work) bounce z = refl
  by-lanes (Direct work) bounce z = refl
  by-lanes (Bounced work) bounce z =
      elim (is_read work.opcode) as (λ b. (cond b (scattered_to bounce work o z) z).lanes ≡ z.lanes) [ true ↦ refl | false ↦ refl ]

  from-host : (found : Option Tag) (bounce : ℕ) (z : World) (at : ℕ) → guest_of (regions_of o.given) at ≡ None
      → (delivered_from found bounce o z).host at ≡ z.host at
  from-host None bounce z at outside = refl
  from-host (Some Free) bounce z at outside = refl
  from-host (Some (Taken command reads)) bounce z at outside = refl
  from-host (Some (Flying command share standing)) bounce z at outside = refl
  from-host (Some (Ended command st None)) bounce z at outside = refl
  from-host (Some (Ended command st (Some share))) bounce z at outside = by-host share.plan bounce z at outside

  from-lanes : (found : Option Tag) (bounce : ℕ) (z : World) → (delivered_from found bounce o z).lanes ≡ z.lanes
  from-lanes None bounce z = refl
  from-lanes (Some Free) bounce z = refl
  from-lanes (Some (Taken command reads)) bounce z = refl
  from-lanes (Some (Flying command share standing)) bounce z = refl
  from-lanes (Some (Ended command st None)) bounce z = refl
  from-lanes (Some (Ended command st (Some share))) bounce z = by-lanes share.plan bounce z

  -- ---- all tags

  module _ (mediator lane : ℕ) (memory : ℕ → ℕ) where
    -- a tag's pages are no part of the guest's memory, hold as many bytes, and have what the other memory has
    pub record IsReady (z : World) (tag : ℕ) : Type 0 where
      pub outside : (i : ℕ) → i < most_bytes → guest_of (regions_of o.given) (bounce_page mediator lane tag + i) ≡ None
      pub few : length (delivered_places (tag_of z lane tag)) ≤ most_bytes
      pub has : HasPage memory z.host (bounce_page mediator lane tag) (delivered_places (tag_of z lane tag))

    abbrev behind : World → (tag : ℕ) → World
    behind z tag = delivered_from (tag_of z lane tag) (bounce_page mediator lane tag) o z

    same-tag : (z : World) (tag other : ℕ) → tag_of (behind z tag) lane other ≡ tag_of z lane other
    same-tag z tag other = ap (λ (ls : List Lane). tag_in (slice_get ls lane) other) (from-lanes (tag_of z lane tag) (bounce_page mediator lane tag) z)

    still-ready : (z : World) (tag other : ℕ) → IsReady z other → IsReady (behind z tag) other
    still-ready z tag other is =
        let places = delivered_places (tag_of z lane other) in
        let now = sym (same-tag z tag other) in
        let few = is.few in
        record {
          outside = is.outside;
          few = subst (λ t. length (delivered_places t) ≤ most_bytes) now is.few;
          has = subst (λ t. HasPage memory (behind z tag).host (bounce_page mediator lane other) (delivered_places t)) now
              (subst (HasAt memory places) (sym (bytes_from-same (behind z tag).host z.host (bounce_page mediator lane other) (bounce_page mediator lane other) (length places)
              (λ i below. from-host (tag_of z lane tag) (bounce_page mediator lane tag) z (bounce_page mediator lane other + i) (is.outside i (omega (arith, below, few)))))) is.has);
        }

    pub delivered-memory : (addr : ℕ) → mapped (regions_of o.given) addr ≡ true → (tags : List ℕ) (z : World) → All (IsReady z) tags
        → (All (λ tag. All (IsAnother (At addr)) (delivered_places (tag_of z lane tag))) tags → image (regions_of o.given) z.host addr ≡ memory addr)
        → image (regions_of o.given) (delivered_all mediator lane tags o z).host addr ≡ memory addr
    unfolding delivered_all
    delivered-memory addr there [] z ready same = same (All-nil (λ tag. All (IsAnother (At addr)) (delivered_places (tag_of z lane tag))))
    delivered-memory addr there (tag ∷ tags) z ready same =
        let here = All-head (IsReady z) tag tags ready in
        let places = delivered_places (tag_of z lane tag) in
        delivered-memory addr there tags (behind z tag)
        (All-weaker (IsReady z) (IsReady (behind z tag)) (λ other is. still-ready z tag other is) tags (All-tail (IsReady z) tag tags ready))
        (λ others.
        from-image (tag_of z lane tag) (bounce_page mediator lane tag) z addr there
        ∙ delivered-same (image (regions_of o.given) z.host) memory places (bytes_from z.host (bounce_page mediator lane tag) (length places)) addr here.has
        (λ none. same (All-cons (λ x. All (IsAnother (At addr)) (delivered_places (tag_of z lane x))) tag tags none
        (All-weaker (λ x. All (IsAnother (At addr)) (delivered_places (tag_of (behind z tag) lane x)))
        (λ x. All (IsAnother (At addr)) (delivered_places (tag_of z lane x)))
        (λ x each. subst (λ t. All (IsAnother (At addr)) (delivered_places t)) (same-tag z tag x) each) tags others))))

-- ---- in a consistent world

-- a share's bytes fit its pages
plan-few : (guest : Guest) (entry : List ℕ) (share : Share) → IsPlanned guest entry share → length (plan_delivered share.plan) ≤ most_bytes
plan-few guest entry share is =
    let own = own-share guest entry share is in
    let few = own.few in
    own.kinds (λ p. length (plan_delivered p) ≤ most_bytes) (omega arith) (λ fits. omega arith) (by_read (own_work guest entry share is) few)
  where
    by_read : (work : Work) → total_len work.pieces ≤ most_bytes → length (plan_delivered (Bounced work)) ≤ most_bytes
    by_read work few =
        elim (is_read work.opcode) as (λ b. length (cond b (places_of work.pieces) []) ≤ most_bytes) [
          | true ↦ (let size = length-places_of work.pieces in omega (arith, size, few))
          | false ↦ omega arith
        ]

module _ (host_bytes : ℕ) (geometry : Geometry) (w : World) (laid : IsLaidOut host_bytes (length w.lanes) geometry) (fine : IsConsistent geometry w)
    (lane : ℕ) (lane_below : lane < length w.lanes) where
  tag-few : (tag : ℕ) → tag < tag_count → (found : Option Tag) → tag_of w lane tag ≡ found → length (delivered_places found) ≤ most_bytes
  tag-few tag below None is = omega arith
  tag-few tag below (Some Free) is = omega arith
  tag-few tag below (Some (Taken command reads)) is = omega arith
  tag-few tag below (Some (Flying command share standing)) is = omega arith
  tag-few tag below (Some (Ended command st None)) is = omega arith
  tag-few tag below (Some (Ended command st (Some share))) is =
      let sides = fine.of_tags.sides in
      let l = slice_get-there w.lanes lane lane_below in
      let d = slice_get-there w.device lane (omega (arith, lane_below, sides)) in
      let before = fine.of_tags.lanes lane l.0 d.0 l.1 d.1 in
      let held_count = before.positions.held in
      let held = slice_get-there d.0.held tag (omega (arith, below, held_count)) in
      let at : slice_get l.0.tags tag ≡ Some (Ended command st (Some share)) = sym (ap (λ x. tag_in x tag) l.1) ∙ is in
      let holds = before.tags tag (Ended command st (Some share)) held.0 at held.1 in
      plan-few holds.guest command.entry share holds.planned

  pub world-delivered : (o : Owner) → slice_get geometry.guests o.number ≡ Some o.given → (memory : ℕ → ℕ) (tags : List ℕ) → All (λ tag. tag < tag_count) tags
      → All (λ tag. HasPage memory w.host (bounce_page geometry.mediator lane tag) (delivered_places (tag_of w lane tag))) tags
      → (addr : ℕ) → mapped (regions_of o.given) addr ≡ true
      → (All (λ tag. All (IsAnother (At addr)) (delivered_places (tag_of w lane tag))) tags → image (regions_of o.given) w.host addr ≡ memory addr)
      → image (regions_of o.given) (delivered_all geometry.mediator lane tags o w).host addr ≡ memory addr
  world-delivered o given memory tags below has addr there same =
      delivered-memory o (laid.given o.number o.given given).sound.apart geometry.mediator lane memory addr there tags w (ready tags below has) same
    where
      ready : (tags : List ℕ) → All (λ tag. tag < tag_count) tags
          → All (λ tag. HasPage memory w.host (bounce_page geometry.mediator lane tag) (delivered_places (tag_of w lane tag))) tags
          → All (IsReady o (laid.given o.number o.given given).sound.apart geometry.mediator lane memory w) tags
      ready [] below has = All-nil (IsReady o (laid.given o.number o.given given).sound.apart geometry.mediator lane memory w)
      ready (tag ∷ tags) below has =
          let first = All-head (λ x. x < tag_count) tag tags below in
          All-cons (IsReady o (laid.given o.number o.given given).sound.apart geometry.mediator lane memory w) tag tags
          (record {
            outside = (λ i under. laid.outside o.number o.given (bounce_page geometry.mediator lane tag + i) given (omega arith) (omega (arith, under, first, lane_below)));
            few = tag-few tag first (tag_of w lane tag) refl;
            has = All-head (λ x. HasPage memory w.host (bounce_page geometry.mediator lane x) (delivered_places (tag_of w lane x))) tag tags has;
          })
          (ready tags (All-tail (λ x. x < tag_count) tag tags below)
          (All-tail (λ x. HasPage memory w.host (bounce_page geometry.mediator lane x) (delivered_places (tag_of w lane x))) tag tags has))
