-- The parts of a plan, handed on one after the other.
use Rattle.std.proofs.Common.{◌≡◌, ℕ, ◌+◌, ◌<◌, ◌≤◌, List, [], ◌∷◌, drop, get_or, length, slice_get, Some, arith, refl, sym, ap, ◌∙◌, add-one, drop-cons}
use Rattle.std.proofs.lemmas.List.{drop_all}
use Rattle.std.proofs.lemmas.Option.{get_or_from_slice_get, slice_get-get_or, slice_get_within}
use Rattle.nv_core.specs.Submit.{HaveRoom, host_carried, host_handed, slot_after, tail_handed}
use Rattle.nv_device.specs.Physical.{lane_of, no_lane, with_lane}
use Rattle.nv_device.specs.State.{Physical}
use Rattle.nv_laws_sound.proofs.Lists.{set-same, some-same}
use Rattle.nv_model.specs.Memory.{byte_in}
use Rattle.nv_world_model.specs.Area.{ring_size}
use Rattle.nv_world_model.specs.Device.{DeviceLane}
use Rattle.nv_world_model.specs.Geometry.{Guest}
use Rattle.nv_world_model.specs.Share.{Share}

-- ---- the device

module _ (lane : ℕ) (p : Physical) (below : lane < length p.lanes) where
  -- its side of the lane is there
  pub lane-there : slice_get p.lanes lane ≡ Some (lane_of p lane)
  lane-there = slice_get-get_or p.lanes lane no_lane below

  -- and put back, the device is as it was
  pub lane-same : with_lane lane (lane_of p lane) p ≡ p
  lane-same = ap (λ (ls : List DeviceLane). let q : Physical = record p { lanes = ls } in q) (set-same p.lanes lane (lane_of p lane) lane-there)

-- ---- no share

pub host-nil : (tags : List ℕ) (guest : Guest) (entry : List ℕ) (mediator lane at : ℕ) (host : ℕ → ℕ)
    → host_handed tags [] guest entry mediator lane at host ≡ host
host-nil [] guest entry mediator lane at host = refl
host-nil (tag ∷ tags) guest entry mediator lane at host = refl

pub tail-nil : (tags : List ℕ) (at : ℕ) → tail_handed tags [] at ≡ at
tail-nil [] at = refl
tail-nil (tag ∷ tags) at = refl

-- ---- one share

one-is : (shares : List Share) (share : Share) → length shares ≡ 1 → slice_get shares 0 ≡ Some share → shares ≡ share ∷ []
one-is [] share many at = absurd (omega (arith, many))
one-is (first ∷ []) share many at = ap (λ (s : Share). s ∷ []) (some-same first share at)
one-is (first ∷ next ∷ more) share many at = absurd (omega (arith, many))

module _ (tags others : List ℕ) (tag : ℕ) (shares : List Share) (share : Share) (first : tags ≡ tag ∷ others) (many : length shares ≡ 1)
    (at : slice_get shares 0 ≡ Some share) where
  pub one-host : (guest : Guest) (entry : List ℕ) (mediator lane slot : ℕ) (host : ℕ → ℕ)
      → host_carried share guest entry mediator lane tag slot host ≡ host_handed tags shares guest entry mediator lane slot host
  one-host guest entry mediator lane slot host =
      sym (ap (λ (ts : List ℕ). host_handed ts shares guest entry mediator lane slot host) first
      ∙ ap (λ (ss : List Share). host_handed (tag ∷ others) ss guest entry mediator lane slot host) (one-is shares share many at)
      ∙ host-nil others guest entry mediator lane (slot_after share slot) (host_carried share guest entry mediator lane tag slot host))

  pub one-tail : (slot : ℕ) → slot_after share slot ≡ tail_handed tags shares slot
  one-tail slot =
      sym (ap (λ (ts : List ℕ). tail_handed ts shares slot) first
      ∙ ap (λ (ss : List Share). tail_handed (tag ∷ others) ss slot) (one-is shares share many at) ∙ tail-nil others (slot_after share slot))

-- ---- one after the other

-- room in a host is room in one as long
pub room-kept : (mediator lane : ℕ) (guest : Guest) (host new : List ℕ) → length new ≡ length host → HaveRoom mediator lane guest host
    → HaveRoom mediator lane guest new
room-kept mediator lane guest host new sized room tag below =
    let r = room tag below in
    record {
      aligned = r.aligned;
      below = r.below;
      area = (let area = r.area in omega (arith, area, sized));
      made_for = r.made_for ∙ sym sized;
      apart = r.apart;
    }

-- what the loop over the parts keeps: the rest in the tags that are left is all in all tags
pub record IsAtPart (all : List ℕ) (shares : List Share) (guest : Guest) (entry : List ℕ) (mediator lane : ℕ) (host_old : List ℕ) (at_old : ℕ)
    (tags : List ℕ) (host : List ℕ) (at : ℕ) (i : ℕ) : Type 0 where
  pub moved : host_handed tags (drop i shares) guest entry mediator lane at (byte_in host)
      ≡ host_handed all shares guest entry mediator lane at_old (byte_in host_old)
  pub rings : tail_handed tags (drop i shares) at ≡ tail_handed all shares at_old
  pub sized : length host ≡ length host_old
  pub fits : at < ring_size

module _ (all : List ℕ) (shares : List Share) (guest : Guest) (entry : List ℕ) (mediator lane : ℕ) (host_old : List ℕ) (at_old : ℕ) where
  share-here : (i : ℕ) (share : Share) → slice_get shares i ≡ Some share → drop i shares ≡ share ∷ drop (i + 1) shares
  share-here i share at =
      let below = slice_get_within shares i share at in
      let is = get_or_from_slice_get shares i share share at in
      let cut : drop i shares ≡ get_or shares i share ∷ drop (i + 1) shares = rw (add-one, drop-cons shares i share) refl in
      cut ∙ ap (λ (s : Share). s ∷ drop (i + 1) shares) is

  -- one more part
  pub part-next : (tags rest : List ℕ) (tag : ℕ) (host new : List ℕ) (at at_new : ℕ) (i : ℕ) (share : Share)
      → IsAtPart all shares guest entry mediator lane host_old at_old tags host at i → tags ≡ tag ∷ rest → slice_get shares i ≡ Some share
      → byte_in new ≡ host_carried share guest entry mediator lane tag at (byte_in host)
      → at_new ≡ slot_after share at → length new ≡ length host → at_new < ring_size
      → IsAtPart all shares guest entry mediator lane host_old at_old rest new at_new (i + 1)
  part-next tags rest tag host new at at_new i share so_far first there bytes next long below =
      let left : List Share = drop (i + 1) shares in
      record {
        moved =
            ap (λ (n : ℕ). host_handed rest left guest entry mediator lane n (byte_in new)) next
            ∙ ap (host_handed rest left guest entry mediator lane (slot_after share at)) bytes
            ∙ ap (λ (ss : List Share). host_handed (tag ∷ rest) ss guest entry mediator lane at (byte_in host)) (sym (share-here i share there))
            ∙ ap (λ (ts : List ℕ). host_handed ts (drop i shares) guest entry mediator lane at (byte_in host)) (sym first)
            ∙ so_far.moved;
        rings =
            ap (tail_handed rest left) next
            ∙ ap (λ (ss : List Share). tail_handed (tag ∷ rest) ss at) (sym (share-here i share there))
            ∙ ap (λ (ts : List ℕ). tail_handed ts (drop i shares) at) (sym first)
            ∙ so_far.rings;
        sized = long ∙ so_far.sized;
        fits = below;
      }

  module _ (tags : List ℕ) (host : List ℕ) (at : ℕ) (i : ℕ) (so_far : IsAtPart all shares guest entry mediator lane host_old at_old tags host at i) where
    -- no part is left
    pub host-end : length shares ≤ i → byte_in host ≡ host_handed all shares guest entry mediator lane at_old (byte_in host_old)
    host-end past =
        sym (ap (λ (ss : List Share). host_handed tags ss guest entry mediator lane at (byte_in host)) (drop_all i shares past)
        ∙ host-nil tags guest entry mediator lane at (byte_in host)) ∙ so_far.moved

    pub tail-end : length shares ≤ i → at ≡ tail_handed all shares at_old
    tail-end past =
        sym (ap (λ (ss : List Share). tail_handed tags ss at) (drop_all i shares past) ∙ tail-nil tags at) ∙ so_far.rings
