-- What the mediator's side keeps is kept by a side that is the same but for the places of parts, and as many bytes are asked for.
use Rattle.std.proofs.Common.{◌≡◌, ℕ, ◌+◌, List, [], ◌∷◌, length, map, slice_get, take, Option, Some, None, refl, sym, ap, ◌∙◌, subst}
use Rattle.std.specs.Option.{option_map}
use Rattle.std.proofs.lemmas.List.{length-map}
use Rattle.std.proofs.lemmas.Option.{slice_get-map}
use Rattle.nv_laws_sound.proofs.Lists.{some-same}
use Rattle.nv_laws_sound.specs.Groups.{AreGrouped, Part, part_of}
use Rattle.nv_laws_sound.specs.Kept.{IsKeptLane, IsKeptTag}
use Rattle.nv_laws_sound.specs.Side.{IsKept, Side}
use Rattle.nv_laws_sound.specs.Unplaced.{unplaced_lane, unplaced_tag}
use Rattle.nv_machine.specs.Contained.{AreFetched, IsFetched, after_calls}
use Rattle.nv_machine.specs.InWorld.{AreOnPages}
use Rattle.nv_machine.specs.Machine.{call, fetch, fetch_then}
use Rattle.nv_machine.specs.Unplaced.{AreSameButPlaces}
use Rattle.nv_machine.proofs.PlaceCalls.{call-same, fetch-same, then-same}
use Rattle.nv_model.specs.Controller.{Controller}
use Rattle.nv_world_model.specs.Geometry.{Geometry}
use Rattle.nv_world_model.specs.World.{Ended, Flying, Free, Lane, Tag, Taken}
use Rattle.nv_world_model.specs.declared.event.Event.{Event}

-- ---- the lane in the place of one

pub record HasSame (ks : List Lane) (lane : ℕ) (l : Lane) : Type 0 where
  pub k : Lane
  pub there : slice_get ks lane ≡ Some k
  pub same : unplaced_lane k ≡ unplaced_lane l

pub lane-same : (s z : Side) → AreSameButPlaces s z → (lane : ℕ) (l : Lane) → slice_get s.lanes lane ≡ Some l → HasSame z.lanes lane l
lane-same s z same lane l found = by (slice_get z.lanes lane) refl
  where
    both : option_map unplaced_lane (slice_get z.lanes lane) ≡ Some (unplaced_lane l)
    both =
        sym (slice_get-map unplaced_lane z.lanes lane) ∙ ap (λ (ls : List Lane). slice_get ls lane) (sym same.lanes)
        ∙ slice_get-map unplaced_lane s.lanes lane ∙ ap (option_map unplaced_lane) found

    by : (o : Option Lane) → slice_get z.lanes lane ≡ o → HasSame z.lanes lane l
    by None at = (let bad : None ≡ Some (unplaced_lane l) = sym (ap (option_map unplaced_lane) at) ∙ both in cc)
    by (Some k) at =
        record { k = k; there = at; same = some-same (unplaced_lane k) (unplaced_lane l) (sym (ap (option_map unplaced_lane) at) ∙ both) }

-- ---- what is kept

pub pages-same : (s z : Side) → AreSameButPlaces s z → AreOnPages z.controllers → AreOnPages s.controllers
pages-same s z same is number c at = is number c (ap (λ (cs : List Controller). slice_get cs number) (sym same.controllers) ∙ at)

module _ (geometry : Geometry) where
  tag-plain : (t : Tag) → IsKeptTag geometry t → IsKeptTag geometry (unplaced_tag t)
  tag-plain Free is = is
  tag-plain (Taken command reads) is = is
  tag-plain (Flying command share at) is = is
  tag-plain (Ended command st share) is = is

  tag-back : (t : Tag) → IsKeptTag geometry (unplaced_tag t) → IsKeptTag geometry t
  tag-back Free is = is
  tag-back (Taken command reads) is = is
  tag-back (Flying command share at) is = is
  tag-back (Ended command st share) is = is

  part-plain : (t : Tag) → part_of (unplaced_tag t) ≡ part_of t
  part-plain Free = refl
  part-plain (Taken command reads) = refl
  part-plain (Flying command share at) = refl
  part-plain (Ended command st share) = refl

  parts-plain : (ts : List Tag) → map part_of (map unplaced_tag ts) ≡ map part_of ts
  parts-plain [] = refl
  parts-plain (t ∷ ts) =
      ap (λ (p : Part). p ∷ map part_of (map unplaced_tag ts)) (part-plain t) ∙ ap (λ (ps : List Part). part_of t ∷ ps) (parts-plain ts)

  lane-plain : (l : Lane) → IsKeptLane geometry l → IsKeptLane geometry (unplaced_lane l)
  lane-plain l is =
      record {
        head = is.head;
        tags_are = length-map l.tags unplaced_tag ∙ is.tags_are;
        tags = (λ tag t there. by tag t (slice_get l.tags tag) refl (sym (slice_get-map unplaced_tag l.tags tag) ∙ there));
        groups = subst (AreGrouped geometry) (sym (parts-plain l.tags)) is.groups;
      }
    where
      by : (tag : ℕ) (t : Tag) (o : Option Tag) → slice_get l.tags tag ≡ o → option_map unplaced_tag o ≡ Some t → IsKeptTag geometry t
      by tag t None at e = cc
      by tag t (Some u) at e = subst (IsKeptTag geometry) (some-same (unplaced_tag u) t e) (tag-plain u (is.tags tag u at))

  lane-back : (l : Lane) → IsKeptLane geometry (unplaced_lane l) → IsKeptLane geometry l
  lane-back l is =
      record {
        head = is.head;
        tags_are = sym (length-map l.tags unplaced_tag) ∙ is.tags_are;
        tags = (λ tag t there. tag-back t (is.tags tag (unplaced_tag t) (slice_get-map unplaced_tag l.tags tag ∙ ap (option_map unplaced_tag) there)));
        groups = subst (AreGrouped geometry) (parts-plain l.tags) is.groups;
      }

  module _ (s z : Side) (same : AreSameButPlaces s z) where
    as-many : length s.lanes ≡ length z.lanes
    as-many = sym (length-map s.lanes unplaced_lane) ∙ ap (λ (ls : List Lane). length ls) same.lanes ∙ length-map z.lanes unplaced_lane

    pub kept-same : IsKept geometry z → IsKept geometry s
    kept-same is =
        record {
          lanes = (λ lane l found.
              let a = lane-same s z same lane l found in
              lane-back l (subst (IsKeptLane geometry) a.same (lane-plain a.k (is.lanes lane a.k a.there))));
          many = ap (λ (ts : List ℕ). length ts) same.tails ∙ is.many ∙ sym as-many;
          slots = (λ lane tail at. is.slots lane tail (ap (λ (ts : List ℕ). slice_get ts lane) (sym same.tails) ∙ at));
          controllers = ap (λ (cs : List Controller). length cs) same.controllers ∙ is.controllers;
          queues = (λ number guest c given at.
              is.queues number guest c given (ap (λ (cs : List Controller). slice_get cs number) (sym same.controllers) ∙ at));
        }

    -- ---- what is fetched

    pub fetched-same : (e : Event) (fetched : List ℕ) → IsFetched geometry e z fetched → IsFetched geometry e s fetched
    fetched-same e fetched is =
        is
        ∙ sym (ap (λ (first : List ℕ). length first + length (fetch_then geometry e s (take (length first) fetched))) (fetch-same s z same geometry e)
        ∙ ap (λ (then_ : List ℕ). length (fetch geometry e z) + length then_) (then-same s z same geometry e (take (length (fetch geometry e z)) fetched)))

  pub all-fetched : (calls : List (Event × List ℕ)) (s z : Side) → AreSameButPlaces s z → AreFetched geometry calls z → AreFetched geometry calls s
  unfolding AreFetched
  all-fetched [] s z same are = are
  all-fetched (one ∷ calls) s z same are = (
    fetched-same s z same one.0 one.1 are.0,
    all-fetched calls (call geometry one.0 one.1 s).now.side (call geometry one.0 one.1 z).now.side (call-same s z same geometry one.0 one.1).sides are.1,
  )

  -- after several calls sides are the same but for places
  pub after-same : (calls : List (Event × List ℕ)) (s z : Side) → AreSameButPlaces s z → AreSameButPlaces (after_calls geometry calls s) (after_calls geometry calls z)
  unfolding after_calls
  after-same [] s z same = same
  after-same (one ∷ calls) s z same =
      after-same calls (call geometry one.0 one.1 s).now.side (call geometry one.0 one.1 z).now.side (call-same s z same geometry one.0 one.1).sides
