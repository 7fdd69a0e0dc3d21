-- One lane of the world goes on with the drive: what else is as it was.
use Rattle.std.proofs.Common.{◌≡◌, ℕ, ◌+◌, ◌%◌, ◌<◌, ◌≤◌, false, ◌==◌, List, map, set, slice_get, Option, Some, None}
use Rattle.std.proofs.Common.{arith, refl, sym, ap, ◌∙◌, subst}
use Rattle.std.proofs.lemmas.Bool.{eqb-false}
use Rattle.std.proofs.lemmas.List.{map-set}
use Rattle.std.proofs.lemmas.Option.{slice_get-map}
use Rattle.std.specs.Option.{option_map}
use Rattle.nv_fine.proofs.Mirrors.{AreMirrored, IsLaneMirrored, IsNoted, IsOfTag}
use Rattle.nv_fine.specs.Drive.{DriveLane, Working}
use Rattle.nv_laws_sound.proofs.Changes.{world-lane}
use Rattle.nv_laws_sound.proofs.KeptWorlds.{kept-consistent, kept-world}
use Rattle.nv_laws_sound.proofs.Lists.{IsThere, Put, Was, set-same, set-there, slice_get-below}
use Rattle.nv_laws_sound.proofs.PlanSizes.{list-short}
use Rattle.nv_laws_sound.proofs.phases.Events.{posted-below}
use Rattle.nv_laws_sound.proofs.phases.Kept.{phased-ring, ring-of-lane}
use Rattle.nv_laws_sound.specs.Area.{SameInLane}
use Rattle.nv_laws_sound.specs.Consistent.{IsLane}
use Rattle.nv_laws_sound.specs.Phased.{IsPhased}
use Rattle.nv_laws_sound.specs.Side.{tails_of}
use Rattle.nv_laws_sound.specs.Unplaced.{unplaced_lane, unplaced_tag}
use Rattle.nv_machine.proofs.PlaceKept.{kept-same}
use Rattle.nv_machine.specs.InWorld.{IsLive, side_of}
use Rattle.nv_machine.specs.Unplaced.{AreSameButPlaces}
use Rattle.nv_model.specs.Limits.{page}
use Rattle.nv_world_model.proofs.Seats.{slice_get-set, slice_get-set-other}
use Rattle.nv_world_model.specs.Area.{bounce_page, completion_slot, lane_start, list_page, tag_count}
use Rattle.nv_world_model.specs.Device.{DeviceLane}
use Rattle.nv_world_model.specs.Geometry.{Geometry}
use Rattle.nv_world_model.specs.World.{Lane, Tag, World, tag_changed, tag_in, tag_of}

-- ---- what a lane is without places

pub lane-plain : (l : Lane) (tag : ℕ) (t now : Tag) → slice_get l.tags tag ≡ Some t → unplaced_tag now ≡ unplaced_tag t
    → unplaced_lane (tag_changed tag now l) ≡ unplaced_lane l
lane-plain l tag t now at same =
    ap (λ (ts : List Tag). let k : Lane = record l { tags = ts } in k)
    (map-set unplaced_tag l.tags tag now ∙ ap (set (map unplaced_tag l.tags) tag) same
    ∙ set-same (map unplaced_tag l.tags) tag (unplaced_tag t) (slice_get-map unplaced_tag l.tags tag ∙ ap (option_map unplaced_tag) at))

tails-set : (ds : List DeviceLane) (lane : ℕ) (v now : DeviceLane) → slice_get ds lane ≡ Some v → now.tail ≡ v.tail → tails_of (set ds lane now) ≡ tails_of ds
tails-set ds lane v now at same =
    map-set (λ (d : DeviceLane). d.tail) ds lane now ∙ ap (set (tails_of ds) lane) same
    ∙ set-same (tails_of ds) lane v.tail (slice_get-map (λ (d : DeviceLane). d.tail) ds lane ∙ ap (option_map (λ (d : DeviceLane). d.tail)) at)

-- ---- what the drive has of a lane whose bytes are the same

module _ (geometry : Geometry) (w z : World) (lane : ℕ) (rings : (at : ℕ) → lane_start geometry.mediator lane ≤ at → at < completion_slot geometry.mediator lane 0 → w.host at ≡ z.host at)
    (lists : (at : ℕ) → list_page geometry.mediator lane 0 ≤ at → at < lane_start geometry.mediator (lane + 1) → w.host at ≡ z.host at)
    (aligned : geometry.mediator % page ≡ 0) where
  pub noted-kept : (v : DeviceLane) (at byte : ℕ) → IsNoted geometry w lane v at byte → IsNoted geometry z lane v at byte
  noted-kept v at byte is =
      let few = is.between.slot in
      let low = is.low in
      let high = is.high in
      record {
        slot = is.slot;
        between = is.between;
        low = is.low;
        high = is.high;
        same = sym (rings at (omega (arith, low)) (omega (arith, high, few))) ∙ is.same;
      }

  pub of-tag-kept : (id : ℕ) (k : Working) → id < tag_count → ((t : Tag) → tag_of w lane id ≡ Some t → tag_of z lane id ≡ Some t) → IsOfTag geometry w lane id k
      → IsOfTag geometry z lane id k
  of-tag-kept id k below tags is =
      record {
        command = is.command;
        share = is.share;
        given = is.given;
        flies = tags _ is.flies;
        guest = is.guest;
        planned = is.planned;
        some = is.some;
        entry = is.entry;
        read = λ i byte inside has.
            (let short = list-short is.given is.command.entry is.share (list_page geometry.mediator lane id) (bounce_page geometry.mediator lane id) (omega (arith, aligned)) is.planned in
            sym (lists (list_page geometry.mediator lane id + i) (omega arith) (omega (arith, inside, short, below))) ∙ is.read i byte inside has);
        work = is.work;
        sound = is.sound;
      }

  pub lane-kept : (d : DriveLane) (v : DeviceLane) → ((id : ℕ) (t : Tag) → tag_of w lane id ≡ Some t → (id < tag_count) × (tag_of z lane id ≡ Some t))
      → IsLaneMirrored geometry w lane d v → IsLaneMirrored geometry z lane d v
  lane-kept d v tags is =
      record {
        head = is.head;
        posted = is.posted;
        phase = is.phase;
        seen = λ at byte has. noted-kept v at byte (is.seen at byte has);
        working = λ id k there.
            (let before = is.working id k there in
            of-tag-kept id k (tags id _ before.flies).0 (λ t at. (tags id t at).1) before);
      }

-- ---- the world with another lane

module _ (geometry : Geometry) (w : World) (live : IsLive geometry w) (aligned : geometry.mediator % page ≡ 0) (lane : ℕ) (l : Lane) (v : DeviceLane)
    (found : slice_get w.lanes lane ≡ Some l) (there : slice_get w.device lane ≡ Some v) (host : ℕ → ℕ) (m : Lane) (x : DeviceLane)
    (elsewhere : (at : ℕ) → (at == lane) ≡ false → SameInLane w.host host geometry.mediator at) where
  abbrev pub moved : World
  moved = record w { host = host; lanes = set w.lanes lane m; device = set w.device lane x }

  pub moved-side : unplaced_lane m ≡ unplaced_lane l → x.tail ≡ v.tail → AreSameButPlaces (side_of moved) (side_of w)
  moved-side plain tail =
      record {
        lanes =
            map-set unplaced_lane w.lanes lane m ∙ ap (set (map unplaced_lane w.lanes) lane) plain
            ∙ set-same (map unplaced_lane w.lanes) lane (unplaced_lane l) (slice_get-map unplaced_lane w.lanes lane ∙ ap (option_map unplaced_lane) found);
        tails = tails-set w.device lane v x there tail;
        controllers = refl;
      }

  pub moved-live : unplaced_lane m ≡ unplaced_lane l → x.tail ≡ v.tail → IsLane geometry lane host m x → IsPhased geometry host lane m.head m.phase x.posted x.phase
      → IsLive geometry moved
  moved-live plain tail is phased =
      record {
        consistent = record {
          of_tags = world-lane geometry w lane host m x aligned (λ at apart below. elsewhere at apart) is live.consistent.of_tags;
          groups = λ n k at.
              ((kept-same geometry (side_of moved) (side_of w) (moved-side plain tail) (kept-world geometry w (kept-consistent geometry w live.consistent))).lanes n k at).groups;
        };
        phased = λ n k y at under. phases n k y (set-there w.lanes lane m n k at) (set-there w.device lane x n y under);
        on_pages = live.on_pages;
      }
    where
      phases : (n : ℕ) (k : Lane) (y : DeviceLane) → IsThere w.lanes lane m n k → IsThere w.device lane x n y → IsPhased geometry host n k.head k.phase y.posted y.phase
      phases n k y (Put same put) (Put again given) =
          subst (λ i. IsPhased geometry host i k.head k.phase y.posted y.phase) (sym same)
          (subst (λ (z : DeviceLane). IsPhased geometry host lane k.head k.phase z.posted z.phase) given
          (subst (λ (z : Lane). IsPhased geometry host lane z.head z.phase x.posted x.phase) put phased))
      phases n k y (Put same put) (Was apart at) = absurd (eqb-false n lane apart same)
      phases n k y (Was apart at) (Put same put) = absurd (eqb-false n lane apart same)
      phases n k y (Was apart at) (Was again under) =
          phased-ring geometry w.host host n k.head k.phase y.posted y.phase (ring-of-lane geometry n w.host host (elsewhere n apart))
          (posted-below geometry w live.consistent n y under) (live.phased n k y at under)

  -- tags
  pub tag-elsewhere : (n tag : ℕ) → (n == lane) ≡ false → tag_of moved n tag ≡ tag_of w n tag
  tag-elsewhere n tag apart = ap (λ (o : Option Lane). tag_in o tag) (slice_get-set-other w.lanes lane n m apart)

  pub tag-here : (tag : ℕ) → tag_of moved lane tag ≡ slice_get m.tags tag
  tag-here tag = ap (λ (o : Option Lane). tag_in o tag) (slice_get-set w.lanes lane l m found)

  tags-few : (n tag : ℕ) (t : Tag) → tag_of w n tag ≡ Some t → tag < tag_count
  tags-few n tag t at = by (slice_get w.lanes n) refl at
    where
      by : (o : Option Lane) → slice_get w.lanes n ≡ o → tag_in o tag ≡ Some t → tag < tag_count
      by None none is = cc
      by (Some k) is at =
          let below = slice_get-below k.tags tag t at in
          let many = ((kept-world geometry w (kept-consistent geometry w live.consistent)).lanes n k is).tags_are in
          omega (arith, below, many)

  -- what the drive has of the other lanes
  pub moved-mirrored : (ds : List DriveLane) (d : DriveLane) → AreMirrored geometry w ds → IsLaneMirrored geometry moved lane d x → AreMirrored geometry moved (set ds lane d)
  moved-mirrored ds d are own n e y at under = by (set-there ds lane d n e at) (set-there w.device lane x n y under)
    where
      by : IsThere ds lane d n e → IsThere w.device lane x n y → IsLaneMirrored geometry moved n e y
      by (Put same put) (Put again given) =
          subst (λ i. IsLaneMirrored geometry moved i e y) (sym same)
          (subst (IsLaneMirrored geometry moved lane e) given (subst (λ (z : DriveLane). IsLaneMirrored geometry moved lane z x) put own))
      by (Put same put) (Was apart is) = absurd (eqb-false n lane apart same)
      by (Was apart is) (Put same put) = absurd (eqb-false n lane apart same)
      by (Was apart is) (Was again was) =
          lane-kept geometry w moved n (λ b low high. elsewhere n apart b low (omega (arith, high))) (λ b low high. elsewhere n apart b (omega (arith, low)) high) aligned e y
          (λ id t flies. (tags-few n id t flies, tag-elsewhere n id apart ∙ flies)) (are n e y is was)

  pub few-here : (tag : ℕ) (t : Tag) → tag_of w lane tag ≡ Some t → tag < tag_count
  few-here = tags-few lane
