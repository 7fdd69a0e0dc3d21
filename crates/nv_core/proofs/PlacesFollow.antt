-- The place of a part follows from what the physical controller holds and from the rings: in a consistent world there is one.
use Rattle.std.proofs.Common.{◌≡◌, ℕ, zero, suc, ◌+◌, ◌<◌, Bool, true, false, ◌&&◌, ◌==◌, cond, eq-eqb, eqb-true, arith, List, [], ◌∷◌, get_or, length, map, slice_get}
use Rattle.std.proofs.Common.{Option, Some, None, refl, sym, ap, ◌∙◌, subst}
use Rattle.std.proofs.lemmas.Bool.{lt-ltb}
use Rattle.std.proofs.lemmas.Bool.Decides.{nat_tests}
use Rattle.std.proofs.lemmas.Option.{get_or_from_slice_get}
use Rattle.nv_core.specs.Places.{completed_slot, entry_slot, is_between, place_by, place_of, placed_lane, placed_lanes, placed_tag, placed_tags, slot_where}
use Rattle.nv_entry.specs.Completion.{cid_of as completed_cid}
use Rattle.nv_entry.specs.Submission.{cid_of}
use Rattle.nv_laws_sound.proofs.EntryFields.{entry-cid}
use Rattle.nv_laws_sound.proofs.Lists.{slice_get-below, slice_get-there, some-same}
use Rattle.nv_laws_sound.proofs.ReapEvents.{answered-at}
use Rattle.nv_laws_sound.proofs.TakenEvents.{queued-at}
use Rattle.nv_laws_sound.specs.Consistent.{IsBetween, IsConsistent, IsFlying, IsLane}
use Rattle.nv_laws_sound.specs.Unplaced.{unplaced_lane, unplaced_tag}
use Rattle.nv_model.proofs.Endings.{and-true}
use Rattle.nv_model.specs.Memory.{bytes_from}
use Rattle.nv_model.specs.Queue.{ahead, cqe_size, sqe_size}
use Rattle.nv_world_model.specs.Area.{completion_slot, ring_size, submission_slot, tag_count}
use Rattle.nv_world_model.specs.Device.{DeviceLane, Held}
use Rattle.nv_world_model.specs.Geometry.{Geometry}
use Rattle.nv_world_model.specs.Share.{Share}
use Rattle.nv_world_model.specs.World.{Answered, Command, Ended, Flying, Free, InDevice, Lane, Queued, Standing, Tag, Taken, World}

-- ---- a slot that is searched

below-next : (k n : ℕ) → k < suc n → (k ≡ n → ⊥) → k < n
below-next k n less apart = omega (arith, less, apart)

slot-none : (test : ℕ → Bool) (n : ℕ) → ((k : ℕ) → k < n → test k ≡ true → ⊥) → slot_where test n ≡ None
unfolding slot_where
slot-none test zero none = refl
slot-none test (suc n) none = by (test n) refl (slot-none test n (λ k less. none k (omega (arith, less))))
  where
    by : (b : Bool) → test n ≡ b → slot_where test n ≡ None → cond b (Some n) (slot_where test n) ≡ None
    by true e rest = absurd (none n (omega arith) e)
    by false e rest = rest

slot-found : (test : ℕ → Bool) (n at : ℕ) → at < n → test at ≡ true → ((k : ℕ) → k < n → test k ≡ true → k ≡ at) → slot_where test n ≡ Some at
unfolding slot_where
slot-found test zero at below is one = absurd (omega (arith, below))
slot-found test (suc n) at below is one = by (test n) refl (λ less. slot-found test n at less is (λ k lower. one k (omega (arith, lower))))
  where
    by : (b : Bool) → test n ≡ b → (at < n → slot_where test n ≡ Some at) → cond b (Some n) (slot_where test n) ≡ Some at
    by true e rest = ap (λ (k : ℕ). Some k) (one n (omega arith) e)
    by false e rest = rest (below-next at n below (λ same. (let bad : true ≡ false = sym is ∙ ap test same ∙ e in cc)))

both : (a b : Bool) → a ≡ true → b ≡ true → (a && b) ≡ true
both true true x y = refl
both true false x y = cc
both false b x y = cc

between-so : (from to at : ℕ) → at < ring_size → is_between from to at ≡ true → IsBetween from to at
between-so from to at slot is = record { slot = slot; before = grind (arith, nat_tests) }

-- ---- a lane

module _ (geometry : Geometry) (lane : ℕ) (host : ℕ → ℕ) (l : Lane) (d : DeviceLane) (is : IsLane geometry lane host l d) where
  abbrev m : ℕ
  m = geometry.mediator

  abbrev names : (tag at : ℕ) → Bool
  names tag at = is_between d.head d.tail at && cid_of (bytes_from host (submission_slot m lane at) sqe_size) == tag

  abbrev ends : (tag at : ℕ) → Bool
  ends tag at = is_between l.head d.posted at && completed_cid (bytes_from host (completion_slot m lane at) cqe_size) == tag

  held-there : (tag : ℕ) (t : Tag) → slice_get l.tags tag ≡ Some t → (held : Option Held) × (slice_get d.held tag ≡ Some held)
  held-there tag t there =
      let below = slice_get-below l.tags tag t there in
      let tags = is.positions.tags in
      let helds = is.positions.held in slice_get-there d.held tag (omega (arith, below, tags, helds))

  tag-below : (tag : ℕ) (t : Tag) → slice_get l.tags tag ≡ Some t → tag < tag_count
  tag-below tag t there = (let below = slice_get-below l.tags tag t there in let tags = is.positions.tags in omega (arith, below, tags))

  -- an entry in the ring that has a tag as its identifier is that tag's
  entry-of : (tag at : ℕ) → at < ring_size → names tag at ≡ true
      → (command : Command) × ((share : Share) × (slice_get l.tags tag ≡ Some (Flying command share (Queued at))))
  entry-of tag at slot named =
      let two = and-true (is_between d.head d.tail at) (cid_of (bytes_from host (submission_slot m lane at) sqe_size) == tag) named in
      let some = is.queued at (between-so d.head d.tail at slot two.0) in
      let held = held-there some.tag some.there some.is in
      let a = queued-at geometry lane some.tag at host l.head d held.0 some.there (is.tags some.tag some.there held.0 some.is held.1) some.stands in
      let own : some.tag ≡ tag =
      sym (ap cid_of a.entry_is ∙ entry-cid a.share a.guest a.command.entry m lane some.tag (tag-below some.tag some.there some.is))
      ∙ eqb-true (cid_of (bytes_from host (submission_slot m lane at) sqe_size)) tag two.1 in
      (a.command, (a.share, ap (slice_get l.tags) (sym own) ∙ some.is ∙ ap (λ (t : Tag). Some t) a.flies))

  -- and so a completion
  completion-of : (tag at : ℕ) → at < ring_size → ends tag at ≡ true
      → (command : Command) × ((share : Share) × (slice_get l.tags tag ≡ Some (Flying command share (Answered at))))
  completion-of tag at slot named =
      let two = and-true (is_between l.head d.posted at) (completed_cid (bytes_from host (completion_slot m lane at) cqe_size) == tag) named in
      let some = is.answered at (between-so l.head d.posted at slot two.0) in
      let held = held-there some.tag some.there some.is in
      let a = answered-at geometry lane some.tag at host l.head d held.0 some.there (is.tags some.tag some.there held.0 some.is held.1) some.stands in
      let own : some.tag ≡ tag = sym a.identifier ∙ eqb-true (completed_cid (bytes_from host (completion_slot m lane at) cqe_size)) tag two.1 in
      (a.command, (a.share, ap (slice_get l.tags) (sym own) ∙ some.is ∙ ap (λ (t : Tag). Some t) a.flies))

  module _ (tag : ℕ) (command : Command) (share : Share) (held : Option Held) (holds : slice_get d.held tag ≡ Some held) where
    under : get_or d.held tag None ≡ held
    under = get_or_from_slice_get d.held tag held None holds

    at-queue : (at : ℕ) → slice_get l.tags tag ≡ Some (Flying command share (Queued at))
        → IsFlying geometry command share (Queued at) lane tag host l.head d held → place_of m lane tag host l.head d ≡ Queued at
    at-queue at there fly =
        let free : held ≡ None = fly.stands.1 in
        let a = queued-at geometry lane tag at host l.head d held (Flying command share (Queued at)) fly (eq-eqb at at refl) in
        let between = fly.stands.0.slot in
        let own : cid_of (bytes_from host (submission_slot m lane at) sqe_size) ≡ tag =
        ap cid_of a.entry_is ∙ entry-cid a.share a.guest a.command.entry m lane tag (tag-below tag (Flying command share (Queued at)) there) in
        let found : entry_slot m lane tag host d ≡ Some at =
        slot-found (names tag) ring_size at between.slot
        (both (is_between d.head d.tail at) (cid_of (bytes_from host (submission_slot m lane at) sqe_size) == tag)
        (lt-ltb (ahead ring_size d.head at) (ahead ring_size d.head d.tail) between.before)
        (eq-eqb (cid_of (bytes_from host (submission_slot m lane at) sqe_size)) tag own))
        (λ k less named.
        (let e = entry-of tag k less named in
        let same : Flying e.0 e.1.0 (Queued k) ≡ Flying command share (Queued at) =
        some-same (Flying e.0 e.1.0 (Queued k)) (Flying command share (Queued at)) (sym e.1.1 ∙ there) in cc)) in
        ap (λ (h : Option Held). place_by h (entry_slot m lane tag host d) (completed_slot m lane tag host l.head d)) (under ∙ free)
        ∙ ap (λ (o : Option ℕ). place_by None o (completed_slot m lane tag host l.head d)) found

    at-completions : (at : ℕ) → slice_get l.tags tag ≡ Some (Flying command share (Answered at))
        → IsFlying geometry command share (Answered at) lane tag host l.head d held → place_of m lane tag host l.head d ≡ Answered at
    at-completions at there fly =
        let free : held ≡ None = fly.stands.1 in
        let between = fly.stands.0.slot in
        let none : entry_slot m lane tag host d ≡ None =
        slot-none (names tag) ring_size
        (λ k less named.
        (let e = entry-of tag k less named in
        let same : Flying e.0 e.1.0 (Queued k) ≡ Flying command share (Answered at) =
        some-same (Flying e.0 e.1.0 (Queued k)) (Flying command share (Answered at)) (sym e.1.1 ∙ there) in cc)) in
        let found : completed_slot m lane tag host l.head d ≡ Some at =
        slot-found (ends tag) ring_size at between.slot
        (both (is_between l.head d.posted at) (completed_cid (bytes_from host (completion_slot m lane at) cqe_size) == tag)
        (lt-ltb (ahead ring_size l.head at) (ahead ring_size l.head d.posted) between.before)
        (eq-eqb (completed_cid (bytes_from host (completion_slot m lane at) cqe_size)) tag fly.stands.0.identifier))
        (λ k less named.
        (let e = completion-of tag k less named in
        let same : Flying e.0 e.1.0 (Answered k) ≡ Flying command share (Answered at) =
        some-same (Flying e.0 e.1.0 (Answered k)) (Flying command share (Answered at)) (sym e.1.1 ∙ there) in cc)) in
        ap (λ (h : Option Held). place_by h (entry_slot m lane tag host d) (completed_slot m lane tag host l.head d)) (under ∙ free)
        ∙ ap (λ (o : Option ℕ). place_by None o (completed_slot m lane tag host l.head d)) none
        ∙ ap (λ (o : Option ℕ). place_by None None o) found

    in-device : (h : Held) → held ≡ Some h → place_of m lane tag host l.head d ≡ InDevice
    in-device h is =
        ap (λ (x : Option Held). place_by x (entry_slot m lane tag host d) (completed_slot m lane tag host l.head d)) (under ∙ is)

  flying-placed : (tag : ℕ) (command : Command) (share : Share) (standing : Standing) (held : Option Held) → slice_get d.held tag ≡ Some held
      → slice_get l.tags tag ≡ Some (Flying command share standing) → IsFlying geometry command share standing lane tag host l.head d held
      → place_of m lane tag host l.head d ≡ standing
  flying-placed tag command share (Queued at) held holds there fly = at-queue tag command share held holds at there fly
  flying-placed tag command share (Answered at) held holds there fly = at-completions tag command share held holds at there fly
  flying-placed tag command share InDevice None holds there fly = absurd fly.stands
  flying-placed tag command share InDevice (Some h) holds there fly = in-device tag command share (Some h) holds h refl

  -- each tag is where it is
  tag-placed : (tag : ℕ) (t : Tag) → slice_get l.tags tag ≡ Some t → placed_tag (place_of m lane tag host l.head d) t ≡ t
  tag-placed tag Free there = refl
  tag-placed tag (Taken command reads) there = refl
  tag-placed tag (Flying command share standing) there =
      let held = held-there tag (Flying command share standing) there in
      ap (λ (s : Standing). Flying command share s)
      (flying-placed tag command share standing held.0 held.1 there (is.tags tag (Flying command share standing) held.0 there held.1))
  tag-placed tag (Ended command st share) there = refl

-- tags that are where they are
tags-same : (place : ℕ → Standing) (from : ℕ) (ts : List Tag) → ((i : ℕ) (t : Tag) → slice_get ts i ≡ Some t → placed_tag (place (from + i)) t ≡ t)
    → placed_tags place from ts ≡ ts
tags-same place from [] each = refl
tags-same place from (t ∷ ts) each =
    let none : from + 0 ≡ from = omega arith in
    ap (λ (u : Tag). u ∷ placed_tags place (from + 1) ts) (subst (λ (n : ℕ). placed_tag (place n) t ≡ t) none (each 0 t refl))
    ∙ ap (λ (us : List Tag). t ∷ us)
    (tags-same place (from + 1) ts
    (λ i u there. (let on : from + suc i ≡ from + 1 + i = omega arith in subst (λ (n : ℕ). placed_tag (place n) u ≡ u) on (each (suc i) u there))))

lane-same : (geometry : Geometry) (lane : ℕ) (host : ℕ → ℕ) (l : Lane) (d : DeviceLane) → IsLane geometry lane host l d
    → placed_lane geometry.mediator lane host d l ≡ l
lane-same geometry lane host l d is =
    ap (λ (ts : List Tag). let k : Lane = record l { tags = ts } in k)
    (tags-same (λ tag. place_of geometry.mediator lane tag host l.head d) 0 l.tags
    (λ i t there.
    (let on : i ≡ 0 + i = omega arith in
    subst (λ (n : ℕ). placed_tag (place_of geometry.mediator lane n host l.head d) t ≡ t) on (tag-placed geometry lane host l d is i t there))))

lanes-same : (geometry : Geometry) (host : ℕ → ℕ) (from : ℕ) (ds : List DeviceLane) (ls : List Lane)
    → ((i : ℕ) (l : Lane) (d : DeviceLane) → slice_get ls i ≡ Some l → slice_get ds i ≡ Some d → IsLane geometry (from + i) host l d)
    → placed_lanes geometry.mediator from host ds ls ≡ ls
lanes-same geometry host from ds [] each = refl
lanes-same geometry host from [] (l ∷ ls) each = refl
lanes-same geometry host from (d ∷ ds) (l ∷ ls) each =
    let none : from + 0 ≡ from = omega arith in
    ap (λ (k : Lane). k ∷ placed_lanes geometry.mediator (from + 1) host ds ls)
    (lane-same geometry from host l d (subst (λ (n : ℕ). IsLane geometry n host l d) none (each 0 l d refl refl)))
    ∙ ap (λ (ks : List Lane). l ∷ ks)
    (lanes-same geometry host (from + 1) ds ls
    (λ i k e at there. (let on : from + suc i ≡ from + 1 + i = omega arith in subst (λ (n : ℕ). IsLane geometry n host k e) on (each (suc i) k e at there))))

-- in a consistent world each part is where it is
pub places-follow : (geometry : Geometry) (w : World) → IsConsistent geometry w → placed_lanes geometry.mediator 0 w.host w.device w.lanes ≡ w.lanes
places-follow geometry w is =
    lanes-same geometry w.host 0 w.device w.lanes
    (λ i l d at there. (let on : i ≡ 0 + i = omega arith in subst (λ (n : ℕ). IsLane geometry n w.host l d) on (is.of_tags.lanes i l d at there)))

-- ---- what is placed is the same but for places

place-forgets : (place : Standing) (t : Tag) → placed_tag place (unplaced_tag t) ≡ placed_tag place t
place-forgets place Free = refl
place-forgets place (Taken command reads) = refl
place-forgets place (Flying command share before) = refl
place-forgets place (Ended command st share) = refl

tags-forget : (place : ℕ → Standing) (from : ℕ) (ts : List Tag) → placed_tags place from (map unplaced_tag ts) ≡ placed_tags place from ts
tags-forget place from [] = refl
tags-forget place from (t ∷ ts) =
    ap (λ (u : Tag). u ∷ placed_tags place (from + 1) (map unplaced_tag ts)) (place-forgets (place from) t)
    ∙ ap (λ (us : List Tag). placed_tag (place from) t ∷ us) (tags-forget place (from + 1) ts)

lanes-forget : (mediator from : ℕ) (host : ℕ → ℕ) (ds : List DeviceLane) (ls : List Lane)
    → length ds ≡ length ls → placed_lanes mediator from host ds (map unplaced_lane ls) ≡ placed_lanes mediator from host ds ls
lanes-forget mediator from host ds [] many = refl
lanes-forget mediator from host [] (l ∷ ls) many = cc
lanes-forget mediator from host (d ∷ ds) (l ∷ ls) many =
    ap (λ (ts : List Tag). (let k : Lane = record l { tags = ts } in k) ∷ placed_lanes mediator (from + 1) host ds (map unplaced_lane ls))
    (tags-forget (λ tag. place_of mediator from tag host l.head d) 0 l.tags)
    ∙ ap (λ (ks : List Lane). placed_lane mediator from host d l ∷ ks) (lanes-forget mediator (from + 1) host ds ls (omega (arith, many)))

tag-unplaced : (place : Standing) (t : Tag) → unplaced_tag (placed_tag place t) ≡ unplaced_tag t
tag-unplaced place Free = refl
tag-unplaced place (Taken command reads) = refl
tag-unplaced place (Flying command share before) = refl
tag-unplaced place (Ended command st share) = refl

tags-unplaced : (place : ℕ → Standing) (from : ℕ) (ts : List Tag) → map unplaced_tag (placed_tags place from ts) ≡ map unplaced_tag ts
tags-unplaced place from [] = refl
tags-unplaced place from (t ∷ ts) =
    ap (λ (u : Tag). u ∷ map unplaced_tag (placed_tags place (from + 1) ts)) (tag-unplaced (place from) t)
    ∙ ap (λ (us : List Tag). unplaced_tag t ∷ us) (tags-unplaced place (from + 1) ts)

pub lanes-unplaced : (mediator from : ℕ) (host : ℕ → ℕ) (ds : List DeviceLane) (ls : List Lane)
    → map unplaced_lane (placed_lanes mediator from host ds ls) ≡ map unplaced_lane ls
lanes-unplaced mediator from host ds [] = refl
lanes-unplaced mediator from host [] (l ∷ ls) = refl
lanes-unplaced mediator from host (d ∷ ds) (l ∷ ls) =
    ap (λ (ts : List Tag). (let k : Lane = record l { tags = ts } in k) ∷ map unplaced_lane (placed_lanes mediator (from + 1) host ds ls))
    (tags-unplaced (λ tag. place_of mediator from tag host l.head d) 0 l.tags)
    ∙ ap (λ (ks : List Lane). unplaced_lane l ∷ ks) (lanes-unplaced mediator (from + 1) host ds ls)

-- lanes that are the same but for places are placed alike
pub placed-same : (mediator : ℕ) (host : ℕ → ℕ) (ds : List DeviceLane) (ls ks : List Lane) → length ds ≡ length ks → length ls ≡ length ks
    → map unplaced_lane ls ≡ map unplaced_lane ks → placed_lanes mediator 0 host ds ls ≡ placed_lanes mediator 0 host ds ks
placed-same mediator host ds ls ks many long same =
    sym (lanes-forget mediator 0 host ds ls (many ∙ sym long)) ∙ ap (placed_lanes mediator 0 host ds) same ∙ lanes-forget mediator 0 host ds ks many

-- so the lanes of a consistent world are those of any side of it
pub places-found : (geometry : Geometry) (w : World) (ls : List Lane) → IsConsistent geometry w → length ls ≡ length w.lanes
    → map unplaced_lane ls ≡ map unplaced_lane w.lanes → placed_lanes geometry.mediator 0 w.host w.device ls ≡ w.lanes
places-found geometry w ls is long same =
    placed-same geometry.mediator w.host w.device ls w.lanes (sym is.of_tags.sides) long same ∙ places-follow geometry w is
