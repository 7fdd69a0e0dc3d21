-- A byte of the next completion is written, and a completion is posted: what a lane, and the phase tags, are behind that.
use Rattle.std.proofs.Common.{◌≡◌, ◌≢◌, ℕ, ◌+◌, ◌%◌, ◌<◌, ◌≤◌, ◌⊎◌, inl, inr, Bool, false, not, ◌==◌, [], ◌∷◌, set, slice_get}
use Rattle.std.proofs.Common.{Some, None, ⊎_elim, arith, eq-eqb, refl, sym, ap, ◌∙◌, subst}
use Rattle.std.proofs.lemmas.Bool.{cases_eq, cases_lt, eqb-false}
use Rattle.nv_entry.specs.Completion.{cid_of as completed_cid, sqid_of}
use Rattle.nv_entry.specs.Status.{bit}
use Rattle.nv_laws_sound.proofs.Lists.{count-fewer, count-set, length-set, slice_get-below}
use Rattle.nv_laws_sound.proofs.Retags.{count-kept, stands-kept, tags-with}
use Rattle.nv_laws_sound.proofs.Rings.{between-end, between-more, between-new, between-tail, far, far-more, next-below}
use Rattle.nv_laws_sound.proofs.Shows.{same-stored}
use Rattle.nv_laws_sound.proofs.TagsKept.{IsUndisturbed, tag-kept}
use Rattle.nv_laws_sound.proofs.phases.Kept.{phase-same}
use Rattle.nv_laws_sound.proofs.phases.Rounds.{next-last, next-within, not-not, wanted-posted}
use Rattle.nv_laws_sound.specs.Area.{SameBetween, SameInLane}
use Rattle.nv_laws_sound.specs.Consistent.{IsBetween, IsLane, IsTag, SomeStands, waits_for_device, waits_for_mediator}
use Rattle.nv_laws_sound.specs.Phased.{IsPhased, phase_at}
use Rattle.nv_model.specs.Limits.{page}
use Rattle.nv_model.specs.Memory.{bytes_from, stored}
use Rattle.nv_model.specs.Queue.{cqe_size, next_slot}
use Rattle.nv_world_model.proofs.Seats.{slice_get-set}
use Rattle.nv_world_model.specs.Area.{completion_slot, lane_start, list_page, queue_pair, ring_size, submission_slot, tag_count}
use Rattle.nv_world_model.specs.Contained.{is_answered_at, is_queued_at, tag_stands}
use Rattle.nv_world_model.specs.Device.{DeviceLane, Held, completion_posted, next_phase}
use Rattle.nv_world_model.specs.Geometry.{Geometry}
use Rattle.nv_world_model.specs.Share.{Share}
use Rattle.nv_world_model.specs.World.{Answered, Command, Flying, InDevice, Lane, Tag, tag_changed}

-- ---- a byte of the completion that comes next

module _ (geometry : Geometry) (lane : ℕ) (host : ℕ → ℕ) (d : DeviceLane) (i byte : ℕ) (within : i < cqe_size) (posted_below : d.posted < ring_size) where
  abbrev slot : ℕ
  slot = completion_slot geometry.mediator lane d.posted

  abbrev other : ℕ → ℕ
  other = stored host (completion_slot geometry.mediator lane d.posted + i) (byte ∷ [])

  -- nothing else changes
  byte-same : (from to : ℕ) → (to ≤ slot) ⊎ (slot + 16 ≤ from) → SameBetween host other from to
  byte-same from to away = same-stored host from to (slot + i) (byte ∷ []) (beyond away)
    where
      beyond : (to ≤ completion_slot geometry.mediator lane d.posted) ⊎ (completion_slot geometry.mediator lane d.posted + 16 ≤ from)
          → (to ≤ completion_slot geometry.mediator lane d.posted + i) ⊎ (completion_slot geometry.mediator lane d.posted + i + 1 ≤ from)
      beyond (inl before) = inl (omega (arith, before))
      beyond (inr behind) = inr (omega (arith, behind, within))

  slot-same : (at : ℕ) → at ≢ d.posted → SameBetween host other (completion_slot geometry.mediator lane at) (completion_slot geometry.mediator lane (at + 1))
  slot-same at apart =
      byte-same (completion_slot geometry.mediator lane at) (completion_slot geometry.mediator lane (at + 1))
      (⊎_elim (λ less. inl (omega (arith, less))) (λ most. inr (omega (arith, most, apart))) (cases_lt at d.posted))

  pub lane-elsewhere : (at : ℕ) → (at == lane) ≡ false → SameInLane host other geometry.mediator at
  lane-elsewhere at apart =
      byte-same (lane_start geometry.mediator at) (lane_start geometry.mediator (at + 1)) (by (cases_lt at lane) (cases_eq at lane))
    where
      by : (at < lane) ⊎ (lane ≤ at) → (at ≡ lane) ⊎ (at ≢ lane)
          → (lane_start geometry.mediator (at + 1) ≤ completion_slot geometry.mediator lane d.posted)
          ⊎ (completion_slot geometry.mediator lane d.posted + 16 ≤ lane_start geometry.mediator at)
      by (inl less) any = inl (omega (arith, less))
      by (inr most) (inl same) = absurd (eqb-false at lane apart same)
      by (inr most) (inr differ) = inr (omega (arith, most, differ, posted_below))

  undisturbed : (tag head : ℕ) (t : Tag) → tag < tag_count → head < ring_size → IsUndisturbed geometry.mediator lane tag host other head head d d t
  undisturbed tag head t tag_below head_below =
      record {
        pages = byte-same (list_page geometry.mediator lane tag) (list_page geometry.mediator lane (tag + 1)) (inr (omega (arith, posted_below)));
        queued = (λ at stands between. (
          between,
          (let below = between.slot in
              byte-same (submission_slot geometry.mediator lane at) (submission_slot geometry.mediator lane (at + 1)) (inl (omega (arith, below)))),
        ));
        answered = (λ at stands between. (
          between,
          slot-same at (λ same. between-end head d.posted head_below posted_below (subst (IsBetween head d.posted) same between)),
        ));
      }

  pub lane-answered : (l : Lane) → geometry.mediator % page ≡ 0 → IsLane geometry lane host l d → IsLane geometry lane other l d
  lane-answered l aligned is =
      let sized = is.positions.tags in
      record {
        positions = is.positions;
        tags = (λ tag t held at there.
            (let below = slice_get-below l.tags tag t at in
            tag-kept geometry lane tag host other aligned l.head l.head d d held t
            (undisturbed tag l.head t (omega (arith, below, sized)) is.positions.read) (is.tags tag t held at there)));
        queued = is.queued;
        answered = is.answered;
        queued_count = is.queued_count;
        answered_count = is.answered_count;
      }

  slot-phase : (at : ℕ) → at ≢ d.posted → phase_at geometry host lane at ≡ phase_at geometry other lane at
  slot-phase at apart =
      phase-same geometry host other lane at (completion_slot geometry.mediator lane at) (completion_slot geometry.mediator lane (at + 1)) (slot-same at apart)
      (omega arith) (omega arith)

  -- the slot has the phase tag of the pass before still
  pub phased-answered : (head : ℕ) (wanted : Bool) → phase_at geometry other lane d.posted ≡ bit (not d.phase)
      → IsPhased geometry host lane head wanted d.posted d.phase → IsPhased geometry other lane head wanted d.posted d.phase
  phased-answered head wanted here is =
      record {
        wants = is.wants;
        written = (λ at less. sym (slot-phase at (λ same. absurd (omega (arith, same, less)))) ∙ is.written at less);
        earlier = (λ at most last. earlier at most last (cases_eq at d.posted));
      }
    where
      earlier : (at : ℕ) → d.posted ≤ at → at < ring_size → (at ≡ d.posted) ⊎ (at ≢ d.posted) → phase_at geometry other lane at ≡ bit (not d.phase)
      earlier at most last (inl same) = subst (λ n. phase_at geometry other lane n ≡ bit (not d.phase)) (sym same) here
      earlier at most last (inr differ) = sym (slot-phase at differ) ∙ is.earlier at most last

  -- it has that of this pass, and the drive goes on to the next
  pub phased-posted : (head : ℕ) (wanted : Bool) → head < ring_size → far head d.posted < 64 → phase_at geometry other lane d.posted ≡ bit d.phase
      → IsPhased geometry host lane head wanted d.posted d.phase
      → IsPhased geometry other lane head wanted (next_slot ring_size d.posted) (next_phase d.posted d.phase)
  phased-posted head wanted low room here is =
      record {
        wants = is.wants ∙ wanted-posted head d.posted d.phase low posted_below room;
        written = (λ at less. written at less (cases_lt d.posted 64) (cases_eq at d.posted));
        earlier = (λ at most last. earlier at most last (cases_lt d.posted 64) (cases_eq at d.posted));
      }
    where
      written : (at : ℕ) → at < next_slot ring_size d.posted → (d.posted < 64) ⊎ (64 ≤ d.posted) → (at ≡ d.posted) ⊎ (at ≢ d.posted)
          → phase_at geometry other lane at ≡ bit (next_phase d.posted d.phase)
      written at less (inl inside) (inl same) =
          subst (λ n. phase_at geometry other lane n ≡ bit (next_phase d.posted d.phase)) (sym same) (here ∙ ap bit (sym (next-within d.posted d.phase inside)))
      written at less (inl inside) (inr differ) =
          sym (slot-phase at differ) ∙ is.written at (omega (arith, less, inside, differ)) ∙ ap bit (sym (next-within d.posted d.phase inside))
      written at less (inr last) any = absurd (omega (arith, less, last, posted_below))

      earlier : (at : ℕ) → next_slot ring_size d.posted ≤ at → at < ring_size → (d.posted < 64) ⊎ (64 ≤ d.posted) → (at ≡ d.posted) ⊎ (at ≢ d.posted)
          → phase_at geometry other lane at ≡ bit (not (next_phase d.posted d.phase))
      earlier at most last (inl inside) (inl same) = absurd (omega (arith, most, inside, same))
      earlier at most last (inl inside) (inr differ) =
          sym (slot-phase at differ) ∙ is.earlier at (omega (arith, most, inside)) last ∙ ap (λ p. bit (not p)) (sym (next-within d.posted d.phase inside))
      earlier at most last (inr full) (inl same) =
          subst (λ n. phase_at geometry other lane n ≡ bit (not (next_phase d.posted d.phase))) (sym same)
          (here ∙ ap bit (sym (ap not (next-last d.posted d.phase (omega (arith, full, posted_below))) ∙ not-not d.phase)))
      earlier at most last (inr full) (inr differ) =
          sym (slot-phase at differ) ∙ is.written at (omega (arith, last, full, differ, posted_below))
          ∙ ap bit (sym (ap not (next-last d.posted d.phase (omega (arith, full, posted_below))) ∙ not-not d.phase))

-- ---- a completion that is there is posted

module _ (geometry : Geometry) (lane : ℕ) (host : ℕ → ℕ) (l : Lane) (d : DeviceLane) (aligned : geometry.mediator % page ≡ 0) (is : IsLane geometry lane host l d)
    (tag : ℕ) (command : Command) (share : Share) (h : Held) (at : slice_get l.tags tag ≡ Some (Flying command share InDevice))
    (there : slice_get d.held tag ≡ Some (Some h)) where
  abbrev now : DeviceLane
  now = completion_posted tag d

  -- there is room for it
  pub room-there : far l.head d.posted < 64
  room-there =
      let waiting = count-fewer (tag_stands waits_for_mediator) l.tags tag (Flying command share InDevice) at refl in
      let many = is.answered_count in
      let tags = is.positions.tags in
      omega (arith, waiting, many, tags)

  others : (tag' : ℕ) (t : Tag) → IsUndisturbed geometry.mediator lane tag' host host l.head l.head d now t
  others tag' t =
      record {
        pages = λ a low high. refl;
        queued = λ place stands between. (between, λ a low high. refl);
        answered = λ place stands between. (between-more l.head d.posted place is.positions.read is.positions.posted room-there between, λ a low high. refl);
      }

  answers : (place : ℕ) → IsBetween l.head (next_slot ring_size d.posted) place → (place ≡ d.posted) ⊎ (place ≢ d.posted)
      → SomeStands (is_answered_at place) (set l.tags tag (Flying command share (Answered d.posted)))
  answers place between (inl same) =
      record {
        tag = tag;
        there = Flying command share (Answered d.posted);
        is = slice_get-set l.tags tag (Flying command share InDevice) (Flying command share (Answered d.posted)) at;
        stands = eq-eqb d.posted place (sym same);
      }
  answers place between (inr differ) =
      stands-kept (is_answered_at place) l.tags tag (Flying command share InDevice) (Flying command share (Answered d.posted)) at refl
      (is.answered place (between-new l.head d.posted place is.positions.read is.positions.posted room-there between differ))

  pub lane-posted : completed_cid (bytes_from host (completion_slot geometry.mediator lane d.posted) cqe_size) ≡ tag
      → sqid_of (bytes_from host (completion_slot geometry.mediator lane d.posted) cqe_size) ≡ queue_pair lane
      → IsLane geometry lane host (tag_changed tag (Flying command share (Answered d.posted)) l) (completion_posted tag d)
  lane-posted names queue =
      let room = room-there in
      let was = is.tags tag (Flying command share InDevice) (Some h) at there in
      let own : IsTag geometry lane tag host l.head now None (Flying command share (Answered d.posted)) =
      record {
        guest = was.guest;
        is = was.is;
        planned = was.planned;
        some = was.some;
        stands = (record { slot = between-tail l.head d.posted is.positions.read is.positions.posted room; identifier = names; queue = queue }, refl);
      } in
      record {
        positions = record {
          head = is.positions.head;
          tail = is.positions.tail;
          posted = next-below d.posted is.positions.posted;
          read = is.positions.read;
          tags = length-set l.tags tag (Flying command share (Answered d.posted)) ∙ is.positions.tags;
          held = length-set d.held tag None ∙ is.positions.held;
        };
        tags =
            tags-with (λ n o x. IsTag geometry lane n host l.head now o x) l.tags d.held tag (Flying command share (Answered d.posted)) None own
            (λ n x o apart here under. tag-kept geometry lane n host host aligned l.head l.head d now o x (others n x) (is.tags n x o here under));
        queued = (λ place between.
            stands-kept (is_queued_at place) l.tags tag (Flying command share InDevice) (Flying command share (Answered d.posted)) at refl (is.queued place between));
        answered = (λ place between. answers place between (cases_eq place d.posted));
        queued_count = count-kept waits_for_device l.tags tag (Flying command share InDevice) (Flying command share (Answered d.posted)) at refl ∙ is.queued_count;
        answered_count =
            (let changed = count-set (tag_stands waits_for_mediator) l.tags tag (Flying command share InDevice) (Flying command share (Answered d.posted)) at in
            let further = far-more l.head d.posted is.positions.read is.positions.posted room in
            let many = is.answered_count in
            omega (arith, changed, further, many));
      }
