-- A command in the device is answered: its completion waits in the slot that is written next.
use Rattle.std.proofs.Common.{◌≡◌, ℕ, ◌+◌, ◌%◌, ◌^◌, ◌<◌, ◌≤◌, ◌⊎◌, inl, inr, Bool, false, ◌==◌, List}
use Rattle.std.proofs.Common.{[], ◌∷◌, length, set, slice_get, Option, Some, None, arith, refl, sym, ap, ◌∙◌, eq-eqb, subst}
use Rattle.std.specs.Prelude.{◌≢◌}
use Rattle.std.proofs.lemmas.Bool.{cases_eq, cases_lt, eqb-false}
use Rattle.nv_entry.specs.Completion.{cid_of as completed_cid, completion, sqid_of}
use Rattle.nv_entry.specs.Layout.{bits, bytes_of_dwords, dword, number_at}
use Rattle.nv_entry.specs.Status.{StatusField}
use Rattle.nv_entry.proofs.CompletionLemmas.{length-completion}
use Rattle.nv_model.specs.Limits.{page}
use Rattle.nv_model.specs.Memory.{bytes_from, stored}
use Rattle.nv_model.specs.Queue.{cqe_size, next_slot}
use Rattle.nv_model.proofs.MemoryLemmas.{bytes_from-stored}
use Rattle.nv_world_model.specs.Area.{completion_slot, lane_start, list_page, queue_pair, ring_size, submission_slot, tag_count}
use Rattle.nv_world_model.specs.Contained.{is_answered_at, is_queued_at, tag_stands}
use Rattle.nv_world_model.specs.Device.{DeviceLane, Held, completion_posted, completion_written, held_status, next_phase}
use Rattle.nv_world_model.specs.Geometry.{Geometry}
use Rattle.nv_world_model.specs.Share.{Share}
use Rattle.nv_world_model.specs.Step.{device_fail, device_post, device_posted, is_success, step}
use Rattle.nv_world_model.specs.declared.event.Event.TheVariants as event
use Rattle.nv_world_model.specs.World.{Answered, Command, Flying, InDevice, Lane, Tag, World, tag_changed}
use Rattle.nv_world_model.proofs.Seats.{slice_get-set}
use Rattle.nv_laws_sound.specs.Area.{SameBetween, SameInLane}
use Rattle.nv_laws_sound.specs.Consistent.{IsBetween, IsConsistentOfTags, IsLane, IsTag, SomeStands, waits_for_device, waits_for_mediator}
use Rattle.nv_laws_sound.specs.LaidOut.{IsLaidOut}
use Rattle.nv_laws_sound.proofs.Changes.{world-lane}
use Rattle.nv_laws_sound.proofs.Lists.{count-fewer, count-set, length-set, slice_get-below, slice_get-there}
use Rattle.nv_laws_sound.proofs.MoveEvents.{held-flies}
use Rattle.nv_laws_sound.proofs.Retags.{count-kept, stands-is, stands-kept, tags-with}
use Rattle.nv_laws_sound.proofs.Rings.{between-end, between-more, between-new, between-tail, far, far-more, next-below}
use Rattle.nv_laws_sound.proofs.Shows.{same-stored}
use Rattle.nv_laws_sound.proofs.TagsKept.{IsUndisturbed, tag-kept}
use Rattle.nv_laws_sound.proofs.Walks.{device-walk, either, held-walk}

-- the identifier of a completion is read back, whatever its status
pub completion-cid : (dw0 sqhd sqid cid : ℕ) (phase : Bool) (st : StatusField) → cid < 2 ^ 16
    → completed_cid (completion dw0 sqhd sqid cid phase st) ≡ cid
unfolding completion bits dword number_at bytes_of_dwords
completion-cid dw0 sqhd sqid cid phase st below = omega arith

-- and so is that of its submission queue
pub completion-sqid : (dw0 sqhd sqid cid : ℕ) (phase : Bool) (st : StatusField) → sqhd < 2 ^ 16 → sqid < 2 ^ 16
    → sqid_of (completion dw0 sqhd sqid cid phase st) ≡ sqid
unfolding completion bits dword number_at bytes_of_dwords
completion-sqid dw0 sqhd sqid cid phase st head below = omega arith

-- ---- the completion in its slot

module _ (geometry : Geometry) (lanes lane : ℕ) (host : ℕ → ℕ) (d : DeviceLane) (bytes : List ℕ) (sized : length bytes ≡ cqe_size)
    (below : lane < lanes) (posted_below : d.posted < ring_size) where
  -- no other byte of the area changes
  pub written-same : (from to : ℕ) → (to ≤ completion_slot geometry.mediator lane d.posted) ⊎ (completion_slot geometry.mediator lane (d.posted + 1) ≤ from)
      → SameBetween host (stored host (completion_slot geometry.mediator lane d.posted) bytes) from to
  written-same from to away = same-stored host from to (completion_slot geometry.mediator lane d.posted) bytes (beyond away)
    where
      beyond : (to ≤ completion_slot geometry.mediator lane d.posted) ⊎ (completion_slot geometry.mediator lane (d.posted + 1) ≤ from)
          → (to ≤ completion_slot geometry.mediator lane d.posted) ⊎ (completion_slot geometry.mediator lane d.posted + length bytes ≤ from)
      beyond (inl before) = inl before
      beyond (inr behind) = inr (omega (arith, behind, sized))

  -- no other lane does
  pub written-elsewhere : (at : ℕ) → (at == lane) ≡ false → at < lanes
      → SameInLane host (stored host (completion_slot geometry.mediator lane d.posted) bytes) geometry.mediator at
  written-elsewhere at apart at_below =
      written-same (lane_start geometry.mediator at) (lane_start geometry.mediator (at + 1)) (by_order (cases_lt at lane) (cases_eq at lane))
    where
      by_order : (at < lane) ⊎ (lane ≤ at) → (at ≡ lane) ⊎ (at ≢ lane)
          → (lane_start geometry.mediator (at + 1) ≤ completion_slot geometry.mediator lane d.posted)
          ⊎ (completion_slot geometry.mediator lane (d.posted + 1) ≤ lane_start geometry.mediator at)
      by_order (inl less) any = inl (omega (arith, less))
      by_order (inr most) (inl same) = absurd (eqb-false at lane apart same)
      by_order (inr most) (inr differ) = inr (omega (arith, most, differ, posted_below))

  -- a tag that does not stand in that slot is undisturbed
  pub answer-undisturbed : (tag head : ℕ) (helds : List (Option Held)) (phase : Bool) (t : Tag) → tag < tag_count → head < ring_size → d.head < ring_size
      → d.tail < ring_size → far head d.posted < 64
      → IsUndisturbed geometry.mediator lane tag host (stored host (completion_slot geometry.mediator lane d.posted) bytes) head head d
      (record d { posted = next_slot ring_size d.posted; phase = phase; held = helds }) t
  answer-undisturbed tag head helds phase t tag_below head_below low high room =
      record {
        pages = written-same (list_page geometry.mediator lane tag) (list_page geometry.mediator lane (tag + 1)) (inr (omega (arith, posted_below)));
        queued = (λ at stands between. (
          between,
          (let slot = between.slot in
              written-same (submission_slot geometry.mediator lane at) (submission_slot geometry.mediator lane (at + 1)) (inl (omega (arith, slot)))),
        ));
        answered = (λ at stands between. (
          between-more head d.posted at head_below posted_below room between,
          written-same (completion_slot geometry.mediator lane at) (completion_slot geometry.mediator lane (at + 1)) (by_slot at between (cases_lt at d.posted) (cases_eq at d.posted)),
        ));
      }
    where
      by_slot : (at : ℕ) → IsBetween head d.posted at → (at < d.posted) ⊎ (d.posted ≤ at) → (at ≡ d.posted) ⊎ (at ≢ d.posted)
          → (completion_slot geometry.mediator lane (at + 1) ≤ completion_slot geometry.mediator lane d.posted)
          ⊎ (completion_slot geometry.mediator lane (d.posted + 1) ≤ completion_slot geometry.mediator lane at)
      by_slot at between (inl less) any = inl (omega (arith, less))
      by_slot at between (inr most) (inl same) = absurd (between-end head d.posted head_below posted_below (subst (IsBetween head d.posted) same between))
      by_slot at between (inr most) (inr differ) = inr (omega (arith, most, differ))

-- ---- the lane

answered-lane : (geometry : Geometry) (lanes lane tag : ℕ) (host : ℕ → ℕ) (st : StatusField) (l : Lane) (d : DeviceLane) (h : Held) (command : Command) (share : Share)
    → geometry.mediator % page ≡ 0 → lane < lanes → lanes ≤ 8 → IsLane geometry lane host l d
    → slice_get l.tags tag ≡ Some (Flying command share InDevice) → slice_get d.held tag ≡ Some (Some h)
    → IsLane geometry lane (stored host (completion_slot geometry.mediator lane d.posted) (completion 0 d.head (queue_pair lane) tag d.phase st))
    (tag_changed tag (Flying command share (Answered d.posted)) l) (completion_posted tag d)
answered-lane geometry lanes lane tag host st l d h command share aligned below few is at there =
    let tags = is.positions.tags in
    let first = is.positions.head in
    let among = slice_get-below l.tags tag (Flying command share InDevice) at in
    let tag_below : tag < tag_count = omega (arith, tags, among) in
    let waiting = count-fewer (tag_stands waits_for_mediator) l.tags tag (Flying command share InDevice) at refl in
    let many = is.answered_count in
    let room : far l.head d.posted < 64 = omega (arith, waiting, many, tags) in
    let bytes = completion 0 d.head (queue_pair lane) tag d.phase st in
    let sized = length-completion 0 d.head (queue_pair lane) tag d.phase st in
    let slot = completion_slot geometry.mediator lane d.posted in
    let memory = stored host slot bytes in
    let now = completion_posted tag d in
    let shown : bytes_from memory slot cqe_size ≡ bytes = subst (λ n. bytes_from memory slot n ≡ bytes) sized (bytes_from-stored host slot bytes) in
    let was = is.tags tag (Flying command share InDevice) (Some h) at there in
    let own : IsTag geometry lane tag memory l.head now None (Flying command share (Answered d.posted)) =
    record {
      guest = was.guest;
      is = was.is;
      planned = was.planned;
      some = was.some;
      stands = (
        record {
          slot = between-tail l.head d.posted is.positions.read is.positions.posted room;
          identifier = ap completed_cid shown ∙ completion-cid 0 d.head (queue_pair lane) tag d.phase st (omega (arith, tag_below));
          queue = ap sqid_of shown ∙ completion-sqid 0 d.head (queue_pair lane) tag d.phase st (omega (arith, first)) (omega (arith, below, few));
        },
        refl,
      );
    } in
    record {
      positions = record {
        head = is.positions.head;
        tail = is.positions.tail;
        posted = next-below d.posted is.positions.posted;
        read = is.positions.read;
        tags = length-set l.tags tag (Flying command share (Answered d.posted)) ∙ is.positions.tags;
        held = length-set d.held tag None ∙ is.positions.held;
      };
      tags = tags-with (λ other o x. IsTag geometry lane other memory l.head now o x) l.tags d.held tag (Flying command share (Answered d.posted)) None own
          (λ other x o apart here under.
          (let other_among = slice_get-below l.tags other x here in
          tag-kept geometry lane other host memory aligned l.head l.head d now o x
          (answer-undisturbed geometry lanes lane host d bytes sized below is.positions.posted other l.head (set d.held tag None) (next_phase d.posted d.phase) x
          (omega (arith, tags, other_among)) is.positions.read is.positions.head is.positions.tail room)
          (is.tags other x o here under)));
      queued = (λ place between. stands-kept (is_queued_at place) l.tags tag (Flying command share InDevice) (Flying command share (Answered d.posted)) at refl (is.queued place between));
      answered = (λ place between. answers place between (cases_eq place d.posted) room);
      queued_count = count-kept waits_for_device l.tags tag (Flying command share InDevice) (Flying command share (Answered d.posted)) at refl ∙ is.queued_count;
      answered_count =
          (let changed = count-set (tag_stands waits_for_mediator) l.tags tag (Flying command share InDevice) (Flying command share (Answered d.posted)) at in
          let further = far-more l.head d.posted is.positions.read is.positions.posted room in
          omega (arith, changed, further, many));
    }
  where
    answers : (place : ℕ) → IsBetween l.head (next_slot ring_size d.posted) place → (place ≡ d.posted) ⊎ (place ≢ d.posted) → far l.head d.posted < 64
        → SomeStands (is_answered_at place) (set l.tags tag (Flying command share (Answered d.posted)))
    answers place between (inl same) room =
        record {
          tag = tag;
          there = Flying command share (Answered d.posted);
          is = slice_get-set l.tags tag (Flying command share InDevice) (Flying command share (Answered d.posted)) at;
          stands = eq-eqb d.posted place (sym same);
        }
    answers place between (inr differ) room =
        stands-kept (is_answered_at place) l.tags tag (Flying command share InDevice) (Flying command share (Answered d.posted)) at refl
        (is.answered place (between-new l.head d.posted place is.positions.read is.positions.posted room between differ))

-- ---- the events

module _ (host_bytes : ℕ) (geometry : Geometry) where
  device_posted-consistent : (w : World) (lane tag : ℕ) (st : StatusField) (l : Lane) (d : DeviceLane) (h : Held) (t : Tag)
      → IsLaidOut host_bytes (length w.lanes) geometry → IsConsistentOfTags geometry w
      → slice_get w.lanes lane ≡ Some l → slice_get w.device lane ≡ Some d → slice_get l.tags tag ≡ Some t → slice_get d.held tag ≡ Some (Some h)
      → IsConsistentOfTags geometry (device_posted geometry.mediator lane tag st d w)
  unfolding device_posted completion_written
  device_posted-consistent w lane tag st l d h t laid is at there found held =
      let before = is.lanes lane l d at there in
      let below = slice_get-below w.lanes lane l at in
      let holds = held-flies geometry lane tag w.host l.head d h t (before.tags tag t (Some h) found held) in
      let flies : slice_get l.tags tag ≡ Some (Flying holds.command holds.share InDevice) = found ∙ ap (λ x. Some x) holds.flies in
      let bytes = completion 0 d.head (queue_pair lane) tag d.phase st in
      let memory = stored w.host (completion_slot geometry.mediator lane d.posted) bytes in
      let behind = answered-lane geometry (length w.lanes) lane tag w.host st l d h holds.command holds.share laid.pages below laid.few_lanes before flies held in
      subst (IsConsistentOfTags geometry)
      (sym (stands-is w lane tag l d holds.command holds.share InDevice (Answered d.posted) memory (completion_posted tag) at there flies))
      (world-lane geometry w lane memory (tag_changed tag (Flying holds.command holds.share (Answered d.posted)) l) (completion_posted tag d) laid.pages
      (written-elsewhere geometry (length w.lanes) lane w.host d bytes (length-completion 0 d.head (queue_pair lane) tag d.phase st) below before.positions.posted) behind is)

  -- where the device holds a command
  held-posted : (w : World) (lane slot : ℕ) (st : StatusField) (d : DeviceLane) (h : Held) → IsLaidOut host_bytes (length w.lanes) geometry
      → IsConsistentOfTags geometry w → slice_get w.device lane ≡ Some d → slice_get d.held slot ≡ Some (Some h)
      → IsConsistentOfTags geometry (device_posted geometry.mediator lane slot st d w)
  held-posted w lane slot st d h laid is there held =
      let among = slice_get-below w.device lane d there in
      let sides = is.sides in
      let l = slice_get-there w.lanes lane (omega (arith, among, sides)) in
      let before = is.lanes lane l.0 d l.1 there in
      let tags = before.positions.tags in
      let sized = before.positions.held in
      let under = slice_get-below d.held slot (Some h) held in
      let t = slice_get-there l.0.tags slot (omega (arith, tags, sized, under)) in
      device_posted-consistent w lane slot st l.0 d h t.0 laid is l.1 there t.1 held

  post-left : (left : List ℕ) (w : World) (lane slot : ℕ) (d : DeviceLane) (h : Held) → IsLaidOut host_bytes (length w.lanes) geometry
      → IsConsistentOfTags geometry w → slice_get w.device lane ≡ Some d → slice_get d.held slot ≡ Some (Some h)
      → IsConsistentOfTags geometry (device_post left geometry.mediator lane slot h d w).world
  post-left [] w lane slot d h laid is there held = held-posted w lane slot (held_status h) d h laid is there held
  post-left (number ∷ left) w lane slot d h laid is there held = is

  pub device_posts-consistent : (w : World) (lane slot : ℕ) → IsLaidOut host_bytes (length w.lanes) geometry → IsConsistentOfTags geometry w
      → IsConsistentOfTags geometry (step geometry (event.DevPost lane slot) w).world
  unfolding step
  device_posts-consistent w lane slot laid is =
      device-walk (IsConsistentOfTags geometry) w is (slice_get w.device lane) _ (λ d there.
      held-walk (IsConsistentOfTags geometry) w is (slice_get d.held slot) (λ h. device_post h.left geometry.mediator lane slot h d w) (λ h held.
      post-left h.left w lane slot d h laid is there held))

  pub device_fails-consistent : (w : World) (lane slot : ℕ) (st : StatusField) → IsLaidOut host_bytes (length w.lanes) geometry → IsConsistentOfTags geometry w
      → IsConsistentOfTags geometry (step geometry (event.DevFail lane slot st) w).world
  unfolding step
  device_fails-consistent w lane slot st laid is =
      device-walk (IsConsistentOfTags geometry) w is (slice_get w.device lane) _ (λ d there.
      held-walk (IsConsistentOfTags geometry) w is (slice_get d.held slot) (λ h. device_fail geometry.mediator lane slot st d w) (λ h held.
      either (IsConsistentOfTags geometry) w is (is_success st) _ _ (λ good. is) (λ bad. held-posted w lane slot st d h laid is there held)))
