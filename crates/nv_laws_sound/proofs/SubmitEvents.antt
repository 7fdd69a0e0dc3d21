-- A command is handed on: its list, its source or its ranges, and its physical entry are written, and the doorbell is rung.
use Rattle.std.proofs.Common.{◌≡◌, ℕ, ◌+◌, ◌<◌, ◌≤◌, ◌⊎◌, inl, inr, Bool, true, false, cond, ◌==◌}
use Rattle.std.proofs.Common.{List, length, set, slice_get, Option, Some, None, arith, refl, sym, ap, ◌∙◌, eq-eqb, subst}
use Rattle.std.specs.Prelude.{◌≢◌}
use Rattle.std.proofs.lemmas.Bool.{cases_eq, cases_lt, eqb-false}
use Rattle.nv_entry.specs.StatusCode.{done_with}
use Rattle.nv_entry.specs.declared.status_code.StatusCode.TheVariants.{Success}
use Rattle.nv_mem.specs.Places.{places_of, total_len}
use Rattle.nv_mem.proofs.PlaceLists.{length-places_of}
use Rattle.nv_model.specs.Judge.{Clear, Form, Keep, Manage, Transfer, Work, form_of}
use Rattle.nv_model.specs.Limits.{most_bytes, page}
use Rattle.nv_model.specs.Memory.{image, stored}
use Rattle.nv_model.specs.Queue.{next_slot}
use Rattle.nv_model.specs.Transcript.{ReadDone}
use Rattle.nv_model.proofs.MemoryLemmas.{length-gathered}
use Rattle.nv_world_model.specs.Area.{bounce_page, completion_slot, lane_start, list_bytes, list_page, prps_of, ring_size, submission_slot, tag_count}
use Rattle.nv_world_model.specs.Contained.{is_answered_at, is_queued_at, tag_stands}
use Rattle.nv_world_model.specs.Device.{DeviceLane, Held, rung}
use Rattle.nv_world_model.specs.Geometry.{Geometry, Guest, regions_of}
use Rattle.nv_world_model.specs.Share.{Share}
use Rattle.nv_world_model.specs.ShareArea.{form_own_bytes, own_bytes, share_entry}
use Rattle.nv_world_model.specs.ShareArea.{is_no_command, share_written}
use Rattle.nv_world_model.specs.Seat.{Owner}
use Rattle.nv_world_model.specs.Step.{carried_out, submitted, submitted_on}
use Rattle.nv_world_model.specs.World.{Command, Ended, Flying, Lane, Queued, Tag, Taken, World, changed_at, tag_changed, tag_of, with_device, with_host, with_tag}
use Rattle.nv_world_model.proofs.Seats.{slice_get-set}
use Rattle.nv_laws_sound.specs.Area.{SameBetween, SameInLane, Shows, form_ranges, ranges_of}
use Rattle.nv_laws_sound.specs.Consistent.{HasPages, IsBetween, IsCommand, IsConsistentOfTags, IsLane, IsPlanned, IsTag, SomeStands, waits_for_device, waits_for_mediator}
use Rattle.nv_laws_sound.specs.LaidOut.{IsLaidOut}
use Rattle.nv_laws_sound.proofs.Changes.{world-lane}
use Rattle.nv_laws_sound.proofs.Lists.{count-fewer, count-set, length-set, set-same, slice_get-below, some-same}
use Rattle.nv_laws_sound.proofs.PlanSizes.{entry-length, list-short, own-few, own_work, planned-kinds, ranges-short}
use Rattle.nv_laws_sound.proofs.Retags.{count-kept, is-at, retagged, stands-kept, tag-is, tags-with}
use Rattle.nv_laws_sound.proofs.Rings.{between-end, between-more, between-new, between-tail, far, far-more, next-below}
use Rattle.nv_laws_sound.proofs.Shows.{same-stored, same-then, shows-between, shows-nothing, shows-stored}
use Rattle.nv_laws_sound.proofs.TagsKept.{IsUndisturbed, tag-kept}

-- ---- what is written

-- what stands in the bounce pages fits there
form_bounced-short : (form : Form) (guest : Guest) (host : ℕ → ℕ) (work : Work) → total_len work.pieces ≤ most_bytes
    → length (form_ranges form guest work) ≤ page → length (form_own_bytes form guest.namespace guest host work) ≤ most_bytes
form_bounced-short (Transfer true) guest host work few short = omega arith
form_bounced-short (Transfer false) guest host work few short =
    let bytes = length-gathered (image (regions_of guest) host) (places_of work.pieces) in
    let places = length-places_of work.pieces in
    omega (arith, bytes, places, few)
form_bounced-short Clear guest host work few short = omega arith
form_bounced-short Manage guest host work few short = omega (arith, short)
form_bounced-short Keep guest host work few short = omega arith

bounced-short : (guest : Guest) (entry : List ℕ) (share : Share) (host : ℕ → ℕ) → IsPlanned guest entry share
    → length (own_bytes share.plan guest.namespace guest host) ≤ most_bytes
bounced-short guest entry share host is =
    let own : Work = own_work guest entry share is in
    planned-kinds (λ p. length (ranges_of p guest) ≤ page → length (own_bytes p guest.namespace guest host) ≤ most_bytes) guest entry share is
    (λ _. omega arith) (λ fits _. omega arith) (λ ranges. form_bounced-short (form_of own.opcode) guest host own (own-few guest entry share is) ranges)
    (ranges-short guest entry share is)

-- and the ranges of a Dataset Management are what stands there
form_ranges-shown : (form : Form) (guest : Guest) (host memory : ℕ → ℕ) (work : Work) (at : ℕ) → Shows memory at (form_own_bytes form guest.namespace guest host work)
    → Shows memory at (form_ranges form guest work)
form_ranges-shown (Transfer dest) guest host memory work at shown = shows-nothing memory at
form_ranges-shown Clear guest host memory work at shown = shown
form_ranges-shown Manage guest host memory work at shown = shown
form_ranges-shown Keep guest host memory work at shown = shown

ranges-shown : (guest : Guest) (entry : List ℕ) (share : Share) (host memory : ℕ → ℕ) (at : ℕ) → IsPlanned guest entry share
    → Shows memory at (own_bytes share.plan guest.namespace guest host) → Shows memory at (ranges_of share.plan guest)
ranges-shown guest entry share host memory at is =
    planned-kinds (λ p. Shows memory at (own_bytes p guest.namespace guest host) → Shows memory at (ranges_of p guest)) guest entry share is
    (λ shown. shown) (λ fits shown. shown)
    (λ shown. (let own : Work = own_work guest entry share is in form_ranges-shown (form_of own.opcode) guest host memory own at shown))

module _ (host_bytes lanes : ℕ) (geometry : Geometry) (laid : IsLaidOut host_bytes lanes geometry) (guest : Guest) (entry : List ℕ) (share : Share)
    (is : IsPlanned guest entry share) (lane tag slot : ℕ) (tag_below : tag < tag_count) (slot_below : slot < ring_size) (host : ℕ → ℕ) where
  abbrev list : ℕ
  list = list_page geometry.mediator lane tag

  abbrev bounce : ℕ
  bounce = bounce_page geometry.mediator lane tag

  abbrev at : ℕ
  at = submission_slot geometry.mediator lane slot

  abbrev listed : ℕ → ℕ
  listed = stored host list (list_bytes (prps_of share.plan guest list bounce))

  abbrev bounced : ℕ → ℕ
  bounced = stored listed bounce (own_bytes share.plan guest.namespace guest host)

  abbrev entered : ℕ → ℕ
  entered = stored bounced at (share_entry share guest.namespace guest entry geometry.mediator lane tag)

  few : length (list_bytes (prps_of share.plan guest list bounce)) ≤ 256
  few = let pages = laid.pages in list-short guest entry share list bounce (omega (arith, pages)) is

  -- what is neither in the slot nor in the tag's pages is as it was
  pub entered-same : (from to : ℕ) → (to ≤ at) ⊎ (submission_slot geometry.mediator lane (slot + 1) ≤ from)
      → (to ≤ list) ⊎ (list_page geometry.mediator lane (tag + 1) ≤ from) → SameBetween host entered from to
  entered-same from to off_slot off_pages =
      let sized = entry-length share guest entry geometry.mediator lane tag in
      let short = bounced-short guest entry share host is in
      same-then host listed entered from to (same-stored host from to list (list_bytes (prps_of share.plan guest list bounce)) (off_list off_pages few))
      (same-then listed bounced entered from to (same-stored listed from to bounce (own_bytes share.plan guest.namespace guest host) (off_bounce off_pages short))
      (same-stored bounced from to at (share_entry share guest.namespace guest entry geometry.mediator lane tag) (off_entry off_slot sized)))
    where
      off_list : (to ≤ list) ⊎ (list_page geometry.mediator lane (tag + 1) ≤ from) → length (list_bytes (prps_of share.plan guest list bounce)) ≤ 256
          → (to ≤ list) ⊎ (list + length (list_bytes (prps_of share.plan guest list bounce)) ≤ from)
      off_list (inl before) small = inl before
      off_list (inr behind) small = inr (omega (arith, behind, small))

      off_bounce : (to ≤ list) ⊎ (list_page geometry.mediator lane (tag + 1) ≤ from) → length (own_bytes share.plan guest.namespace guest host) ≤ most_bytes
          → (to ≤ bounce) ⊎ (bounce + length (own_bytes share.plan guest.namespace guest host) ≤ from)
      off_bounce (inl before) small = inl (omega (arith, before))
      off_bounce (inr behind) small = inr (omega (arith, behind, small))

      off_entry : (to ≤ at) ⊎ (submission_slot geometry.mediator lane (slot + 1) ≤ from) → length (share_entry share guest.namespace guest entry geometry.mediator lane tag) ≡ 64
          → (to ≤ at) ⊎ (at + length (share_entry share guest.namespace guest entry geometry.mediator lane tag) ≤ from)
      off_entry (inl before) sized = inl before
      off_entry (inr behind) sized = inr (omega (arith, behind, sized))

  -- the list and the ranges stand in the pages
  pub entered-pages : HasPages geometry guest share lane tag entered
  entered-pages =
      let sized = entry-length share guest entry geometry.mediator lane tag in
      let short = bounced-short guest entry share host is in
      record {
        list =
            shows-between listed entered list bounce list (list_bytes (prps_of share.plan guest list bounce))
            (same-then listed bounced entered list bounce (same-stored listed list bounce bounce (own_bytes share.plan guest.namespace guest host) (inl (omega arith)))
            (same-stored bounced list bounce at (share_entry share guest.namespace guest entry geometry.mediator lane tag) (inr (omega (arith, sized, slot_below)))))
            (omega arith) (omega (arith, few)) (shows-stored host list (list_bytes (prps_of share.plan guest list bounce)));
        ranges =
            ranges-shown guest entry share host entered bounce is
            (shows-between bounced entered bounce (list_page geometry.mediator lane (tag + 1)) bounce (own_bytes share.plan guest.namespace guest host)
            (same-stored bounced bounce (list_page geometry.mediator lane (tag + 1)) at
            (share_entry share guest.namespace guest entry geometry.mediator lane tag) (inr (omega (arith, sized, slot_below))))
            (omega arith) (omega (arith, short)) (shows-stored listed bounce (own_bytes share.plan guest.namespace guest host)));
      }

  -- the entry stands in its slot
  pub entered-entry : Shows entered at (share_entry share guest.namespace guest entry geometry.mediator lane tag)
  entered-entry = shows-stored bounced at (share_entry share guest.namespace guest entry geometry.mediator lane tag)

  -- no other lane has changed
  pub entered-elsewhere : (other : ℕ) → (other == lane) ≡ false → SameInLane host entered geometry.mediator other
  entered-elsewhere other apart =
      entered-same (lane_start geometry.mediator other) (lane_start geometry.mediator (other + 1)) (off_slot (cases_lt other lane) (cases_eq other lane))
      (off_pages (cases_lt other lane) (cases_eq other lane))
    where
      off_slot : (other < lane) ⊎ (lane ≤ other) → (other ≡ lane) ⊎ (other ≢ lane)
          → (lane_start geometry.mediator (other + 1) ≤ at) ⊎ (submission_slot geometry.mediator lane (slot + 1) ≤ lane_start geometry.mediator other)
      off_slot (inl less) any = inl (omega (arith, less))
      off_slot (inr most) (inl same) = absurd (eqb-false other lane apart same)
      off_slot (inr most) (inr differ) = inr (omega (arith, most, differ, slot_below))

      off_pages : (other < lane) ⊎ (lane ≤ other) → (other ≡ lane) ⊎ (other ≢ lane)
          → (lane_start geometry.mediator (other + 1) ≤ list) ⊎ (list_page geometry.mediator lane (tag + 1) ≤ lane_start geometry.mediator other)
      off_pages (inl less) any = inl (omega (arith, less))
      off_pages (inr most) (inl same) = absurd (eqb-false other lane apart same)
      off_pages (inr most) (inr differ) = inr (omega (arith, most, differ, tag_below))

  -- a tag that does not stand in that slot is undisturbed
  pub entered-undisturbed : (other head : ℕ) (d : DeviceLane) (t : Tag) → (other == tag) ≡ false → other < tag_count → slot ≡ d.tail
      → d.head < ring_size → d.tail < ring_size → far d.head d.tail < 64
      → IsUndisturbed geometry.mediator lane other host entered head head d (rung d) t
  entered-undisturbed other head d t apart other_below here low high room =
      record {
        pages =
            entered-same (list_page geometry.mediator lane other) (list_page geometry.mediator lane (other + 1))
            (inr (omega (arith, slot_below))) (off_pages (cases_lt other tag) (cases_eq other tag));
        queued = (λ place stands between. (
          between-more d.head d.tail place low high room between,
          entered-same (submission_slot geometry.mediator lane place) (submission_slot geometry.mediator lane (place + 1)) (off_slot place between (cases_lt place slot) (cases_eq place slot))
              (inl (let within = between.slot in omega (arith, within))),
        ));
        answered = (λ place stands between. (
          between,
          (let within = between.slot in
              entered-same (completion_slot geometry.mediator lane place) (completion_slot geometry.mediator lane (place + 1)) (inr (omega (arith, slot_below))) (inl (omega (arith, within)))),
        ));
      }
    where
      off_pages : (other < tag) ⊎ (tag ≤ other) → (other ≡ tag) ⊎ (other ≢ tag)
          → (list_page geometry.mediator lane (other + 1) ≤ list) ⊎ (list_page geometry.mediator lane (tag + 1) ≤ list_page geometry.mediator lane other)
      off_pages (inl less) any = inl (omega (arith, less))
      off_pages (inr most) (inl same) = absurd (eqb-false other tag apart same)
      off_pages (inr most) (inr differ) = inr (omega (arith, most, differ))

      off_slot : (place : ℕ) → IsBetween d.head d.tail place → (place < slot) ⊎ (slot ≤ place) → (place ≡ slot) ⊎ (place ≢ slot)
          → (submission_slot geometry.mediator lane (place + 1) ≤ at) ⊎ (submission_slot geometry.mediator lane (slot + 1) ≤ submission_slot geometry.mediator lane place)
      off_slot place between (inl less) any = inl (omega (arith, less))
      off_slot place between (inr most) (inl same) = absurd (between-end d.head d.tail low high (subst (IsBetween d.head d.tail) (same ∙ here) between))
      off_slot place between (inr most) (inr differ) = inr (omega (arith, most, differ))

-- ---- the lane

module _ (host_bytes lanes : ℕ) (geometry : Geometry) (laid : IsLaidOut host_bytes lanes geometry) (lane : ℕ) (host : ℕ → ℕ) (l : Lane)
    (d : DeviceLane) (is : IsLane geometry lane host l d) (tag : ℕ) (command : Command) (reads : List ReadDone) (guest : Guest)
    (whose : IsCommand geometry command guest) (share : Share) (planned : IsPlanned guest command.entry share)
    (some : is_no_command share ≡ false) (at : slice_get l.tags tag ≡ Some (Taken command reads)) (under : slice_get d.held tag ≡ Some None) (tag_below : tag < tag_count) where
  -- the tag behind it
  abbrev pub handed_tag : Tag
  handed_tag = Flying command share (Queued d.tail)

  -- the host behind it
  abbrev pub memory : ℕ → ℕ
  memory = share_written share guest command.entry geometry.mediator lane tag d.tail host

  room : far d.head d.tail < 64
  room =
      let waiting = count-fewer (tag_stands waits_for_device) l.tags tag (Taken command reads) at refl in
      let many = is.queued_count in
      let tags = is.positions.tags in
      omega (arith, waiting, many, tags)

  own-tag : IsTag geometry lane tag memory l.head (rung d) None handed_tag
  unfolding share_written
  own-tag =
      record {
        guest = guest;
        is = whose;
        planned = planned;
        some = some;
        stands = (
          record {
            slot = between-tail d.head d.tail is.positions.head is.positions.tail room;
            shown = entered-entry host_bytes lanes geometry laid guest command.entry share planned lane tag d.tail tag_below is.positions.tail host;
            pages = entered-pages host_bytes lanes geometry laid guest command.entry share planned lane tag d.tail tag_below is.positions.tail host;
          },
          refl,
        );
      }

  other-tag : (other : ℕ) (x : Tag) (o : Option Held) → (other == tag) ≡ false → slice_get l.tags other ≡ Some x → slice_get d.held other ≡ Some o
      → IsTag geometry lane other memory l.head (rung d) o x
  unfolding share_written
  other-tag other x o apart here there =
      let among = slice_get-below l.tags other x here in
      let tags = is.positions.tags in
      tag-kept geometry lane other host memory laid.pages l.head l.head d (rung d) o x
      (entered-undisturbed host_bytes lanes geometry laid guest command.entry share planned lane tag d.tail tag_below is.positions.tail host other l.head d x apart
      (omega (arith, among, tags)) refl is.positions.head is.positions.tail room)
      (is.tags other x o here there)

  entries : (place : ℕ) → IsBetween d.head (next_slot ring_size d.tail) place → (place ≡ d.tail) ⊎ (place ≢ d.tail) → SomeStands (is_queued_at place) (set l.tags tag handed_tag)
  entries place between (inl same) =
      record {
        tag = tag;
        there = handed_tag;
        is = slice_get-set l.tags tag (Taken command reads) handed_tag at;
        stands = eq-eqb d.tail place (sym same);
      }
  entries place between (inr differ) =
      stands-kept (is_queued_at place) l.tags tag (Taken command reads) handed_tag at refl
      (is.queued place (between-new d.head d.tail place is.positions.head is.positions.tail room between differ))

  pub lane-submitted : IsLane geometry lane memory (tag_changed tag handed_tag l) (rung d)
  lane-submitted =
      record {
        positions = record {
          head = is.positions.head;
          tail = next-below d.tail is.positions.tail;
          posted = is.positions.posted;
          read = is.positions.read;
          tags = length-set l.tags tag handed_tag ∙ is.positions.tags;
          held = is.positions.held;
        };
        tags =
            subst (λ helds. (other : ℕ) (x : Tag) (o : Option Held) → slice_get (set l.tags tag handed_tag) other ≡ Some x
            → slice_get helds other ≡ Some o → IsTag geometry lane other memory l.head (rung d) o x)
            (set-same d.held tag None under)
            (tags-with (λ other o x. IsTag geometry lane other memory l.head (rung d) o x) l.tags d.held tag handed_tag None own-tag other-tag);
        queued = (λ place between. entries place between (cases_eq place d.tail));
        answered = (λ place between. stands-kept (is_answered_at place) l.tags tag (Taken command reads) handed_tag at refl (is.answered place between));
        queued_count =
            (let changed = count-set (tag_stands waits_for_device) l.tags tag (Taken command reads) handed_tag at in
            let further = far-more d.head d.tail is.positions.head is.positions.tail room in
            let many = is.queued_count in
            omega (arith, changed, further, many));
        answered_count = count-kept waits_for_mediator l.tags tag (Taken command reads) handed_tag at refl ∙ is.answered_count;
      }

-- ---- the event

-- the world behind it, lane by lane
pub submitted-is : (w : World) (mediator lane tag : ℕ) (command : Command) (share : Share) (o : Owner) (l : Lane) (d : DeviceLane)
    → slice_get w.lanes lane ≡ Some l → slice_get w.device lane ≡ Some d
    → submitted mediator lane tag command share o d w
    ≡ record w {
      host = share_written share o.given command.entry mediator lane tag d.tail w.host;
      lanes = set w.lanes lane (tag_changed tag (Flying command share (Queued d.tail)) l);
      device = set w.device lane (rung d);
    }
unfolding submitted
submitted-is w mediator lane tag command share o l d at there =
    let host = share_written share o.given command.entry mediator lane tag d.tail w.host in
    let z = with_device lane rung (with_host host w) in
    ap (λ x. record z { lanes = changed_at x lane (tag_changed tag (Flying command share (Queued d.tail))) w.lanes }) at
    ∙ ap (λ x. record w { host = host; lanes = set w.lanes lane (tag_changed tag (Flying command share (Queued d.tail)) l); device = changed_at x lane rung w.device }) there

module _ (host_bytes : ℕ) (geometry : Geometry) where
  submitted-consistent : (w : World) (lane tag : ℕ) (command : Command) (reads : List ReadDone) (share : Share) (o : Owner) (d : DeviceLane)
      → IsLaidOut host_bytes (length w.lanes) geometry → IsConsistentOfTags geometry w → tag_of w lane tag ≡ Some (Taken command reads)
      → slice_get geometry.guests command.guest ≡ Some o.given → IsPlanned o.given command.entry share → is_no_command share ≡ false
      → slice_get w.device lane ≡ Some d
      → IsConsistentOfTags geometry (submitted geometry.mediator lane tag command share o d w)
  unfolding share_written
  submitted-consistent w lane tag command reads share o d laid is found given planned some device =
      let a = is-at geometry w lane tag (Taken command reads) is found in
      let taken = tag-is geometry w lane tag (Taken command reads) is a in
      let same : d ≡ a.d = some-same d a.d (sym device ∙ a.at_device) in
      let before = is.lanes lane a.l d a.at_lane device in
      let tags = before.positions.tags in
      let among = slice_get-below a.l.tags tag (Taken command reads) a.at_tag in
      let tag_below : tag < tag_count = omega (arith, tags, among) in
      let held : slice_get d.held tag ≡ Some None = ap (λ x. slice_get x.held tag) same ∙ a.at_held ∙ ap (λ x. Some x) taken.not_held in
      let whose : IsCommand geometry command o.given = record { given = given; bytes = taken.is.bytes } in
      let behind = lane-submitted host_bytes (length w.lanes) geometry laid lane w.host a.l d before tag command reads o.given whose share planned some a.at_tag held tag_below in
      subst (IsConsistentOfTags geometry) (sym (submitted-is w geometry.mediator lane tag command share o a.l d a.at_lane device))
      (world-lane geometry w lane (share_written share o.given command.entry geometry.mediator lane tag d.tail w.host) (tag_changed tag (Flying command share (Queued d.tail)) a.l) (rung d) laid.pages
      (λ other apart below. entered-elsewhere host_bytes (length w.lanes) geometry laid o.given command.entry share planned lane tag d.tail tag_below before.positions.tail w.host other apart)
      behind is)

  -- a share is carried out in its tag
  pub carried_out-consistent : (w : World) (lane tag : ℕ) (command : Command) (reads : List ReadDone) (share : Share) (o : Owner)
      → IsLaidOut host_bytes (length w.lanes) geometry → IsConsistentOfTags geometry w → tag_of w lane tag ≡ Some (Taken command reads)
      → slice_get geometry.guests command.guest ≡ Some o.given → IsPlanned o.given command.entry share
      → IsConsistentOfTags geometry (carried_out geometry.mediator lane tag command share o w)
  carried_out-consistent w lane tag command reads share o laid is found given planned = by (is_no_command share) refl
    where
      handed : (x : Option DeviceLane) → slice_get w.device lane ≡ x → is_no_command share ≡ false
          → IsConsistentOfTags geometry (submitted_on x geometry.mediator lane tag command share o w)
      handed None device some = is
      handed (Some d) device some = submitted-consistent w lane tag command reads share o d laid is found given planned some device

      ended : IsConsistentOfTags geometry (with_tag lane tag (Ended command (done_with Success) (Some share)) w)
      ended =
          let a = is-at geometry w lane tag (Taken command reads) is found in
          let taken = tag-is geometry w lane tag (Taken command reads) is a in
          retagged geometry lane tag w (Taken command reads) (Ended command (done_with Success) (Some share)) laid.pages is a (λ test. refl) (λ test. refl)
          (record { guest = o.given; is = record { given = given; bytes = taken.is.bytes }; planned = planned; not_held = taken.not_held })

      by : (b : Bool) → is_no_command share ≡ b
          → IsConsistentOfTags geometry (cond b (with_tag lane tag (Ended command (done_with Success) (Some share)) w)
          (submitted_on (slice_get w.device lane) geometry.mediator lane tag command share o w))
      by true none = ended
      by false some = handed (slice_get w.device lane) refl some
