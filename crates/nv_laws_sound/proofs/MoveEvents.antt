-- A unit of a command in the device moves: its bytes go to its guest's memory or to its own bounce pages, and no others change.
use Rattle.std.proofs.Common.{◌≡◌, ℕ, ◌+◌, ◌%◌, ◌<◌, ◌≤◌, ◌⊎◌, inl, inr, Bool, true, false, not, ◌==◌}
use Rattle.std.proofs.Common.{List, [], All, length, set, slice_get, Option, Some, None, arith, refl, sym, ap, ◌∙◌, subst}
use Rattle.std.specs.Prelude.{◌≢◌}
use Rattle.std.specs.List.{list_any}
use Rattle.std.proofs.lemmas.Bool.{cases_eq, cases_lt, eqb-false}
use Rattle.std.proofs.lemmas.List.Elements.{All-filter}
use Rattle.nv_entry.specs.Opcode.{io_opcode}
use Rattle.nv_entry.specs.Submission.{opcode_of}
use Rattle.nv_entry.specs.declared.opcode.IoOpcode.{IoOpcode}
use Rattle.nv_mem.specs.GuestMap.{guest_of, mapped}
use Rattle.nv_mem.specs.Places.{At, places_of}
use Rattle.nv_model.specs.Carried.{block_work}
use Rattle.nv_model.specs.Judge.{Clear, Form, Keep, Manage, Transfer, Work, form_is_read, form_of, is_read}
use Rattle.nv_model.specs.Laws.{IsAnother}
use Rattle.nv_model.specs.Limits.{most_bytes}
use Rattle.nv_model.specs.Private.{Moved}
use Rattle.nv_model.proofs.AnyAnswers.{end-sound}
use Rattle.nv_model.proofs.UnitsElsewhere.{units-memory, units-memory_at}
use Rattle.nv_world_model.specs.declared.event.Event.TheVariants as event
use Rattle.nv_world_model.specs.Area.{bounce_page, completion_slot, lane_start, list_bytes, list_page, prps_of, submission_slot, tag_count}
use Rattle.nv_world_model.specs.Device.{DeviceLane, Held, device_unit, form_moves, moved_by, unit_count, unit_gone, with_held}
use Rattle.nv_world_model.specs.Geometry.{Geometry, Guest, regions_of, shape_of}
use Rattle.nv_world_model.specs.Share.{Share}
use Rattle.nv_world_model.specs.ShareArea.{share_entry}
use Rattle.nv_world_model.specs.ShareArea.{is_no_command}
use Rattle.nv_world_model.specs.Step.{device_move, device_moved, step}
use Rattle.nv_world_model.specs.World.{Answered, Command, Ended, Flying, Free, InDevice, Lane, Queued, Tag, Taken, World, changed_at}
use Rattle.nv_laws_sound.specs.Area.{SameBetween, SameInLane, Shows, ranges_of, form_ranges}
use Rattle.nv_laws_sound.specs.Consistent.{HasPages, IsCommand, IsConsistentOfTags, IsInDevice, IsLane, IsPlanned, IsTag}
use Rattle.nv_laws_sound.specs.LaidOut.{IsLaidOut}
use Rattle.nv_laws_sound.proofs.Changes.{world-lane}
use Rattle.nv_laws_sound.proofs.EntryFields.{entry-opcode}
use Rattle.nv_laws_sound.proofs.Lists.{length-set, set-same, slice_get-below, slice_get-there}
use Rattle.nv_laws_sound.proofs.Named.{addresses-apart}
use Rattle.nv_laws_sound.proofs.OwnWork.{own-of}
use Rattle.nv_laws_sound.proofs.PlanSizes.{list-short, planned-kinds}
use Rattle.nv_laws_sound.proofs.Retags.{tags-with}
use Rattle.nv_laws_sound.proofs.Shows.{shows-between, shows-nothing}
use Rattle.nv_laws_sound.proofs.TagEvents.{blocks-consistent}
use Rattle.nv_laws_sound.proofs.TagsKept.{IsUndisturbed, tag-kept}
use Rattle.nv_laws_sound.proofs.Walks.{device-walk, either, held-walk}

-- ---- the host's memory behind a unit

-- it is as it was at an address that the command does not name
moved_by-apart : (opcode : Option IoOpcode) (number disk_blocks at : ℕ) (h : Held) (m : Moved) → All (IsAnother (At at)) (places_of h.pieces)
    → (moved_by opcode number disk_blocks h m).memory at ≡ m.memory at
moved_by-apart None number disk_blocks at h m each = refl
moved_by-apart (Some opcode) number disk_blocks at h m each =
    units-memory_at (form_moves (form_of opcode) number disk_blocks h m.memory) (block_work opcode h.pieces _) at m each

-- and everywhere where the command is no Read
moved_by-same : (opcode : IoOpcode) (number disk_blocks : ℕ) (h : Held) (m : Moved) → is_read opcode ≡ false
    → (moved_by (Some opcode) number disk_blocks h m).memory ≡ m.memory
moved_by-same opcode number disk_blocks h m other =
    units-memory (form_moves (form_of opcode) number disk_blocks h m.memory) (block_work opcode h.pieces _) m other

pub unit-apart : (number disk_blocks at : ℕ) (h : Held) (host : ℕ → ℕ) (disk : ℕ → ℕ → ℕ) (kept : ℕ → Bool)
    → All (IsAnother (At at)) (places_of h.pieces) → (device_unit number disk_blocks h host disk kept).memory at ≡ host at
unfolding device_unit
unit-apart number disk_blocks at h host disk kept each = moved_by-apart (io_opcode (opcode_of h.entry)) number disk_blocks at h _ each

pub unit-same : (number disk_blocks : ℕ) (h : Held) (host : ℕ → ℕ) (disk : ℕ → ℕ → ℕ) (kept : ℕ → Bool) (opcode : IoOpcode)
    → io_opcode (opcode_of h.entry) ≡ Some opcode → is_read opcode ≡ false → (device_unit number disk_blocks h host disk kept).memory ≡ host
unfolding device_unit
unit-same number disk_blocks h host disk kept opcode is other =
    ap (λ o. (moved_by o number disk_blocks h (record { memory = host; disk = disk; kept = kept; differed = h.differed })).memory) is
    ∙ moved_by-same opcode number disk_blocks h _ other

-- ---- the ranges of a Read

-- a transfer has no ranges
no_ranges : (form : Form) (guest : Guest) (work : Work) → form_is_read form ≡ true → form_ranges form guest work ≡ []
no_ranges (Transfer dest) guest work e = refl
no_ranges Clear guest work e = refl
no_ranges Manage guest work e = cc
no_ranges Keep guest work e = refl

read-no_ranges : (guest : Guest) (entry : List ℕ) (share : Share) (is : IsPlanned guest entry share) → is_read is.work.opcode ≡ true
    → ranges_of share.plan guest ≡ []
read-no_ranges guest entry share is reads =
    let part = own-of guest entry share is in
    planned-kinds (λ p. ranges_of p guest ≡ []) guest entry share is refl (λ fits. refl)
    (no_ranges (form_of part.own.opcode) guest part.own (ap is_read part.opcode ∙ reads))

-- ---- a unit of a command in the device

module _ (host_bytes : ℕ) (geometry : Geometry) (lanes lane tag : ℕ) (laid : IsLaidOut host_bytes lanes geometry) (below : lane < lanes)
    (tag_below : tag < tag_count) (guest : Guest) (owner : ℕ) (given : slice_get geometry.guests owner ≡ Some guest) (entry : List ℕ) (share : Share)
    (planned : IsPlanned guest entry share) (h : Held) (host : ℕ → ℕ) (is : IsInDevice geometry guest entry share lane tag host h)
    (number : ℕ) (disk : ℕ → ℕ → ℕ) (kept : ℕ → Bool) where
  -- what lies in the area, but not in the tag's bounce pages, is as it was
  pub area-same : (from to : ℕ) → geometry.mediator ≤ from → to ≤ lane_start geometry.mediator lanes
      → (to ≤ bounce_page geometry.mediator lane tag) ⊎ (bounce_page geometry.mediator lane tag + most_bytes ≤ from)
      → SameBetween host (device_unit number geometry.disk_blocks h host disk kept).memory from to
  area-same from to low high away at over under =
      let outside : guest_of (regions_of guest) at ≡ None = laid.outside owner guest at given (omega (arith, low, over)) (omega (arith, high, under)) in
      let apart = addresses-apart guest entry share (bounce_page geometry.mediator lane tag) at (laid.given owner guest given).sound.apart planned outside (beyond away) in
      sym (unit-apart number geometry.disk_blocks at h host disk kept (subst (All (IsAnother (At at))) (sym is.places) apart))
    where
      beyond : (to ≤ bounce_page geometry.mediator lane tag) ⊎ (bounce_page geometry.mediator lane tag + most_bytes ≤ from)
          → (at < bounce_page geometry.mediator lane tag) ⊎ (bounce_page geometry.mediator lane tag + most_bytes ≤ at)
      beyond (inl before) = inl (omega (arith, before, under))
      beyond (inr behind) = inr (omega (arith, behind, over))

  -- the command's opcode
  pub held-opcode : io_opcode (opcode_of h.entry) ≡ Some planned.work.opcode
  held-opcode =
      ap (λ e. io_opcode (opcode_of e)) is.entry_is ∙ ap io_opcode (entry-opcode share guest entry geometry.mediator lane tag tag_below)
      ∙ (end-sound (mapped (regions_of guest)) guest.limit (shape_of guest).blocks entry planned.work planned.verdict).opcode

  -- the list and the ranges stand
  moved-pages : HasPages geometry guest share lane tag (device_unit number geometry.disk_blocks h host disk kept).memory
  moved-pages =
      record {
        list =
            (let list = list_page geometry.mediator lane tag in
            let bounce = bounce_page geometry.mediator lane tag in
            let pages = laid.pages in
            let aligned : bounce % 4 ≡ 0 = omega (arith, pages) in
            let short = list-short guest entry share list bounce aligned planned in
            shows-between host (device_unit number geometry.disk_blocks h host disk kept).memory list bounce list (list_bytes (prps_of share.plan guest list bounce))
            (area-same list bounce (omega arith) (omega (arith, below, tag_below)) (inl (omega arith))) (omega arith) (omega (arith, short)) is.pages.list);
        ranges = moved-ranges (is_read planned.work.opcode) refl;
      }
    where
      moved-ranges : (b : Bool) → is_read planned.work.opcode ≡ b
          → Shows (device_unit number geometry.disk_blocks h host disk kept).memory (bounce_page geometry.mediator lane tag) (ranges_of share.plan guest)
      moved-ranges true reads =
          subst (Shows (device_unit number geometry.disk_blocks h host disk kept).memory (bounce_page geometry.mediator lane tag))
          (sym (read-no_ranges guest entry share planned reads)) (shows-nothing _ (bounce_page geometry.mediator lane tag))
      moved-ranges false other =
          subst (λ m. Shows m (bounce_page geometry.mediator lane tag) (ranges_of share.plan guest))
          (sym (unit-same number geometry.disk_blocks h host disk kept planned.work.opcode held-opcode other)) is.pages.ranges

  -- another tag's pages, and slots of the rings, are as they were
  pub moved-undisturbed : (other head : ℕ) (d : DeviceLane) (held : List (Option Held)) (t : Tag) → (other == tag) ≡ false → other < tag_count
      → IsUndisturbed geometry.mediator lane other host (device_unit number geometry.disk_blocks h host disk kept).memory head head d (record d { held = held }) t
  moved-undisturbed other head d held t apart other_below =
      record {
        pages = area-same (list_page geometry.mediator lane other) (list_page geometry.mediator lane (other + 1)) (omega arith) (omega (arith, below, other_below)) (pages_away (cases_lt other tag));
        queued = (λ at stands between. (
          between,
          (let slot = between.slot in
              area-same (submission_slot geometry.mediator lane at) (submission_slot geometry.mediator lane (at + 1)) (omega arith) (omega (arith, below, slot)) (inl (omega (arith, slot)))),
        ));
        answered = (λ at stands between. (
          between,
          (let slot = between.slot in
              area-same (completion_slot geometry.mediator lane at) (completion_slot geometry.mediator lane (at + 1)) (omega arith) (omega (arith, below, slot)) (inl (omega (arith, slot)))),
        ));
      }
    where
      pages_away : (other < tag) ⊎ (tag ≤ other)
          → (list_page geometry.mediator lane (other + 1) ≤ bounce_page geometry.mediator lane tag)
          ⊎ (bounce_page geometry.mediator lane tag + most_bytes ≤ list_page geometry.mediator lane other)
      pages_away (inl less) = inl (omega (arith, less))
      pages_away (inr most) = inr (more (cases_eq other tag) most)
        where
          more : (other ≡ tag) ⊎ (other ≢ tag) → tag ≤ other → bounce_page geometry.mediator lane tag + most_bytes ≤ list_page geometry.mediator lane other
          more (inl same) most = absurd (eqb-false other tag apart same)
          more (inr differ) most = omega (arith, most, differ)

  -- and so is each other lane
  pub moved-elsewhere : (at : ℕ) → (at == lane) ≡ false → at < lanes
      → SameInLane host (device_unit number geometry.disk_blocks h host disk kept).memory geometry.mediator at
  moved-elsewhere at apart at_below =
      area-same (lane_start geometry.mediator at) (lane_start geometry.mediator (at + 1)) (omega arith) (omega (arith, at_below)) (lane_away (cases_lt at lane))
    where
      lane_away : (at < lane) ⊎ (lane ≤ at)
          → (lane_start geometry.mediator (at + 1) ≤ bounce_page geometry.mediator lane tag) ⊎ (bounce_page geometry.mediator lane tag + most_bytes ≤ lane_start geometry.mediator at)
      lane_away (inl less) = inl (omega (arith, less))
      lane_away (inr most) = inr (more (cases_eq at lane) most)
        where
          more : (at ≡ lane) ⊎ (at ≢ lane) → lane ≤ at → bounce_page geometry.mediator lane tag + most_bytes ≤ lane_start geometry.mediator at
          more (inl same) most = absurd (eqb-false at lane apart same)
          more (inr differ) most = omega (arith, most, differ, tag_below)

  -- the command is in the device, with one unit less
  moved-in_device : (differed : Bool) → IsInDevice geometry guest entry share lane tag (device_unit number geometry.disk_blocks h host disk kept).memory (unit_gone number differed h)
  moved-in_device differed =
      record {
        entry_is = is.entry_is;
        places = is.places;
        left = All-filter (λ k. not (k == number))
            (λ k. k < unit_count (io_opcode (opcode_of entry)) (share_entry share guest.namespace guest entry geometry.mediator lane tag)) h.left is.left;
        pages = moved-pages;
      }

-- ---- a tag that the device holds

-- it flies, and is in the device
pub record IsHolding (geometry : Geometry) (lane tag : ℕ) (host : ℕ → ℕ) (h : Held) (t : Tag) : Type 0 where
  pub command : Command
  pub share : Share
  pub flies : t ≡ Flying command share InDevice
  pub guest : Guest
  pub is : IsCommand geometry command guest
  pub planned : IsPlanned guest command.entry share
  pub some : is_no_command share ≡ false
  pub in_device : IsInDevice geometry guest command.entry share lane tag host h

pub held-flies : (geometry : Geometry) (lane tag : ℕ) (host : ℕ → ℕ) (head : ℕ) (d : DeviceLane) (h : Held) (t : Tag)
    → IsTag geometry lane tag host head d (Some h) t → IsHolding geometry lane tag host h t
held-flies geometry lane tag host head d h Free is = cc
held-flies geometry lane tag host head d h (Taken command reads) is = let none = is.not_held in cc
held-flies geometry lane tag host head d h (Flying command share (Queued at)) is = let none = is.stands.1 in cc
held-flies geometry lane tag host head d h (Flying command share InDevice) is =
    record { command = command; share = share; flies = refl; guest = is.guest; is = is.is; planned = is.planned; some = is.some; in_device = is.stands }
held-flies geometry lane tag host head d h (Flying command share (Answered at)) is = let none = is.stands.1 in cc
held-flies geometry lane tag host head d h (Ended command st share) is = let none = is.not_held in cc

-- ---- the event

module _ (host_bytes : ℕ) (geometry : Geometry) where
  moved-lane : (lanes lane tag number : ℕ) (host : ℕ → ℕ) (disk : ℕ → ℕ → ℕ) (kept : ℕ → Bool) (l : Lane) (d : DeviceLane) (h : Held) (differed : Bool) (t : Tag)
      → IsLaidOut host_bytes lanes geometry → lane < lanes → IsLane geometry lane host l d
      → slice_get l.tags tag ≡ Some t → slice_get d.held tag ≡ Some (Some h)
      → IsLane geometry lane (device_unit number geometry.disk_blocks h host disk kept).memory l (with_held tag (Some (unit_gone number differed h)) d)
  moved-lane lanes lane tag number host disk kept l d h differed t laid below is at there =
      let sized = is.positions.tags in
      let found = slice_get-below l.tags tag t at in
      let tag_below : tag < tag_count = omega (arith, sized, found) in
      let holds = held-flies geometry lane tag host l.head d h t (is.tags tag t (Some h) at there) in
      let now = with_held tag (Some (unit_gone number differed h)) d in
      let memory = (device_unit number geometry.disk_blocks h host disk kept).memory in
      let own : IsTag geometry lane tag memory l.head now (Some (unit_gone number differed h)) t =
      subst (IsTag geometry lane tag memory l.head now (Some (unit_gone number differed h))) (sym holds.flies)
      (record {
        guest = holds.guest;
        is = holds.is;
        planned = holds.planned;
        some = holds.some;
        stands =
            moved-in_device host_bytes geometry lanes lane tag laid below tag_below holds.guest holds.command.guest holds.is.given holds.command.entry holds.share
            holds.planned h host holds.in_device number disk kept differed;
      }) in
      record {
        positions = record {
          head = is.positions.head;
          tail = is.positions.tail;
          posted = is.positions.posted;
          read = is.positions.read;
          tags = is.positions.tags;
          held = length-set d.held tag (Some (unit_gone number differed h)) ∙ is.positions.held;
        };
        tags =
            subst (λ tags. (other : ℕ) (x : Tag) (o : Option Held) → slice_get tags other ≡ Some x
            → slice_get (set d.held tag (Some (unit_gone number differed h))) other ≡ Some o → IsTag geometry lane other memory l.head now o x)
            (set-same l.tags tag t at)
            (tags-with (λ other o x. IsTag geometry lane other memory l.head now o x) l.tags d.held tag t (Some (unit_gone number differed h)) own
            (λ other x o apart here under.
            (let among = slice_get-below l.tags other x here in
            tag-kept geometry lane other host memory laid.pages l.head l.head d now o x
            (moved-undisturbed host_bytes geometry lanes lane tag laid below tag_below holds.guest holds.command.guest holds.is.given holds.command.entry holds.share
            holds.planned h host holds.in_device number disk kept other l.head d (set d.held tag (Some (unit_gone number differed h))) x apart (omega (arith, sized, among)))
            (is.tags other x o here under))));
        queued = is.queued;
        answered = is.answered;
        queued_count = is.queued_count;
        answered_count = is.answered_count;
      }

  device_moved-consistent : (w : World) (lane tag number : ℕ) (l : Lane) (d : DeviceLane) (h : Held) (t : Tag)
      → IsLaidOut host_bytes (length w.lanes) geometry → IsConsistentOfTags geometry w
      → slice_get w.lanes lane ≡ Some l → slice_get w.device lane ≡ Some d → slice_get l.tags tag ≡ Some t → slice_get d.held tag ≡ Some (Some h)
      → IsConsistentOfTags geometry (device_moved geometry.disk_blocks lane tag number h w)
  unfolding device_moved
  device_moved-consistent w lane tag number l d h t laid is at there found held =
      let m = device_unit number geometry.disk_blocks h w.host w.disk w.kept in
      let below = slice_get-below w.lanes lane l at in
      let before = is.lanes lane l d at there in
      let sized = before.positions.tags in
      let among = slice_get-below l.tags tag t found in
      let tag_below : tag < tag_count = omega (arith, sized, among) in
      let holds = held-flies geometry lane tag w.host l.head d h t (before.tags tag t (Some h) found held) in
      let now = with_held tag (Some (unit_gone number m.differed h)) d in
      let behind = moved-lane (length w.lanes) lane tag number w.host w.disk w.kept l d h m.differed t laid below before found held in
      let whole = world-lane geometry w lane m.memory l now laid.pages
      (moved-elsewhere host_bytes geometry (length w.lanes) lane tag laid below tag_below holds.guest holds.command.guest holds.is.given holds.command.entry holds.share
      holds.planned h w.host holds.in_device number w.disk w.kept) behind is in
      let device : set w.device lane now ≡ changed_at (slice_get w.device lane) lane (with_held tag (Some (unit_gone number m.differed h))) w.device =
      sym (ap (λ o. changed_at o lane (with_held tag (Some (unit_gone number m.differed h))) w.device) there) in
      subst (λ ds. IsConsistentOfTags geometry (record w { host = m.memory; device = ds; disk = m.disk; kept = m.kept })) device
      (subst (λ ls. IsConsistentOfTags geometry (record w { host = m.memory; lanes = ls; device = set w.device lane now; disk = m.disk; kept = m.kept })) (set-same w.lanes lane l at)
      (blocks-consistent geometry (record w { host = m.memory; lanes = set w.lanes lane l; device = set w.device lane now }) m.disk m.kept whole))

  pub moves-consistent : (w : World) (lane slot number : ℕ) → IsLaidOut host_bytes (length w.lanes) geometry → IsConsistentOfTags geometry w
      → IsConsistentOfTags geometry (step geometry (event.DevMove lane slot number) w).world
  unfolding step
  moves-consistent w lane slot number laid is =
      device-walk (IsConsistentOfTags geometry) w is (slice_get w.device lane) _ (λ d there.
      held-walk (IsConsistentOfTags geometry) w is (slice_get d.held slot) (λ h. device_move geometry.disk_blocks lane slot number h w) (λ h held.
      either (IsConsistentOfTags geometry) w is (list_any (λ k. k == number) h.left) _ _
      (λ left.
      (let among = slice_get-below w.device lane d there in
      let sides = is.sides in
      let l = slice_get-there w.lanes lane (omega (arith, among, sides)) in
      let before = is.lanes lane l.0 d l.1 there in
      let tags = before.positions.tags in
      let sized = before.positions.held in
      let under = slice_get-below d.held slot (Some h) held in
      let t = slice_get-there l.0.tags slot (omega (arith, tags, sized, under)) in
      device_moved-consistent w lane slot number l.0 d h t.0 laid is l.1 there t.1 held))
      (λ none. is)))
