-- A share of a command in the device, in a consistent world.
use Rattle.std.proofs.Common.{◌≡◌, ℕ, ◌+◌, ◌*◌, ◌^◌, ◌<◌, ◌≤◌, Bool, true, false, ◌==◌, List, [], ◌∷◌, All}
use Rattle.std.proofs.Common.{flat_map, length, map, option_to_list, slice_get, Option, Some, None}
use Rattle.std.proofs.Common.{arith, refl, sym, ap, ◌∙◌, subst}
use Rattle.std.specs.Prelude.{◌≢◌}
use Rattle.std.specs.List.{filter_map, list_any}
use Rattle.nv_mem.specs.Places.{At, addresses, places_of, total_len}
use Rattle.nv_mem.proofs.PlaceLists.{length-places_of}
use Rattle.nv_entry.specs.Submission.{slba_of}
use Rattle.nv_model.specs.Carried.{units_moved}
use Rattle.nv_model.specs.Carrying.{at_work}
use Rattle.nv_model.specs.Judge.{Clear, Form, Keep, Manage, Transfer, Work, form_of, is_read}
use Rattle.nv_model.specs.Laws.{IsAnother}
use Rattle.nv_model.specs.Limits.{block}
use Rattle.nv_model.specs.Memory.{bytes_from, gathered, image, scattered}
use Rattle.nv_model.specs.Private.{MoveStep, Moved, Private, Shape, Taken, block_bytes, places_of_block, run_of}
use Rattle.nv_model.proofs.MemoryAlike.{scattered-at}
use Rattle.nv_model.proofs.Shown.{length-bytes_from}
use Rattle.nv_model.proofs.UnitsElsewhere.{scattered-elsewhere}
use Rattle.nv_ns.specs.Extents.{Namespace, blocks_in, place_in}
use Rattle.nv_world_model.specs.Area.{bounce_page, tag_count}
use Rattle.nv_world_model.specs.Device.{DeviceLane, Held, device_unit}
use Rattle.nv_world_model.specs.Geometry.{Geometry, Guest, regions_of}
use Rattle.nv_world_model.specs.Plan.{Bounced, Direct}
use Rattle.nv_world_model.specs.Share.{Share}
use Rattle.nv_world_model.specs.SharesLaws.{IsPartOf}
use Rattle.nv_world_model.specs.PrivateSteps.{others_moves}
use Rattle.nv_world_model.specs.Seat.{form_numbers, held_by, held_in, numbers_behind, numbers_by, units_behind}
use Rattle.nv_world_model.specs.World.{Flying, InDevice, Lane, Tag, World, tag_in}
use Rattle.nv_laws_sound.specs.Consistent.{IsConsistent, IsInDevice, IsPlanned}
use Rattle.nv_laws_sound.specs.LaidOut.{IsLaidOut}
use Rattle.nv_laws_sound.proofs.Lists.{slice_get-below, some-same}
use Rattle.nv_laws_sound.proofs.PlanSizes.{HasCount, own_work}
use Rattle.nv_laws.specs.Marks.{RunsToMarks, SameMarks}
use Rattle.nv_laws.specs.Places.{HasAt, NameNoneTwice}
use Rattle.nv_laws.specs.Units.{GivesBlock, IsHeld, SameBlocks, addresses_of_block, left_without, own_units, part_units, whole_of}
use Rattle.nv_laws.proofs.units.Delivery.{page-kept, page-moved}
use Rattle.nv_laws.proofs.units.Growing.{behind-all, behind-grow, without-left}
use Rattle.nv_laws.proofs.units.Runs.{moves-run, places-grow}
use Rattle.nv_laws.proofs.units.Has.{has-kept, others-kept}
use Rattle.nv_laws.proofs.units.SharePlaces.{share-blocks}
use Rattle.nv_laws.proofs.units.Imaged.{bounced-addresses, bounced-image, direct-read, direct-source}
use Rattle.nv_laws.proofs.units.Marks.{other-bytes, other-marks}
use Rattle.nv_laws.proofs.units.Moving.{others-host, others-own, read-bytes, read-form, read-host, read-own, unit-same, unit-within}
use Rattle.nv_laws.proofs.units.OwnDisk.{few-blocks}
use Rattle.nv_laws.proofs.units.OwnShares.{AreUnitsOf, IsOwnShare, own-count, own-share}
use Rattle.nv_laws.proofs.units.OwnUnits.{counted-ranges, counted-row}
use Rattle.nv_laws.proofs.units.Renamed.{own-moved, part-of, whole-work}
use Rattle.nv_model.specs.Judge.{deallocates}

-- ---- where it is

lane-there : (o : Option Lane) (tag : ℕ) (t : Tag) → tag_in o tag ≡ Some t → (l : Lane) × (o ≡ Some l) × (slice_get l.tags tag ≡ Some t)
lane-there None tag t is = cc
lane-there (Some l) tag t is = (l, refl, is)

by-held : (o : Option (Option Held)) (h : Held) → held_by o ≡ Some h → o ≡ Some (Some h)
by-held None h is = cc
by-held (Some None) h is = cc
by-held (Some (Some x)) h is = ap (λ y. Some y) is

pub device-there : (o : Option DeviceLane) (tag : ℕ) (h : Held) → held_in o tag ≡ Some h → (d : DeviceLane) × (o ≡ Some d) × (slice_get d.held tag ≡ Some (Some h))
device-there None tag h is = cc
device-there (Some d) tag h is = (d, refl, by-held (slice_get d.held tag) h is)

-- as many numbers as units
own-numbered : (form : Form) (ns : Namespace) (entry : List ℕ) (first : ℕ) (own : Work) → blocks_in ns < 2 ^ 32 → AreUnitsOf form ns entry first own
    → length (form_numbers form own) ≡ length own.units
own-numbered (Transfer dest) ns entry first own few units = counted-row (Transfer dest) own (λ e. cc)
own-numbered Clear ns entry first own few units = counted-row Clear own (λ e. cc)
own-numbered Manage ns entry first own few units = counted-ranges own (deallocates entry) (units few)
own-numbered Keep ns entry first own few units = counted-row Keep own (λ e. cc)

-- the share is planned and in the device, in a lane and a tag that are there
pub record AreParts (geometry : Geometry) (w : World) (guest : Guest) (entry : List ℕ) (share : Share) (whole work : Work) (lane tag : ℕ) (h : Held) : Type 1 where
  pub planned : IsPlanned guest entry share
  pub whole_is : planned.work ≡ whole
  pub is : IsOwnShare guest entry share work
  pub count : HasCount (form_of work.opcode) work
  pub part : IsPartOf whole work share.numbers
  pub in_device : IsInDevice geometry guest entry share lane tag w.host h
  pub lane_below : lane < length w.lanes
  pub tag_below : tag < tag_count

module _ (host_bytes : ℕ) (geometry : Geometry) (w : World) (laid : IsLaidOut host_bytes (length w.lanes) geometry) (fine : IsConsistent geometry w)
    (number : ℕ) (guest : Guest) (lane tag : ℕ) (share : Share) (whole work : Work) (h : Held)
    (it : IsHeld geometry w number guest lane tag share whole work h) where
  pub parts : AreParts geometry w guest it.command.entry share whole work lane tag h
  parts =
      let at = lane-there (slice_get w.lanes lane) tag (Flying it.command share InDevice) it.flies in
      let there = device-there (slice_get w.device lane) tag h it.held in
      let l : Lane = at.0 in
      let d : DeviceLane = there.0 in
      let before = fine.of_tags.lanes lane l d at.1 there.1 in
      let tags = before.positions.tags in
      let among = slice_get-below l.tags tag (Flying it.command share InDevice) at.2 in
      let holds = before.tags tag (Flying it.command share InDevice) (Some h) at.2 there.2 in
      let same_guest : holds.guest ≡ guest = some-same holds.guest guest (sym holds.is.given ∙ ap (slice_get geometry.guests) it.own ∙ it.given) in
      let planned : IsPlanned guest it.command.entry share = subst (λ g. IsPlanned g it.command.entry share) same_guest holds.planned in
      let is = own-share guest it.command.entry share planned in
      let own : own_work guest it.command.entry share planned ≡ work = some-same (own_work guest it.command.entry share planned) work (sym is.goes ∙ it.part) in
      let goes : planned.work ≡ whole = some-same planned.work whole (sym (whole-work guest it.command.entry share planned) ∙ it.goes) in
      record {
        planned = planned;
        whole_is = goes;
        is = subst (IsOwnShare guest it.command.entry share) own is;
        count = subst (λ (x : Work). HasCount (form_of x.opcode) x) own (own-count guest it.command.entry share planned holds.some);
        part = subst (λ x. IsPartOf x work share.numbers) goes (part-of guest it.command.entry share planned work it.part);
        in_device = subst (λ g. IsInDevice geometry g it.command.entry share lane tag w.host h) same_guest holds.stands;
        lane_below = slice_get-below w.lanes lane l at.1;
        tag_below = omega (arith, tags, among);
      }

  abbrev bounce : ℕ
  bounce = bounce_page geometry.mediator lane tag

  -- the effect of a unit
  abbrev moved : (unit : ℕ) → Moved
  moved unit = device_unit unit geometry.disk_blocks h w.host w.disk w.kept

  numbered : length (form_numbers (form_of work.opcode) work) ≡ length work.units
  numbered =
      own-numbered (form_of work.opcode) guest.namespace it.command.entry parts.is.first work
      (few-blocks host_bytes (length w.lanes) geometry laid number guest it.given it.command.entry share work parts.is parts.count lane tag) parts.is.units

  -- the whole's units move what the share's own does
  whole-moved : (unit : ℕ) (m : Moved) → units_moved (own_units whole share unit) whole m ≡ units_moved (part_units work unit) work m
  whole-moved unit m = own-moved whole work share unit m it.part parts.part numbered

  module _ (unit : ℕ) (left : list_any (λ k. k == unit) h.left ≡ true) (own : Moved) where
    -- blocks and marks
    pub world-blocks : SameBlocks guest.namespace own (whole_of w h.differed)
        → (form_of work.opcode ≡ Transfer false → gathered own.memory (places_of_block work unit) ≡ gathered w.host (addresses_of_block share.plan guest bounce unit))
        → SameBlocks guest.namespace (units_moved (own_units whole share unit) whole own) (moved unit)
    world-blocks same source =
        subst (λ r. SameBlocks guest.namespace r (moved unit)) (sym (whole-moved unit own))
        (unit-same host_bytes (length w.lanes) geometry laid number guest it.given it.command.entry share work parts.is parts.count lane tag parts.tag_below h w.host
        parts.in_device unit left own w.disk w.kept same source)

    -- bytes
    pub world-read : is_read work.opcode ≡ true → SameBlocks guest.namespace own (whole_of w h.differed)
        → GivesBlock (places_of_block work unit) (addresses_of_block share.plan guest bounce unit) own.memory
        (units_moved (own_units whole share unit) whole own).memory w.host (moved unit).memory
    world-read reads same =
        let lba : ℕ = slba_of it.command.entry + (parts.is.first + unit) in
        let bytes = read-bytes host_bytes (length w.lanes) geometry laid number guest it.given it.command.entry share work parts.is parts.count lane tag parts.tag_below h w.host
        parts.in_device unit left own w.disk w.kept reads same in
        record {
          bytes = block_bytes own.disk lba;
          count = length-bytes_from (own.disk lba) 0 block;
          in_own =
              ap (λ (r : Moved). r.memory) (whole-moved unit own)
              ∙ read-own host_bytes (length w.lanes) geometry laid number guest it.given it.command.entry share work parts.is parts.count lane tag parts.tag_below h w.host
              parts.in_device unit left own reads;
          in_host =
              read-host host_bytes (length w.lanes) geometry laid number guest it.given it.command.entry share work parts.is parts.count lane tag parts.tag_below h w.host
              parts.in_device unit left w.disk w.kept reads
              ∙ ap (scattered w.host (addresses_of_block share.plan guest bounce unit)) (sym bytes);
        }

    pub world-others : is_read work.opcode ≡ false
        → ((units_moved (own_units whole share unit) whole own).memory ≡ own.memory) × ((moved unit).memory ≡ w.host)
    world-others other = (
      ap (λ (r : Moved). r.memory) (whole-moved unit own)
          ∙ others-own host_bytes (length w.lanes) geometry laid number guest it.given it.command.entry share work parts.is parts.count lane tag parts.tag_below h w.host
          parts.in_device unit left own other,
      others-host host_bytes (length w.lanes) geometry laid number guest it.given it.command.entry share work parts.is parts.count lane tag parts.tag_below h w.host
          parts.in_device unit left w.disk w.kept other,
    )

    -- a direct Read's block reaches the same places of the guest's memory and of its own
    pub world-direct_read : share.plan ≡ Direct work → is_read work.opcode ≡ true → SameBlocks guest.namespace own (whole_of w h.differed)
        → GivesBlock (places_of_block work unit) (places_of_block work unit) own.memory (units_moved (own_units whole share unit) whole own).memory
        (image (regions_of guest) w.host) (image (regions_of guest) (moved unit).memory)
    world-direct_read direct reads same =
        let gives = world-read reads same in
        record {
          bytes = gives.bytes;
          count = gives.count;
          in_own = gives.in_own;
          in_host =
              ap (image (regions_of guest)) gives.in_host
              ∙ direct-read host_bytes (length w.lanes) geometry laid number guest it.given it.command.entry share work parts.is lane tag parts.lane_below parts.tag_below h w.host
              parts.in_device unit gives.bytes direct;
        }

    -- so a byte that is the same in both stays so
    pub world-direct_same : share.plan ≡ Direct work → is_read work.opcode ≡ true → SameBlocks guest.namespace own (whole_of w h.differed)
        → (addr : ℕ) → own.memory addr ≡ image (regions_of guest) w.host addr
        → (units_moved (own_units whole share unit) whole own).memory addr ≡ image (regions_of guest) (moved unit).memory addr
    world-direct_same direct reads same addr agree =
        let gives = world-direct_read direct reads same in
        ap (λ m. m addr) gives.in_own
        ∙ scattered-at own.memory (image (regions_of guest) w.host) (places_of_block work unit) gives.bytes addr agree
        ∙ sym (ap (λ m. m addr) gives.in_host)

    -- a unit of a transfer is one of its blocks
    pub world-within : (dest : Bool) → form_of work.opcode ≡ Transfer dest → block * unit + block ≤ total_len work.pieces
    world-within dest form =
        unit-within host_bytes (length w.lanes) geometry laid number guest it.given it.command.entry share work parts.is parts.count lane tag parts.tag_below h w.host
        parts.in_device unit left dest form

    -- a bounced Read's block stands in its part of the bounce pages
    pub bounced-gives : share.plan ≡ Bounced work → is_read work.opcode ≡ true → SameBlocks guest.namespace own (whole_of w h.differed)
        → GivesBlock (places_of_block work unit) (addresses (bounce + block * unit) block) own.memory
        (units_moved (own_units whole share unit) whole own).memory w.host (moved unit).memory
    bounced-gives bounced reads same =
        subst (λ ps. GivesBlock (places_of_block work unit) ps own.memory (units_moved (own_units whole share unit) whole own).memory w.host (moved unit).memory)
        (bounced-addresses guest work share.plan bounce unit bounced (world-within true (read-form work.opcode reads))) (world-read reads same)

    pub world-page_moved : share.plan ≡ Bounced work → is_read work.opcode ≡ true → SameBlocks guest.namespace own (whole_of w h.differed)
        → NameNoneTwice (places_of_block work unit)
        → HasAt (units_moved (own_units whole share unit) whole own).memory (places_of_block work unit)
        (bytes_from (moved unit).memory (bounce + block * unit) block)
    world-page_moved bounced reads same once =
        let gives = bounced-gives bounced reads same in
        let within = world-within true (read-form work.opcode reads) in
        let sized = length-places_of work.pieces in
        subst (λ m. HasAt m (places_of_block work unit) (bytes_from (moved unit).memory (bounce + block * unit) block)) (sym gives.in_own)
        (subst (λ m. HasAt (scattered own.memory (places_of_block work unit) gives.bytes) (places_of_block work unit) (bytes_from m (bounce + block * unit) block)) (sym gives.in_host)
        (page-moved own.memory w.host (places_of work.pieces) gives.bytes bounce unit once gives.count (omega (arith, within, sized))))

    -- and those of other units stay
    pub world-page_kept : (other : ℕ) → share.plan ≡ Bounced work → is_read work.opcode ≡ true → SameBlocks guest.namespace own (whole_of w h.differed)
        → NameNoneTwice (places_of work.pieces) → (other ≡ unit → ⊥)
        → HasAt own.memory (places_of_block work other) (bytes_from w.host (bounce + block * other) block)
        → HasAt (units_moved (own_units whole share unit) whole own).memory (places_of_block work other)
        (bytes_from (moved unit).memory (bounce + block * other) block)
    world-page_kept other bounced reads same once apart has =
        let gives = bounced-gives bounced reads same in
        subst (λ m. HasAt m (places_of_block work other) (bytes_from (moved unit).memory (bounce + block * other) block)) (sym gives.in_own)
        (subst (λ m. HasAt (scattered own.memory (places_of_block work unit) gives.bytes) (places_of_block work other) (bytes_from m (bounce + block * other) block)) (sym gives.in_host)
        (page-kept own.memory w.host (places_of work.pieces) gives.bytes bounce unit other once gives.count apart has))

    -- those of the whole's other blocks stay, in whichever share they are
    pub world-block_kept : (at other : ℕ) (bytes : List ℕ) → is_read work.opcode ≡ true → SameBlocks guest.namespace own (whole_of w h.differed)
        → NameNoneTwice (places_of whole.pieces) → slice_get share.numbers unit ≡ Some at → (other ≡ at → ⊥)
        → HasAt own.memory (places_of_block whole other) bytes
        → HasAt (units_moved (own_units whole share unit) whole own).memory (places_of_block whole other) bytes
    world-block_kept at other bytes reads same once is apart has =
        let gives = world-read reads same in
        let planned = parts.planned in
        let form : form_of planned.work.opcode ≡ Transfer true =
        ap (λ (x : Work). form_of x.opcode) parts.whole_is ∙ ap form_of (sym parts.part.opcode) ∙ read-form work.opcode reads in
        let places : places_of_block work unit ≡ places_of_block whole at =
        share-blocks guest it.command.entry share planned work it.part true form unit at is ∙ ap (λ x. places_of_block x at) parts.whole_is in
        let now : (units_moved (own_units whole share unit) whole own).memory ≡ scattered own.memory (places_of_block whole at) gives.bytes =
        gives.in_own ∙ ap (λ ps. scattered own.memory ps gives.bytes) places in
        subst (λ m. HasAt m (places_of_block whole other) bytes) (sym now)
        (has-kept own.memory (scattered own.memory (places_of_block whole at) gives.bytes) (places_of_block whole other) bytes
        (others-kept own.memory (places_of whole.pieces) other at gives.bytes once apart) has)

    -- bytes at other places stay in the guest's own memory
    pub world-own_elsewhere : is_read work.opcode ≡ true → SameBlocks guest.namespace own (whole_of w h.differed) → (addr : ℕ)
        → All (IsAnother (At addr)) (places_of_block work unit) → (units_moved (own_units whole share unit) whole own).memory addr ≡ own.memory addr
    world-own_elsewhere reads same addr apart =
        let gives = world-read reads same in
        ap (λ m. m addr) gives.in_own ∙ scattered-elsewhere own.memory (places_of_block work unit) gives.bytes addr apart

  -- a direct command's places have what the host has where they lie
  pub world-direct_source : (unit : ℕ) → share.plan ≡ Direct work
      → gathered (image (regions_of guest) w.host) (places_of_block work unit) ≡ gathered w.host (addresses_of_block share.plan guest bounce unit)
  world-direct_source unit direct = direct-source guest it.command.entry share work parts.is w.host bounce unit direct

  -- a bounced command's unit changes nothing of the guest's memory
  pub world-bounced : (unit : ℕ) → share.plan ≡ Bounced work → image (regions_of guest) (moved unit).memory ≡ image (regions_of guest) w.host
  world-bounced unit bounced =
      bounced-image host_bytes (length w.lanes) geometry laid number guest it.given it.command.entry share work parts.is lane tag parts.lane_below parts.tag_below h w.host
      parts.in_device unit w.disk w.kept bounced

  -- ---- its steps

  -- they are a run of the guest's private controller
  pub world-run : (shape : Shape) (name : ℕ) (t : Taken) (p : Private) (unit : ℕ) (left : List ℕ) (m : Moved)
      → All (λ k. list_any (λ n. n == k) left ≡ true) (numbers_behind share (unit ∷ []))
      → run_of shape (map (MoveStep name) (numbers_behind share (unit ∷ []))) (at_work name t whole left m p)
      ≡ Some (record {
        state = at_work name t whole (left_without (numbers_behind share (unit ∷ [])) left) (units_moved (own_units whole share unit) whole m) p;
        seen = [];
      })
  unfolding units_behind
  world-run shape name t p unit left m =
      let numbers : List ℕ = filter_map (slice_get share.numbers) (units_behind work (unit ∷ [])) in
      let is : numbers_behind share (unit ∷ []) ≡ numbers = ap (λ o. numbers_by o share.numbers (unit ∷ [])) it.part in
      subst (λ ns. All (λ k. list_any (λ n. n == k) left ≡ true) ns → run_of shape (map (MoveStep name) ns) (at_work name t whole left m p)
      ≡ Some (record { state = at_work name t whole (left_without ns left) (units_moved (flat_map (λ k. option_to_list (slice_get whole.units k)) ns) whole m) p; seen = [] })) (sym is)
      (λ among. moves-run shape name t whole p numbers left m
      (behind-grow share.numbers parts.is.grow (units_behind work (unit ∷ [])) (places-grow (unit ∷ []) 0 (form_numbers (form_of work.opcode) work)))
      among
      (behind-all (λ n. n < length whole.units) share.numbers
      (λ k n found. (let each = parts.part.each k n found in slice_get-below whole.units n each.0 each.1.1.0)) (units_behind work (unit ∷ [])))
      ∙ ap (λ ns. Some (record { state = at_work name t whole ns (units_moved (flat_map (λ k. option_to_list (slice_get whole.units k)) numbers) whole m) p; seen = [] }))
      (without-left numbers left))

  -- ---- another guest's blocks

  module _ (unit : ℕ) (left : list_any (λ k. k == unit) h.left ≡ true) (other : ℕ) (guest_too : Guest) (given_too : slice_get geometry.guests other ≡ Some guest_too)
      (differ : other ≢ number) where
    pub world-other_marks : (p : Private) → SameMarks guest_too.namespace p.kept w.kept
        → RunsToMarks guest_too (others_moves (Some work) guest_too.namespace) p (moved unit).kept
    world-other_marks p same =
        other-marks host_bytes (length w.lanes) geometry laid number guest it.given it.command.entry share work parts.is parts.count lane tag parts.tag_below h w.host
        parts.in_device unit left other guest_too given_too differ w.disk w.kept p same

    pub world-other_bytes : (lba offset : ℕ) → lba < blocks_in guest_too.namespace
        → (moved unit).disk (place_in guest_too.namespace lba) offset ≡ w.disk (place_in guest_too.namespace lba) offset
    world-other_bytes lba offset within =
        ap (λ f. f offset)
        (other-bytes host_bytes (length w.lanes) geometry laid number guest it.given it.command.entry share work parts.is parts.count lane tag parts.tag_below h w.host
        parts.in_device unit left other guest_too given_too differ w.disk w.kept lba within)
