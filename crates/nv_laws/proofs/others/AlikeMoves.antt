-- Units of a guest's commands that move, in worlds that look alike to it: they look alike behind them. What a unit reads is the guest's memory or a source that is
-- shown, or blocks of the guest's; a unit of a bounced Read is shown once it has moved.
use Rattle.std.proofs.Common.{◌≡◌, ℕ, ◌+◌, ◌-◌, ◌*◌, ◌<◌, ◌≤◌, ◌⊎◌, inl, inr, true, false, cond, ◌==◌, []}
use Rattle.std.proofs.Common.{◌∷◌, All, drop, length, map, set, slice_get, take}
use Rattle.std.proofs.Common.{Some, arith, refl, sym, ap, ◌∙◌, eq-eqb, subst}
use mathlib.Core.Path.{fun_ext}
use Rattle.std.specs.List.{list_any, range_with_len}
use Rattle.std.proofs.lemmas.List.{drop-map}
use Rattle.std.proofs.lemmas.List.Elements.{All-map, All-nil}
use Rattle.std.proofs.lemmas.List.FromFn.{take-map-range_with_len}
use Rattle.nv_entry.specs.Opcode.{io_opcode}
use Rattle.nv_entry.specs.Submission.{opcode_of, slba_of}
use Rattle.nv_entry.specs.declared.opcode.IoOpcode.{IoOpcode}
use Rattle.nv_entry.specs.declared.opcode.IoOpcode.TheVariants.{Flush, Write, Read, Compare, WriteZeroes, DatasetManagement}
use Rattle.nv_mem.specs.GuestMap.{host_of}
use Rattle.nv_mem.specs.Places.{At, addresses, places_of, total_len}
use Rattle.nv_model.specs.Carried.{units_moved}
use Rattle.nv_model.specs.Judge.{Clear, Form, Keep, Manage, Transfer, Work, form_has_blocks, form_of, has_blocks, is_read}
use Rattle.nv_model.specs.Limits.{block, range_size}
use Rattle.nv_model.specs.Memory.{byte_at_host, byte_at_place, bytes_from, gathered, image, scattered, stored}
use Rattle.nv_model.specs.Private.{Moved, block_bytes, others}
use Rattle.nv_model.proofs.MemoryLemmas.{scattered-addresses}
use Rattle.nv_model.proofs.Shown.{length-bytes_from}
use Rattle.nv_ns.specs.Extents.{blocks_in, place_in}
use Rattle.nv_world_model.specs.declared.event.Event.TheVariants as event
use Rattle.nv_world_model.specs.Area.{addresses_of, bounce_page, tag_count}
use Rattle.nv_world_model.specs.Contained.{guest_of_one}
use Rattle.nv_world_model.specs.Device.{DeviceLane, Held, device_unit, moved_by, unit_gone, with_held}
use Rattle.nv_world_model.specs.Geometry.{Geometry, Guest, regions_of}
use Rattle.nv_world_model.specs.LaneRuns.{form_places}
use Rattle.nv_world_model.specs.Plan.{Bounced}
use Rattle.nv_world_model.specs.Share.{Share}
use Rattle.nv_world_model.specs.ShareArea.{is_no_command}
use Rattle.nv_world_model.specs.Seat.{held_by, held_in}
use Rattle.nv_world_model.specs.Step.{device_move, device_moved, step}
use Rattle.nv_world_model.specs.View.{IsAlike, is_tag_of, lane_numbers, moved_shown, own_held, ring_numbers, source_shown, units_shown}
use Rattle.nv_world_model.specs.World.{Command, Flying, InDevice, Lane, Tag, World, changed_at, tag_in, tag_of, with_device}
use Rattle.nv_world_model.proofs.Seats.{slice_get-set}
use Rattle.nv_laws_sound.specs.Consistent.{IsConsistentOfTags, IsInDevice, IsPlanned}
use Rattle.nv_laws_sound.specs.LaidOut.{IsLaidOut}
use Rattle.nv_laws_sound.proofs.Lists.{length-set, set-same, slice_get-below, slice_get-there, some-same}
use Rattle.nv_laws_sound.proofs.MoveEvents.{held-flies, held-opcode, moved-elsewhere, moved-undisturbed}
use Rattle.nv_laws_sound.proofs.OnDisk.{blocks-fit, drop-row, entry-block, entry-row, unit-below}
use Rattle.nv_laws_sound.proofs.EntryFields.{own_units}
use Rattle.nv_laws_sound.proofs.OwnWork.{own-of}
use Rattle.nv_laws_sound.proofs.Named.{hosts-all, row-all}
use Rattle.nv_laws_sound.proofs.PlanSizes.{own_work, planned-kinds}
use Rattle.nv_laws.proofs.others.AlikeLanes.{flying-shows, lane-alike, list-is, one-in, own-same, read-is, source-is, stored-both}
use Rattle.nv_laws.proofs.others.AlikeRings.{slot-both}
use Rattle.nv_laws.proofs.others.AlikeUnits.{AreAlike, IsOfUnit, gathered-part, memory-kept, unit-alike, unit_spans, units-split}
use Rattle.nv_laws.proofs.others.AlikeWalks.{either-both, found-both, lane-too}
use Rattle.nv_laws.proofs.others.Leaving.{bytes-elsewhere}
use Rattle.nv_laws.proofs.others.Parts.{held-put}
use Rattle.nv_laws.proofs.others.Shown.{any-chosen, in_span, units-few}

-- ---- a unit of a bounced Read

-- its places are one block of the bounce pages
unit-row : (bounce number rest : ℕ) → take block (drop (block * number) (map At (range_with_len bounce (block * number + (block + rest))))) ≡ addresses (bounce + block * number) block
unfolding addresses
unit-row bounce number rest =
    ap (λ ps. take block ps) (drop-map At (block * number) (range_with_len bounce (block * number + (block + rest))) ∙ ap (map At) (drop-row (block * number) bounce (block + rest)))
    ∙ take-map-range_with_len At (bounce + block * number) (block + rest) block (omega arith)

-- so what it writes there is the same from the same block
written-both : (number disk_blocks addr bounce : ℕ) (h : Held) (m n : Moved) → take block (drop (block * number) (places_of h.pieces)) ≡ addresses (bounce + block * number) block
    → block_bytes m.disk (slba_of h.entry + number) ≡ block_bytes n.disk (slba_of h.entry + number) → bounce + block * number ≤ addr → addr < bounce + block * number + block
    → (moved_by (Some Read) number disk_blocks h m).memory addr ≡ (moved_by (Some Read) number disk_blocks h n).memory addr
unfolding units_moved
written-both number disk_blocks addr bounce h m n places bytes low high =
    let at = slba_of h.entry + number in
    let from = bounce + block * number in
    let sized : length (block_bytes m.disk at) ≡ block = length-bytes_from (m.disk at) 0 block in
    let sized_too : length (block_bytes n.disk at) ≡ block = length-bytes_from (n.disk at) 0 block in
    let one : scattered m.memory (addresses from block) (block_bytes m.disk at) ≡ stored m.memory from (block_bytes m.disk at) =
    ap (λ k. scattered m.memory (addresses from k) (block_bytes m.disk at)) (sym sized) ∙ scattered-addresses m.memory from (block_bytes m.disk at) in
    let two : scattered n.memory (addresses from block) (block_bytes n.disk at) ≡ stored n.memory from (block_bytes n.disk at) =
    ap (λ k. scattered n.memory (addresses from k) (block_bytes n.disk at)) (sym sized_too) ∙ scattered-addresses n.memory from (block_bytes n.disk at) in
    ap (λ ps. scattered m.memory ps (block_bytes m.disk at) addr) places ∙ ap (λ f. f addr) one
    ∙ stored-both m.memory n.memory from (block_bytes m.disk at) addr low (omega (arith, high, sized))
    ∙ ap (λ bs. stored n.memory from bs addr) bytes
    ∙ sym (ap (λ ps. scattered n.memory ps (block_bytes n.disk at) addr) places ∙ ap (λ f. f addr) two)

read-opcode : (opcode : IoOpcode) → is_read opcode ≡ true → opcode ≡ Read
read-opcode Read e = refl
read-opcode Write e = cc
read-opcode Compare e = cc
read-opcode WriteZeroes e = cc
read-opcode DatasetManagement e = cc
read-opcode Flush e = cc

-- a command with blocks has a unit for each
blocks-own : (form : Form) (own : Work) → form_has_blocks form ≡ true → own_units form own ≡ length own.units
blocks-own (Transfer dest) own has = refl
blocks-own Clear own has = refl
blocks-own Manage own has = cc
blocks-own Keep own has = cc

module _ (host_bytes : ℕ) (geometry : Geometry) (w z : World) (laid : IsLaidOut host_bytes (length w.lanes) geometry) (fine : IsConsistentOfTags geometry w)
    (number : ℕ) (guest : Guest) (given : slice_get geometry.guests number ≡ Some guest) (alike : IsAlike number guest geometry w z) where
  abbrev Behind : World → World → Type 0
  Behind v u = IsAlike number guest geometry v u

  -- a byte of its memory
  host-same : (addr at : ℕ) → host_of (regions_of guest) addr ≡ Some at → w.host at ≡ z.host at
  unfolding image
  host-same addr at is =
      sym (ap (byte_at_host w.host) is) ∙ alike.view.memory addr ∙ ap (byte_at_host z.host) is

  -- a block of its
  block-same : (lba : ℕ) → lba < blocks_in guest.namespace → block_bytes w.disk (place_in guest.namespace lba) ≡ block_bytes z.disk (place_in guest.namespace lba)
  block-same lba below = ap (λ f. bytes_from f 0 block) (fun_ext (λ offset. alike.view.blocks lba offset below))

  module _ (lane tag : ℕ) (lane_below : lane < length w.lanes) (tag_below : tag < tag_count) (command : Command) (share : Share) (h : Held)
      (there : tag_of w lane tag ≡ Some (Flying command share InDevice)) (mine : is_tag_of number (Some (Flying command share InDevice)) ≡ true)
      (whose : slice_get geometry.guests command.guest ≡ Some guest) (is : IsPlanned guest command.entry share) (some : is_no_command share ≡ false)
      (in_device : IsInDevice geometry guest command.entry share lane tag w.host h)
      (k : ℕ) (left : list_any (λ x. x == k) h.left ≡ true) where
    abbrev was : Tag
    was = Flying command share InDevice

    abbrev bounce : ℕ
    bounce = bounce_page geometry.mediator lane tag

    abbrev m : Moved
    m = record { memory = w.host; disk = w.disk; kept = w.kept; differed = h.differed }

    abbrev n : Moved
    n = record { memory = z.host; disk = z.disk; kept = z.kept; differed = h.differed }

    bytes-same : has_blocks is.work.opcode ≡ true → block_bytes w.disk (slba_of h.entry + k) ≡ block_bytes z.disk (slba_of h.entry + k)
    bytes-same has =
        let fit = blocks-fit host_bytes (length w.lanes) geometry laid command.guest guest whose command.entry share is lane tag has in
        let some_blocks = fit.0 in
        let most = fit.1 in
        let row = entry-row host_bytes (length w.lanes) geometry laid command.guest guest whose command.entry share is lane tag has in
        let within = row.within in
        let few : k < length (own_work guest command.entry share is).units =
        subst (λ n. k < n) (blocks-own (form_of is.work.opcode) (own_work guest command.entry share is) has)
        (unit-below host_bytes (length w.lanes) geometry laid command.guest guest whose command.entry share is lane tag some h w.host in_device k left) in
        let named : slba_of h.entry + k ≡ place_in guest.namespace (slba_of command.entry + (row.first + k)) =
        ap (λ e. slba_of e + k) in_device.entry_is
        ∙ entry-block host_bytes (length w.lanes) geometry laid command.guest guest whose command.entry share is lane tag has k few in
        subst (λ x. block_bytes w.disk x ≡ block_bytes z.disk x) (sym named)
        (block-same (slba_of command.entry + (row.first + k)) (omega (arith, some_blocks, most, within, few)))

    -- the bytes of its places, where it is no Read
    source-same : is_read is.work.opcode ≡ false → All (λ a. w.host a ≡ z.host a) (addresses_of share.plan guest bounce)
    source-same other =
        let own : Work = own_work guest command.entry share is in
        let not_read : is_read own.opcode ≡ false = ap is_read (own-of guest command.entry share is).opcode ∙ other in
        planned-kinds (λ p. ((addr : ℕ) → list_any (in_span addr) (source_shown p bounce) ≡ true → w.host addr ≡ z.host addr)
        → All (λ a. w.host a ≡ z.host a) (addresses_of p guest bounce)) guest command.entry share is
        (λ shown. All-nil (λ a. w.host a ≡ z.host a))
        (λ fits shown. hosts-all (λ a. w.host a ≡ z.host a) (regions_of guest) (places_of own.pieces) (λ addr host found. host-same addr host found))
        (λ shown. row-all (λ a. w.host a ≡ z.host a) bounce (total_len own.pieces) (λ at low high.
        shown at (ap (λ b. list_any (in_span at) (cond b [] ((bounce, total_len own.pieces) ∷ []))) not_read ∙ one-in at bounce (total_len own.pieces) low high)))
        (λ addr lies. own-same geometry number guest w z alike lane tag was addr there mine (source-is guest geometry w lane tag command share InDevice addr lies))

    places-same : is_read is.work.opcode ≡ false → All (λ p. byte_at_place w.host p ≡ byte_at_place z.host p) (places_of h.pieces)
    places-same other =
        subst (All (λ p. byte_at_place w.host p ≡ byte_at_place z.host p)) (sym in_device.places)
        (All-map (λ p. byte_at_place w.host p ≡ byte_at_place z.host p) At (addresses_of share.plan guest bounce) (source-same other))

    form-gathered : (form : Form) → is_read is.work.opcode ≡ false → gathered w.host (form_places form k h.pieces) ≡ gathered z.host (form_places form k h.pieces)
    unfolding gathered
    form-gathered (Transfer dest) other = gathered-part w.host z.host (places_of h.pieces) block (block * k) (places-same other)
    form-gathered Clear other = refl
    form-gathered Manage other = gathered-part w.host z.host (places_of h.pieces) range_size (range_size * k) (places-same other)
    form-gathered Keep other = refl

    -- the unit does the same
    opcode-is : io_opcode (opcode_of h.entry) ≡ Some is.work.opcode
    opcode-is =
        held-opcode host_bytes geometry (length w.lanes) lane tag laid lane_below tag_below guest command.guest whose command.entry share is h w.host in_device k w.disk w.kept

    abbrev v_moved : Moved
    v_moved = device_unit k geometry.disk_blocks h w.host w.disk w.kept

    abbrev u_moved : Moved
    u_moved = device_unit k geometry.disk_blocks h z.host z.disk z.kept

    effect-alike : AreAlike guest.namespace v_moved u_moved
    unfolding device_unit
    effect-alike =
        subst (λ o. AreAlike guest.namespace (moved_by o k geometry.disk_blocks h m) (moved_by o k geometry.disk_blocks h n)) (sym opcode-is)
        (unit-alike guest.namespace is.work.opcode k geometry.disk_blocks h m n
        (record { disk = alike.view.blocks; kept = alike.marks; differed = refl }) (form-gathered (form_of is.work.opcode)) bytes-same)

    memory-alike : (addr : ℕ) → w.host addr ≡ z.host addr → v_moved.memory addr ≡ u_moved.memory addr
    unfolding device_unit
    memory-alike addr same =
        subst (λ o. (moved_by o k geometry.disk_blocks h m).memory addr ≡ (moved_by o k geometry.disk_blocks h n).memory addr) (sym opcode-is)
        (memory-kept is.work.opcode k geometry.disk_blocks addr h m n bytes-same same)

    -- what is read of it behind the unit was read before, or is of the unit
    bounced-read : (addr : ℕ) → share.plan ≡ Bounced (own_work guest command.entry share is) → is_read is.work.opcode ≡ true
        → IsOfUnit addr bounce k 0 (length (own_work guest command.entry share is).units) → v_moved.memory addr ≡ u_moved.memory addr
    unfolding device_unit
    bounced-read addr bounces reads of =
        let own : Work = own_work guest command.entry share is in
        let few = units-few geometry.mediator lane tag laid.pages addr (form_of is.work.opcode) own reads in
        let total = (own-of guest command.entry share is).total in
        let most = of.below in
        let rest : ℕ = total_len own.pieces - (block * k + block) in
        let parts : total_len own.pieces ≡ block * k + (block + rest) = omega (arith, few, total, most) in
        let places : places_of h.pieces ≡ map At (range_with_len bounce (block * k + (block + rest))) =
        in_device.places ∙ ap (λ p. map At (addresses_of p guest bounce)) bounces ∙ ap (λ x. map At (range_with_len bounce x)) parts in
        let row : take block (drop (block * k) (places_of h.pieces)) ≡ addresses (bounce + block * k) block = ap (λ ps. take block (drop (block * k) ps)) places ∙ unit-row bounce k rest in
        let read = read-opcode is.work.opcode reads in
        let has : has_blocks is.work.opcode ≡ true = ap has_blocks read in
        subst (λ o. (moved_by o k geometry.disk_blocks h m).memory addr ≡ (moved_by o k geometry.disk_blocks h n).memory addr) (sym (opcode-is ∙ ap (λ o. Some o) read))
        (written-both k geometry.disk_blocks addr bounce h m n row (bytes-same has) of.low of.high)

    units-alike : (addr : ℕ) → list_any (in_span addr) (units_shown share.plan (others k h.left) bounce) ≡ true
        → (list_any (in_span addr) (units_shown share.plan h.left bounce) ≡ true) ⊎ (v_moved.memory addr ≡ u_moved.memory addr)
    units-alike addr =
        let own : Work = own_work guest command.entry share is in
        planned-kinds (λ p. (share.plan ≡ p) → list_any (in_span addr) (units_shown p (others k h.left) bounce) ≡ true
        → (list_any (in_span addr) (units_shown p h.left bounce) ≡ true) ⊎ (v_moved.memory addr ≡ u_moved.memory addr)) guest command.entry share is
        (λ same e. cc) (λ fits same e. cc)
        (λ same e.
        (let chosen = any-chosen (in_span addr) (is_read own.opcode) (unit_spans bounce (others k h.left) 0 (length own.units)) e in
        by_unit own same chosen.0 (bounced-read addr same (sym (ap is_read (own-of guest command.entry share is).opcode) ∙ chosen.0))
        (units-split addr bounce k h.left (length own.units) 0 chosen.1))) refl
      where
        by_unit : (own : Work) → share.plan ≡ Bounced own → is_read own.opcode ≡ true
            → (IsOfUnit addr bounce k 0 (length own.units) → v_moved.memory addr ≡ u_moved.memory addr)
            → (list_any (in_span addr) (unit_spans bounce h.left 0 (length own.units)) ≡ true) ⊎ IsOfUnit addr bounce k 0 (length own.units)
            → (list_any (in_span addr) (units_shown (Bounced own) h.left bounce) ≡ true) ⊎ (v_moved.memory addr ≡ u_moved.memory addr)
        by_unit own same reads read (inl before) =
            inl (ap (λ b. list_any (in_span addr) (cond b (unit_spans bounce h.left 0 (length own.units)) [])) reads ∙ before)
        by_unit own same reads read (inr of) = inr (read of)

  -- ---- the event

  moved-alike : (lane tag k : ℕ) (l m : Lane) (d e : DeviceLane) (h : Held) (t : Tag) → slice_get w.lanes lane ≡ Some l → slice_get z.lanes lane ≡ Some m
      → slice_get w.device lane ≡ Some d → slice_get z.device lane ≡ Some e → lane_numbers l ≡ lane_numbers m → ring_numbers d ≡ ring_numbers e
      → slice_get l.tags tag ≡ Some t → slice_get d.held tag ≡ Some (Some h) → slice_get e.held tag ≡ Some (Some h) → guest_of_one (tag_of w lane tag) ≡ Some number
      → list_any (λ x. x == k) h.left ≡ true
      → Behind (device_moved geometry.disk_blocks lane tag k h w) (device_moved geometry.disk_blocks lane tag k h z)
  unfolding device_moved
  moved-alike lane tag k l m d e h t at too there again numbers rings found held held_too own left =
      let before = fine.lanes lane l d at there in
      let lane_below = slice_get-below w.lanes lane l at in
      let tags = before.positions.tags in
      let among = slice_get-below l.tags tag t found in
      let tag_below : tag < tag_count = omega (arith, tags, among) in
      let holds = held-flies geometry lane tag w.host l.head d h t (before.tags tag t (Some h) found held) in
      let command = holds.command in
      let share = holds.share in
      let was = Flying command share InDevice in
      let flies : slice_get l.tags tag ≡ Some was = found ∙ ap (λ x. Some x) holds.flies in
      let here : tag_of w lane tag ≡ Some was = ap (λ o. tag_in o tag) at ∙ flies in
      let named : command.guest ≡ number = some-same command.guest number (sym (ap guest_of_one here) ∙ own) in
      let mine : is_tag_of number (Some was) ≡ true = eq-eqb command.guest number named in
      let x = found-both geometry w z number guest given alike lane tag l m d e was at too there again numbers rings flies mine in
      let same_guest : holds.guest ≡ guest = some-same holds.guest guest (sym holds.is.given ∙ ap (slice_get geometry.guests) named ∙ given) in
      let whose : slice_get geometry.guests command.guest ≡ Some guest = ap (slice_get geometry.guests) named ∙ given in
      let planned : IsPlanned guest command.entry share = subst (λ g. IsPlanned g command.entry share) same_guest holds.planned in
      let in_device : IsInDevice geometry guest command.entry share lane tag w.host h = subst (λ g. IsInDevice geometry g command.entry share lane tag w.host h) same_guest holds.in_device in
      let r = device_unit k geometry.disk_blocks h w.host w.disk w.kept in
      let s = device_unit k geometry.disk_blocks h z.host z.disk z.kept in
      let effect = effect-alike lane tag lane_below tag_below command share h here mine whose planned holds.some in_device k left in
      let kept = memory-alike lane tag lane_below tag_below command share h here mine whose planned holds.some in_device k left in
      let now = with_held tag (Some (unit_gone k r.differed h)) d in
      let later = with_held tag (Some (unit_gone k s.differed h)) e in
      let v = record (with_device lane (with_held tag (Some (unit_gone k r.differed h))) w) { host = r.memory; disk = r.disk; kept = r.kept } in
      let u = record (with_device lane (with_held tag (Some (unit_gone k s.differed h))) z) { host = s.memory; disk = s.disk; kept = s.kept } in
      let device : v.device ≡ set w.device lane now = ap (λ o. changed_at o lane (with_held tag (Some (unit_gone k r.differed h))) w.device) there in
      let device_too : u.device ≡ set z.device lane later = ap (λ o. changed_at o lane (with_held tag (Some (unit_gone k s.differed h))) z.device) again in
      let bounce = bounce_page geometry.mediator lane tag in
      let held_now : held_in (slice_get v.device lane) tag ≡ Some (unit_gone k r.differed h) =
      ap (λ ds. held_in (slice_get ds lane) tag) device ∙ ap (λ o. held_in o tag) (slice_get-set w.device lane d now there)
      ∙ ap held_by (slice_get-set d.held tag (Some h) (Some (unit_gone k r.differed h)) held) in
      let held_before : held_in (slice_get w.device lane) tag ≡ Some h = ap (λ o. held_in o tag) there ∙ ap held_by held in
      lane-alike geometry number guest w z alike lane tag was was was x l m now later v u
      (sym (set-same l.tags tag was flies)) (sym (set-same m.tags tag was x.tag_two)) numbers (sym (set-same w.lanes lane l at)) (sym (set-same z.lanes lane m too)) device device_too
      (ap (λ n. record { head = d.head; tail = d.tail; posted = d.posted; phase = d.phase; slots = n }) (length-set d.held tag (Some (unit_gone k r.differed h)))
      ∙ rings ∙ sym (ap (λ n. record { head = e.head; tail = e.tail; posted = e.posted; phase = e.phase; slots = n }) (length-set e.held tag (Some (unit_gone k s.differed h)))))
      (λ b apart. held-put d.held tag (Some (unit_gone k r.differed h)) b apart) (λ b apart. held-put e.held tag (Some (unit_gone k s.differed h)) b apart)
      kept
      (bytes-elsewhere geometry w r.memory lane tag l.head l d (record d { held = set d.held tag (Some (unit_gone k r.differed h)) }) fine at there
      (moved-elsewhere host_bytes geometry (length w.lanes) lane tag laid lane_below tag_below guest command.guest whose command.entry share planned h w.host in_device k w.disk w.kept)
      (λ b y apart b_below is.
      moved-undisturbed host_bytes geometry (length w.lanes) lane tag laid lane_below tag_below guest command.guest whose command.entry share planned h w.host in_device k
      w.disk w.kept b l.head d (set d.held tag (Some (unit_gone k r.differed h))) y apart b_below))
      effect.disk effect.kept alike.view.controller refl refl
      (λ addr is lies.
      flying-shows guest geometry v lane tag command share InDevice addr (v.host addr ≡ u.host addr) lies (λ by_slot. cc)
      (λ by_list. kept addr (own-same geometry number guest w z alike lane tag was addr here mine (list-is guest geometry w lane tag command share InDevice addr by_list)))
      (λ by_source. kept addr (own-same geometry number guest w z alike lane tag was addr here mine (source-is guest geometry w lane tag command share InDevice addr by_source)))
      (λ by_read.
      elim (units-alike lane tag lane_below tag_below command share h here mine whose planned holds.some in_device k left addr
      (sym (ap (λ o. list_any (in_span addr) (moved_shown o share.plan bounce)) held_now) ∙ by_read)) [
        | inl before_it ↦ kept addr (own-same geometry number guest w z alike lane tag was addr here mine (read-is guest geometry w lane tag command share InDevice addr
            (ap (λ o. list_any (in_span addr) (moved_shown o share.plan bounce)) held_before ∙ before_it)))
        | inr by_unit ↦ by_unit
      ]))
      (ap (own_held number (Some was))
      (ap held_by (slice_get-set d.held tag (Some h) (Some (unit_gone k r.differed h)) held)
      ∙ ap (λ b. Some (unit_gone k b h)) effect.differed
      ∙ sym (ap held_by (slice_get-set e.held tag (Some h) (Some (unit_gone k s.differed h)) held_too))))

  pub moves-alike : (lane slot k : ℕ) → guest_of_one (tag_of w lane slot) ≡ Some number
      → Behind (step geometry (event.DevMove lane slot k) w).world (step geometry (event.DevMove lane slot k) z).world
  unfolding step
  moves-alike lane slot k own =
      slot-both host_bytes geometry w z laid fine number guest given alike lane slot
      (λ d h. device_move geometry.disk_blocks lane slot k h w) (λ e h. device_move geometry.disk_blocks lane slot k h z) own
      (λ d e h there again rings held held_too.
      either-both Behind w z alike (list_any (λ x. x == k) h.left) (list_any (λ x. x == k) h.left) refl _ _ _ _
      (λ left.
      (let among = slice_get-below w.device lane d there in
      let sides = fine.sides in
      let l = slice_get-there w.lanes lane (omega (arith, among, sides)) in
      let m = lane-too geometry w z number guest given alike lane l.0 l.1 in
      let before = fine.lanes lane l.0 d l.1 there in
      let tags = before.positions.tags in
      let sized = before.positions.held in
      let under = slice_get-below d.held slot (Some h) held in
      let t = slice_get-there l.0.tags slot (omega (arith, tags, sized, under)) in
      moved-alike lane slot k l.0 m.0 d e h t.0 l.1 m.1 there again m.2 rings t.1 held held_too own left)) (λ none. alike))
