-- A guest's commands that are handed on, in worlds that look alike to it: they look alike behind it. What is shown of such a command is its entry, its list, and a
-- source that is bounced, all of which are written by the event.
use Rattle.std.proofs.Common.{◌≡◌, ℕ, ◌+◌, ◌-◌, ◌*◌, ◌<◌, ◌≤◌, true, false, cond, List, [], ◌∷◌, flat_map, length}
use Rattle.std.proofs.Common.{replicate, set, slice_get, Some, arith, refl}
use Rattle.std.proofs.Common.{sym, ap, ◌∙◌, eq-eqb, length-append, subst}
use Rattle.std.specs.List.{list_any}
use Rattle.std.proofs.Math.Seq.{take-append_seam}
use Rattle.nv_entry.specs.Layout.{number_bytes}
use Rattle.nv_mem.specs.Places.{places_of, total_len}
use Rattle.nv_mem.proofs.PlaceLists.{length-places_of}
use Rattle.nv_model.specs.Controller.{Controller}
use Rattle.nv_model.specs.Judge.{Clear, Form, Keep, Manage, Transfer, Work, form_has_buffer, form_is_read, form_of, has_buffer, is_read}
use Rattle.nv_model.specs.Memory.{gathered, image, stored}
use Rattle.nv_model.specs.Queue.{next_slot, sqe_size}
use Rattle.nv_model.specs.Transcript.{ReadDone}
use Rattle.nv_model.proofs.MemoryAlike.{stored-at}
use Rattle.nv_model.proofs.MemoryLemmas.{length-gathered}
use Rattle.nv_prp.specs.Built.{built, entries_of, listed}
use Rattle.nv_world_model.specs.Area.{addresses_of, bounce_page, list_bytes, list_page, prps_of, ring_size}
use Rattle.nv_world_model.specs.Area.{submission_slot, tag_count, translated_range}
use Rattle.nv_world_model.specs.Share.{Share}
use Rattle.nv_world_model.specs.ShareArea.{form_own_bytes, own_bytes, share_entry}
use Rattle.nv_world_model.specs.ShareArea.{share_written}
use Rattle.nv_world_model.specs.Contained.{tag_stands}
use Rattle.nv_world_model.specs.Device.{DeviceLane, rung}
use Rattle.nv_world_model.specs.Geometry.{Geometry, Guest, regions_of}
use Rattle.nv_world_model.specs.Plan.{Answer, Bounced, Direct, NoData, Plan}
use Rattle.nv_world_model.specs.Seat.{Owner, held_in}
use Rattle.nv_world_model.specs.Step.{submitted}
use Rattle.nv_world_model.specs.View.{IsAlike, is_tag_of, own_held, ring_numbers, source_shown}
use Rattle.nv_world_model.specs.World.{Command, Flying, Queued, Taken, World, tag_changed, tag_of}
use Rattle.nv_laws_sound.specs.Consistent.{IsConsistentOfTags, IsPlanned, waits_for_device}
use Rattle.nv_laws_sound.specs.LaidOut.{IsLaidOut}
use Rattle.nv_laws_sound.proofs.Lists.{count-fewer, slice_get-below}
use Rattle.nv_laws_sound.proofs.OwnWork.{own-of, own_len}
use Rattle.nv_laws_sound.proofs.PlanSizes.{entry-length, own_work, planned-by}
use Rattle.nv_laws_sound.proofs.Retags.{is-at}
use Rattle.nv_laws_sound.proofs.Rings.{far}
use Rattle.nv_laws_sound.proofs.SubmitEvents.{entered-elsewhere, entered-undisturbed, submitted-is}
use Rattle.nv_laws.proofs.others.AlikeLanes.{flying-shows, lane-alike, stored-both}
use Rattle.nv_laws.proofs.others.AlikeReplies.{memory, own}
use Rattle.nv_laws.proofs.others.AlikeWalks.{found-both, held-too, lane-too}
use Rattle.nv_laws.proofs.others.Behind.{numbers-retagged}
use Rattle.nv_laws.proofs.others.Leaving.{bytes-elsewhere}
use Rattle.nv_laws.proofs.others.Shown.{any-not_chosen, in-one, in_span}

-- ---- lengths

length-eights : (numbers : List ℕ) → length (flat_map (number_bytes 8) numbers) ≡ 8 * length numbers
length-eights [] = omega arith
length-eights (number ∷ numbers) =
    let rest = length-eights numbers in
    let one : length (number_bytes 8 number) ≡ 8 = refl in
    length-append (number_bytes 8 number) (flat_map (number_bytes 8) numbers) ∙ omega (arith, one, rest)

-- a list has eight bytes an entry
pub list-length : (list : ℕ) (addresses : List ℕ) → length (list_bytes (built list addresses)) ≡ 8 * (built list addresses).used
unfolding built
list-length list addresses =
    let numbers = listed (entries_of addresses) in
    ap (λ ns. length (flat_map (number_bytes 8) ns)) (take-append_seam numbers (replicate (32 - length numbers) 0)) ∙ length-eights numbers

length-ranges : (guest : Guest) (ranges : List (List ℕ)) → length (flat_map (translated_range guest.namespace) ranges) ≡ 16 * length ranges
length-ranges guest [] = omega arith
length-ranges guest (range ∷ ranges) =
    let rest = length-ranges guest ranges in
    let one : length (translated_range guest.namespace range) ≡ 16 = refl in
    length-append (translated_range guest.namespace range) (flat_map (translated_range guest.namespace) ranges) ∙ omega (arith, one, rest)

-- what is bounced of a share that is no Read's is as long as its transfer
form-length : (form : Form) (guest : Guest) (host : ℕ → ℕ) (own : Work) → form_has_buffer form ≡ true → form_is_read form ≡ false
    → total_len own.pieces ≡ own_len form own → length (form_own_bytes form guest.namespace guest host own) ≡ total_len own.pieces
form-length (Transfer true) guest host own buffer other total = cc
form-length (Transfer false) guest host own buffer other total =
    length-gathered (image (regions_of guest) host) (places_of own.pieces) ∙ length-places_of own.pieces
form-length Clear guest host own buffer other total = cc
form-length Manage guest host own buffer other total = let sized = length-ranges guest own.ranges in omega (arith, sized, total)
form-length Keep guest host own buffer other total = cc

-- so a source that is shown is what is bounced
source-written : (guest : Guest) (entry : List ℕ) (share : Share) (host : ℕ → ℕ) (bounce addr : ℕ) → IsPlanned guest entry share
    → list_any (in_span addr) (source_shown share.plan bounce) ≡ true
    → (bounce ≤ addr) × (addr < bounce + length (own_bytes share.plan guest.namespace guest host))
source-written guest entry share host bounce addr is =
    let part = own-of guest entry share is in
    let own : Work = own_work guest entry share is in
    planned-by (λ p. list_any (in_span addr) (source_shown p bounce) ≡ true
    → (bounce ≤ addr) × (addr < bounce + length (own_bytes p guest.namespace guest host))) guest entry share is
    (λ none e. cc) (λ buffer fits e. cc)
    (λ buffer e.
    (let shown = any-not_chosen (in_span addr) (is_read own.opcode) ((bounce, total_len own.pieces) ∷ []) e in
    let both = in-one addr bounce (total_len own.pieces) shown.1 in
    let high = both.1 in
    let sized = form-length (form_of own.opcode) guest host own (ap has_buffer part.opcode ∙ buffer) shown.0
    (part.total ∙ ap (λ o. own_len (form_of o) own) (sym part.opcode)) in
    (both.0, omega (arith, high, sized))))

-- ---- what is bounced is the same from the same memory

bounced-same : (plan : Plan) (guest : Guest) (host other : ℕ → ℕ) → image (regions_of guest) host ≡ image (regions_of guest) other
    → own_bytes plan guest.namespace guest host ≡ own_bytes plan guest.namespace guest other
bounced-same (Answer st) guest host other same = refl
bounced-same (NoData work) guest host other same = refl
bounced-same (Direct work) guest host other same = refl
bounced-same (Bounced work) guest host other same = by_form (form_of work.opcode)
  where
    by_form : (form : Form) → form_own_bytes form guest.namespace guest host work ≡ form_own_bytes form guest.namespace guest other work
    by_form (Transfer dest) = ap (λ m. cond dest [] (gathered m (places_of work.pieces))) same
    by_form Clear = refl
    by_form Manage = refl
    by_form Keep = refl

-- ---- what is written is the same

module _ (guest : Guest) (command : Command) (share : Share) (mediator lane tag slot : ℕ) (host other : ℕ → ℕ)
    (same : image (regions_of guest) host ≡ image (regions_of guest) other) where
  abbrev list : ℕ
  list = list_page mediator lane tag

  abbrev bounce : ℕ
  bounce = bounce_page mediator lane tag

  abbrev list_here : List ℕ
  list_here = list_bytes (prps_of share.plan guest list bounce)

  abbrev entry_here : List ℕ
  entry_here = share_entry share guest.namespace guest command.entry mediator lane tag

  abbrev on : (ℕ → ℕ) → (ℕ → ℕ) → ℕ → ℕ
  on memory from = stored memory bounce (own_bytes share.plan guest.namespace guest from)

  -- where the list's page is the same
  on-listed : (addr : ℕ) → stored host list list_here addr ≡ stored other list list_here addr
      → share_written share guest command.entry mediator lane tag slot host addr ≡ share_written share guest command.entry mediator lane tag slot other addr
  unfolding share_written
  on-listed addr is =
      stored-at (on (stored host list list_here) host) (on (stored other list list_here) other) (submission_slot mediator lane slot) entry_here addr
      (stored-at (stored host list list_here) (stored other list list_here) bounce (own_bytes share.plan guest.namespace guest host) addr is
      ∙ ap (λ bs. stored (stored other list list_here) bounce bs addr) (bounced-same share.plan guest host other same))

  pub written-kept : (addr : ℕ) → host addr ≡ other addr
      → share_written share guest command.entry mediator lane tag slot host addr ≡ share_written share guest command.entry mediator lane tag slot other addr
  written-kept addr is = on-listed addr (stored-at host other list list_here addr is)

  pub written-list : (addr : ℕ) → list ≤ addr → addr < list + length list_here
      → share_written share guest command.entry mediator lane tag slot host addr ≡ share_written share guest command.entry mediator lane tag slot other addr
  written-list addr low high = on-listed addr (stored-both host other list list_here addr low high)

  pub written-source : (addr : ℕ) → bounce ≤ addr → addr < bounce + length (own_bytes share.plan guest.namespace guest host)
      → share_written share guest command.entry mediator lane tag slot host addr ≡ share_written share guest command.entry mediator lane tag slot other addr
  unfolding share_written
  written-source addr low high =
      stored-at (on (stored host list list_here) host) (on (stored other list list_here) other) (submission_slot mediator lane slot) entry_here addr
      (stored-both (stored host list list_here) (stored other list list_here) bounce (own_bytes share.plan guest.namespace guest host) addr low high
      ∙ ap (λ bs. stored (stored other list list_here) bounce bs addr) (bounced-same share.plan guest host other same))

  pub written-entry : (addr : ℕ) → submission_slot mediator lane slot ≤ addr → addr < submission_slot mediator lane slot + length entry_here
      → share_written share guest command.entry mediator lane tag slot host addr ≡ share_written share guest command.entry mediator lane tag slot other addr
  unfolding share_written
  written-entry addr low high =
      stored-both (on (stored host list list_here) host) (on (stored other list list_here) other) (submission_slot mediator lane slot) entry_here addr low high

module _ (host_bytes : ℕ) (geometry : Geometry) (w z : World) (laid : IsLaidOut host_bytes (length w.lanes) geometry) (fine : IsConsistentOfTags geometry w)
    (number : ℕ) (guest : Guest) (given : slice_get geometry.guests number ≡ Some guest) (alike : IsAlike number guest geometry w z) where
  abbrev me : Controller → Owner
  me c = own geometry w z number guest given alike c

  abbrev Behind : World → World → Type 0
  Behind v u = IsAlike number guest geometry v u

  pub submitted-alike : (lane tag : ℕ) (command : Command) (reads : List ReadDone) (share : Share) (c : Controller) (d e : DeviceLane) → tag_of w lane tag ≡ Some (Taken command reads)
      → command.guest ≡ number → IsPlanned guest command.entry share → slice_get w.device lane ≡ Some d → slice_get z.device lane ≡ Some e → ring_numbers d ≡ ring_numbers e
      → Behind (submitted geometry.mediator lane tag command share (me c) d w) (submitted geometry.mediator lane tag command share (me c) e z)
  unfolding share_written
  submitted-alike lane tag command reads share c d e here whose planned there again rings =
      let t = Taken command reads in
      let mine : is_tag_of number (Some t) ≡ true = eq-eqb command.guest number whose in
      let a = is-at geometry w lane tag t fine here in
      let l = a.l in
      let m = lane-too geometry w z number guest given alike lane l a.at_lane in
      let x = found-both geometry w z number guest given alike lane tag l m.0 d e t a.at_lane m.1 there again m.2 rings a.at_tag mine in
      let before = fine.lanes lane l d a.at_lane there in
      let tags = before.positions.tags in
      let among = slice_get-below l.tags tag t a.at_tag in
      let tag_below : tag < tag_count = omega (arith, tags, among) in
      let waiting = count-fewer (tag_stands waits_for_device) l.tags tag t a.at_tag refl in
      let many = before.queued_count in
      let room : far d.head d.tail < 64 = omega (arith, waiting, many, tags) in
      let new = Flying command share (Queued d.tail) in
      let images = memory geometry w z number guest given alike in
      let host = share_written share guest command.entry geometry.mediator lane tag d.tail w.host in
      let other = share_written share guest command.entry geometry.mediator lane tag d.tail z.host in
      let v = record w { host = host; lanes = set w.lanes lane (tag_changed tag new l); device = set w.device lane (rung d) } in
      let u = record z { host = other; lanes = set z.lanes lane (tag_changed tag new m.0); device = set z.device lane (rung e) } in
      let kept = written-kept guest command share geometry.mediator lane tag d.tail w.host z.host images in
      let one = submitted-is w geometry.mediator lane tag command share (me c) l d a.at_lane there in
      let two : submitted geometry.mediator lane tag command share (me c) e z ≡ u =
      submitted-is z geometry.mediator lane tag command share (me c) m.0 e m.1 again
      ∙ ap (λ (n : ℕ). record z {
        host = share_written share guest command.entry geometry.mediator lane tag n z.host;
        lanes = set z.lanes lane (tag_changed tag (Flying command share (Queued n)) m.0);
        device = set z.device lane (rung e);
      }) (sym (ap (λ n. n.tail) rings)) in
      let sized = entry-length share guest command.entry geometry.mediator lane tag in
      let bounce = bounce_page geometry.mediator lane tag in
      let list = list_page geometry.mediator lane tag in
      subst (λ y. Behind y (submitted geometry.mediator lane tag command share (me c) e z)) (sym one)
      (subst (λ y. Behind v y) (sym two)
      (lane-alike geometry number guest w z alike lane tag t t new x (tag_changed tag new l) (tag_changed tag new m.0) (rung d) (rung e) v u
      refl refl (numbers-retagged l m.0 tag new m.2) refl refl refl refl
      (ap (λ n. record { head = n.head; tail = next_slot ring_size n.tail; posted = n.posted; phase = n.phase; slots = n.slots }) rings)
      (λ b apart. refl) (λ b apart. refl) kept
      (bytes-elsewhere geometry w host lane tag l.head l d (rung d) fine a.at_lane there
      (λ at apart below. entered-elsewhere host_bytes (length w.lanes) geometry laid guest command.entry share planned lane tag d.tail tag_below before.positions.tail w.host at apart)
      (λ b y apart b_below is.
      entered-undisturbed host_bytes (length w.lanes) geometry laid guest command.entry share planned lane tag d.tail tag_below before.positions.tail w.host b l.head d y apart
      b_below refl before.positions.head before.positions.tail room))
      alike.view.blocks alike.marks alike.view.controller refl refl
      (λ addr is lies.
      flying-shows guest geometry v lane tag command share (Queued d.tail) addr (host addr ≡ other addr) lies
      (λ by_slot.
      (let both = in-one addr (submission_slot geometry.mediator lane d.tail) sqe_size by_slot in
      let high = both.1 in
      written-entry guest command share geometry.mediator lane tag d.tail w.host z.host images addr both.0 (omega (arith, high, sized))))
      (λ by_list.
      (let both = in-one addr list (8 * (prps_of share.plan guest list bounce).used) by_list in
      let high = both.1 in
      let long = list-length list (addresses_of share.plan guest bounce) in
      written-list guest command share geometry.mediator lane tag d.tail w.host z.host images addr both.0 (omega (arith, high, long))))
      (λ by_source.
      (let both = source-written guest command.entry share w.host bounce addr planned by_source in
      written-source guest command share geometry.mediator lane tag d.tail w.host z.host images addr both.0 both.1))
      (λ by_read. cc))
      (ap (own_held number (Some new))
      (sym (ap (λ o. held_in o tag) there) ∙ held-too geometry w z number guest given alike lane tag t here mine ∙ ap (λ o. held_in o tag) again))))
