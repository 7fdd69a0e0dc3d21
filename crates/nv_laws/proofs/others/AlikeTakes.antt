-- A guest's entries that the device takes, in worlds that look alike to it: they look alike behind it. The device reads the entry and its list, which are shown.
use Rattle.std.proofs.Common.{◌≡◌, ℕ, zero, suc, ◌+◌, ◌*◌, ◌<◌, ◌≤◌, inl, inr, true, false, not, ◌||◌, ◌==◌, List}
use Rattle.std.proofs.Common.{length, set, slice_get, Option, Some, arith, refl, sym, ap, ◌∙◌, eq-eqb, subst}
use Rattle.std.specs.List.{list_any, range_with_len}
use Rattle.std.proofs.lemmas.Bool.{cases_eq, eqb-false}
use Rattle.nv_entry.specs.Submission.{cid_of}
use Rattle.nv_model.specs.Judge.{Clear, Form, Keep, Manage, Transfer, Work, form_is_read, form_of, is_read}
use Rattle.nv_model.specs.Memory.{bytes_from}
use Rattle.nv_model.specs.Queue.{is_empty, next_slot, sqe_size}
use Rattle.nv_world_model.specs.declared.event.Event.TheVariants as event
use Rattle.nv_world_model.specs.Area.{addresses_of, bounce_page, list_bytes, list_page, prps_of, ring_size, submission_slot, tag_count}
use Rattle.nv_world_model.specs.Contained.{front_guest, guest_of_one, is_queued_at, tag_stands}
use Rattle.nv_world_model.specs.Device.{DeviceLane, Held, entry_taken, front_entry, held_of}
use Rattle.nv_world_model.specs.Geometry.{Geometry, Guest}
use Rattle.nv_world_model.specs.Share.{Share}
use Rattle.nv_world_model.specs.ShareArea.{share_entry}
use Rattle.nv_world_model.specs.ShareArea.{is_no_command}
use Rattle.nv_world_model.specs.Seat.{held_by, held_in}
use Rattle.nv_world_model.specs.Step.{device_take, device_took, stands, step}
use Rattle.nv_world_model.specs.View.{IsAlike, guest_of_tag, is_tag_of, lane_numbers, moved_shown, own_held, ring_numbers, units_shown}
use Rattle.nv_world_model.specs.World.{Command, Flying, InDevice, Lane, Queued, Tag, World, tag_changed, tag_in, tag_of, with_device}
use Rattle.nv_world_model.proofs.Seats.{slice_get-set}
use Rattle.nv_laws_sound.specs.Area.{Shows}
use Rattle.nv_laws_sound.specs.Consistent.{IsConsistentOfTags, IsPlanned}
use Rattle.nv_laws_sound.specs.LaidOut.{IsLaidOut}
use Rattle.nv_laws_sound.proofs.EntryFields.{entry-cid, own_units}
use Rattle.nv_laws_sound.proofs.HeldEntries.{held-all, held-same}
use Rattle.nv_laws_sound.proofs.Lists.{length-set, slice_get-below, slice_get-there, some-same}
use Rattle.nv_laws_sound.proofs.OwnWork.{own-of}
use Rattle.nv_laws_sound.proofs.PlanSizes.{own_work, planned-kinds}
use Rattle.nv_laws_sound.proofs.Retags.{stands-is}
use Rattle.nv_laws_sound.proofs.Rings.{between-head, far-some}
use Rattle.nv_laws_sound.proofs.Shows.{shows-between}
use Rattle.nv_laws_sound.proofs.TakenEvents.{queued-at}
use Rattle.nv_laws.proofs.others.AlikeLanes.{entry-same, flying-shows, lane-alike, list-is, one-in, own-same, source-is}
use Rattle.nv_laws.proofs.others.AlikeReplies.{rings-same, slot-here}
use Rattle.nv_laws.proofs.others.AlikeSubmits.{list-length}
use Rattle.nv_laws.proofs.others.AlikeUnits.{spans_with, unit_spans}
use Rattle.nv_laws.proofs.others.AlikeWalks.{device-both, either-both, found-both, lane-too}
use Rattle.nv_laws.proofs.others.Behind.{numbers-retagged}
use Rattle.nv_laws.proofs.others.Parts.{held-put}
use Rattle.nv_laws.proofs.others.RingEvents.{front-is}
use Rattle.nv_laws.proofs.others.Shown.{any-chosen, in_span}

-- ---- the world behind it

took-is : (mediator : ℕ) (w : World) (lane tag slot : ℕ) (l : Lane) (d : DeviceLane) (command : Command) (share : Share) (entry : List ℕ) → slice_get w.lanes lane ≡ Some l
    → slice_get w.device lane ≡ Some d → slice_get l.tags tag ≡ Some (Flying command share (Queued slot)) → front_entry mediator lane d w.host ≡ entry → cid_of entry ≡ tag
    → device_took lane (front_entry mediator lane d w.host) w
    ≡ record w {
      lanes = set w.lanes lane (tag_changed tag (Flying command share InDevice) l);
      device = set w.device lane (record d { head = next_slot ring_size d.head; held = set d.held tag (Some (held_of entry w.host)) });
    }
unfolding device_took
took-is mediator w lane tag slot l d command share entry at there flies front cid =
    ap (λ e. stands InDevice lane (cid_of e) (with_device lane (entry_taken e w.host) w)) front
    ∙ ap (λ n. stands InDevice lane n (with_device lane (λ x. record x { head = next_slot ring_size x.head; held = set x.held n (Some (held_of entry w.host)) }) w)) cid
    ∙ stands-is w lane tag l d command share (Queued slot) InDevice w.host
    (λ x. record x { head = next_slot ring_size x.head; held = set x.held tag (Some (held_of entry w.host)) }) at there flies

numbers-taken : (d e : DeviceLane) (tag : ℕ) (h g : Option Held) → ring_numbers d ≡ ring_numbers e
    → ring_numbers (record d { head = next_slot ring_size d.head; held = set d.held tag h }) ≡ ring_numbers (record e { head = next_slot ring_size e.head; held = set e.held tag g })
numbers-taken d e tag h g same =
    ap (λ n. record { head = next_slot ring_size d.head; tail = d.tail; posted = d.posted; phase = d.phase; slots = n }) (length-set d.held tag h)
    ∙ ap (λ n. record { head = next_slot ring_size n.head; tail = n.tail; posted = n.posted; phase = n.phase; slots = n.slots }) same
    ∙ sym (ap (λ n. record { head = next_slot ring_size e.head; tail = e.tail; posted = e.posted; phase = e.phase; slots = n }) (length-set e.held tag g))

-- ---- none of its units has moved

row-any : (k from n : ℕ) → from ≤ k → k < from + n → list_any (λ o. o == k) (range_with_len from n) ≡ true
row-any k from zero low high = absurd (omega (arith, low, high))
row-any k from (suc n) low high =
    elim (cases_eq from k) [
      | inl same ↦ ap (λ b. b || list_any (λ o. o == k) (range_with_len (from + 1) n)) (eq-eqb from k same)
      | inr other ↦ (elim (from == k) as (λ b. (b || list_any (λ o. o == k) (range_with_len (from + 1) n)) ≡ true) [
        | true ↦ refl
        | false ↦ row-any k (from + 1) n (omega (arith, low, other)) (omega (arith, high))
      ])
    ]

units-none : (addr bounce : ℕ) (left : List ℕ) (n from : ℕ) → ((k : ℕ) → from ≤ k → k < from + n → list_any (λ o. o == k) left ≡ true)
    → list_any (in_span addr) (unit_spans bounce left from n) ≡ false
units-none addr bounce left zero from each = refl
units-none addr bounce left (suc n) from each =
    ap (λ b.
    list_any (in_span addr) (spans_with bounce left from n (not b)))
    (each from (omega arith) (omega arith))
    ∙ units-none addr bounce left n (from + 1) (λ k low high. each k (omega (arith, low)) (omega (arith, high)))

-- a Read has a unit for each block
read-count : (form : Form) (own : Work) → form_is_read form ≡ true → own_units form own ≡ length own.units
read-count (Transfer dest) own e = refl
read-count Clear own e = cc
read-count Manage own e = cc
read-count Keep own e = cc

module _ (host_bytes : ℕ) (geometry : Geometry) (w z : World) (laid : IsLaidOut host_bytes (length w.lanes) geometry) (fine : IsConsistentOfTags geometry w)
    (number : ℕ) (guest : Guest) (given : slice_get geometry.guests number ≡ Some guest) (alike : IsAlike number guest geometry w z) where
  abbrev Behind : World → World → Type 0
  Behind v u = IsAlike number guest geometry v u

  -- nothing of it is shown as moved
  nothing-moved : (owner : ℕ) → slice_get geometry.guests owner ≡ Some guest → (lane tag : ℕ) → lane < length w.lanes → tag < tag_count → (entry : List ℕ) (share : Share)
      → IsPlanned guest entry share → is_no_command share ≡ false → (addr : ℕ)
      → list_any (in_span addr) (units_shown share.plan (held_of (share_entry share guest.namespace guest entry geometry.mediator lane tag) w.host).left
      (bounce_page geometry.mediator lane tag)) ≡ true → ⊥
  nothing-moved owner whose lane tag lane_below tag_below entry share is some addr =
      let bounce = bounce_page geometry.mediator lane tag in
      let left = (held_of (share_entry share guest.namespace guest entry geometry.mediator lane tag) w.host).left in
      let all = held-all host_bytes (length w.lanes) geometry laid owner guest whose lane tag lane_below tag_below entry share is some w.host in
      let part = own-of guest entry share is in
      let own : Work = own_work guest entry share is in
      planned-kinds (λ p. list_any (in_span addr) (units_shown p left bounce) ≡ true → ⊥) guest entry share is (λ e. cc) (λ fits e. cc)
      (λ e.
      (let chosen = any-chosen (in_span addr) (is_read own.opcode) (unit_spans bounce left 0 (length own.units)) e in
      let count = read-count (form_of is.work.opcode) own (sym (ap is_read part.opcode) ∙ chosen.0) in
      let none = units-none addr bounce left (length own.units) 0 (λ k low high.
      ap (list_any (λ o. o == k)) all ∙ row-any k 0 (own_units (form_of is.work.opcode) own) low (omega (arith, high, count))) in
      let bad : true ≡ false = sym chosen.1 ∙ none in
      cc))

  took-alike : (lane tag : ℕ) (l m : Lane) (d e : DeviceLane) (held : Option Held) (t : Tag) → slice_get w.lanes lane ≡ Some l → slice_get z.lanes lane ≡ Some m
      → slice_get w.device lane ≡ Some d → slice_get z.device lane ≡ Some e → lane_numbers l ≡ lane_numbers m → ring_numbers d ≡ ring_numbers e
      → slice_get l.tags tag ≡ Some t → slice_get d.held tag ≡ Some held → tag_stands (is_queued_at d.head) t ≡ true → guest_of_tag t ≡ Some number
      → Behind (device_took lane (front_entry geometry.mediator lane d w.host) w) (device_took lane (front_entry geometry.mediator lane e z.host) z)
  took-alike lane tag l m d e held t at too there again numbers rings found under next own =
      let before = fine.lanes lane l d at there in
      let lane_below = slice_get-below w.lanes lane l at in
      let tags = before.positions.tags in
      let among = slice_get-below l.tags tag t found in
      let tag_below : tag < tag_count = omega (arith, tags, among) in
      let a = queued-at geometry lane tag d.head w.host l.head d held t (before.tags tag t held found under) next in
      let command = a.command in
      let share = a.share in
      let was = Flying command share (Queued d.head) in
      let new = Flying command share InDevice in
      let flies : slice_get l.tags tag ≡ Some was = found ∙ ap (λ x. Some x) a.flies in
      let here : tag_of w lane tag ≡ Some was = ap (λ o. tag_in o tag) at ∙ flies in
      let named : command.guest ≡ number = some-same command.guest number (sym (ap guest_of_tag a.flies) ∙ own) in
      let mine : is_tag_of number (Some was) ≡ true = eq-eqb command.guest number named in
      let x = found-both geometry w z number guest given alike lane tag l m d e was at too there again numbers rings flies mine in
      let same_guest : a.guest ≡ guest = some-same a.guest guest (sym a.is.given ∙ ap (slice_get geometry.guests) named ∙ given) in
      let whose : slice_get geometry.guests command.guest ≡ Some guest = ap (slice_get geometry.guests) named ∙ given in
      let planned : IsPlanned guest command.entry share = subst (λ g. IsPlanned g command.entry share) same_guest a.planned in
      let list = list_page geometry.mediator lane tag in
      let bounce = bounce_page geometry.mediator lane tag in
      let shown : Shows w.host list (list_bytes (prps_of share.plan guest list bounce)) = subst (λ g. Shows w.host list (list_bytes (prps_of share.plan g list bounce))) same_guest a.pages.list in
      let long = list-length list (addresses_of share.plan guest bounce) in
      let shown_too : Shows z.host list (list_bytes (prps_of share.plan guest list bounce)) =
      shows-between w.host z.host list (list + length (list_bytes (prps_of share.plan guest list bounce))) list (list_bytes (prps_of share.plan guest list bounce))
      (λ addr low high.
      own-same geometry number guest w z alike lane tag was addr here mine
      (list-is guest geometry w lane tag command share (Queued d.head) addr
      (one-in addr list (8 * (prps_of share.plan guest list bounce).used) low (omega (arith, high, long))))) (omega arith) (omega arith) shown in
      let entry = share_entry share guest.namespace guest command.entry geometry.mediator lane tag in
      let front : front_entry geometry.mediator lane d w.host ≡ entry = a.entry_is ∙ ap (λ g. share_entry share g.namespace g command.entry geometry.mediator lane tag) same_guest in
      let front_too : front_entry geometry.mediator lane e z.host ≡ entry =
      ap (λ n. bytes_from z.host (submission_slot geometry.mediator lane n.head) sqe_size) (sym rings)
      ∙ sym (entry-same geometry number guest w z alike lane tag d.head command share here mine) ∙ front in
      let cid = entry-cid share guest command.entry geometry.mediator lane tag tag_below in
      let same = held-same host_bytes (length w.lanes) geometry laid command.guest guest whose lane tag lane_below tag_below command.entry share planned a.some w.host z.host shown shown_too in
      let h = held_of entry w.host in
      let g = held_of entry z.host in
      let now = record d { head = next_slot ring_size d.head; held = set d.held tag (Some h) } in
      let later = record e { head = next_slot ring_size e.head; held = set e.held tag (Some g) } in
      let v = record w { lanes = set w.lanes lane (tag_changed tag new l); device = set w.device lane now } in
      let u = record z { lanes = set z.lanes lane (tag_changed tag new m); device = set z.device lane later } in
      let under_too : slice_get e.held tag ≡ Some held =
      sym (slot-here geometry w z number guest given alike lane tag d e there again rings (ap (λ o. guest_of_one o) here ∙ ap (λ n. Some n) named)) ∙ under in
      let holding : held_in (slice_get v.device lane) tag ≡ Some h =
      ap (λ o. held_in o tag) (slice_get-set w.device lane d now there) ∙ ap held_by (slice_get-set d.held tag held (Some h) under) in
      subst (λ y. Behind y (device_took lane (front_entry geometry.mediator lane e z.host) z)) (sym (took-is geometry.mediator w lane tag d.head l d command share entry at there flies front cid))
      (subst (λ y. Behind v y) (sym (took-is geometry.mediator z lane tag d.head m e command share entry too again x.tag_two front_too cid))
      (lane-alike geometry number guest w z alike lane tag was was new x (tag_changed tag new l) (tag_changed tag new m) now later v u
      refl refl (numbers-retagged l m tag new numbers) refl refl refl refl (numbers-taken d e tag (Some h) (Some g) rings)
      (λ b apart. held-put d.held tag (Some h) b apart) (λ b apart. held-put e.held tag (Some g) b apart)
      (λ addr is. is) (λ p q y addr apart is lies. refl) alike.view.blocks alike.marks alike.view.controller refl refl
      (λ addr is lies.
      flying-shows guest geometry v lane tag command share InDevice addr (w.host addr ≡ z.host addr) lies (λ by_slot. cc)
      (λ by_list. own-same geometry number guest w z alike lane tag was addr here mine (list-is guest geometry w lane tag command share (Queued d.head) addr by_list))
      (λ by_source. own-same geometry number guest w z alike lane tag was addr here mine (source-is guest geometry w lane tag command share (Queued d.head) addr by_source))
      (λ by_read.
      absurd (nothing-moved command.guest whose lane tag lane_below tag_below command.entry share planned a.some addr
      (sym (ap (λ o. list_any (in_span addr) (moved_shown o share.plan bounce)) holding) ∙ by_read))))
      (ap (own_held number (Some new))
      (ap held_by (slice_get-set d.held tag held (Some h) under) ∙ ap (λ y. Some y) same ∙ sym (ap held_by (slice_get-set e.held tag held (Some g) under_too))))))

  pub device_takes-alike : (lane : ℕ) → front_guest (slice_get w.lanes lane) (slice_get w.device lane) ≡ Some number
      → Behind (step geometry (event.DevTake lane) w).world (step geometry (event.DevTake lane) z).world
  unfolding step
  device_takes-alike lane mine =
      device-both Behind w z alike (slice_get w.device lane) (slice_get z.device lane) (rings-same geometry w z number guest given alike lane)
      (λ d. device_take geometry.mediator lane d w) (λ e. device_take geometry.mediator lane e z) (λ d e there again rings.
      either-both Behind w z alike (is_empty d.head d.tail) (is_empty e.head e.tail) (ap (λ n. is_empty n.head n.tail) rings) _ _ _ _ (λ none. alike) (λ some.
      (let among = slice_get-below w.device lane d there in
      let sides = fine.sides in
      let l = slice_get-there w.lanes lane (omega (arith, among, sides)) in
      let m = lane-too geometry w z number guest given alike lane l.0 l.1 in
      let before = fine.lanes lane l.0 d l.1 there in
      let waits : d.head ≡ d.tail → ⊥ = eqb-false d.head d.tail some in
      let next = before.queued d.head (between-head d.head d.tail before.positions.head before.positions.tail (far-some d.head d.tail before.positions.head before.positions.tail waits)) in
      let tags = before.positions.tags in
      let sized = before.positions.held in
      let inside = slice_get-below l.0.tags next.tag next.there next.is in
      let held = slice_get-there d.held next.tag (omega (arith, tags, sized, inside)) in
      took-alike lane next.tag l.0 m.0 d e held.0 next.there l.1 m.1 there again m.2 rings next.is held.1 next.stands
      (sym (front-is host_bytes geometry w laid fine lane l.0 d next.tag next.there l.1 there next.is next.stands) ∙ mine))))
