-- A guest's completions, in worlds that look alike to it: they look alike behind the device's posting of one, and the mediator's reading of one.
use Rattle.std.proofs.Common.{◌≡◌, ℕ, ◌^◌, ◌<◌, Bool, true, false, cond, ◌==◌, List, [], ◌∷◌, length, set, slice_get}
use Rattle.std.proofs.Common.{Option, Some, None, arith, refl, sym, ap, ◌∙◌, eq-eqb, subst}
use Rattle.std.specs.List.{list_any}
use Rattle.std.proofs.lemmas.Bool.{eqb-false}
use Rattle.nv_entry.specs.Completion.{completion, status_of}
use Rattle.nv_entry.specs.Status.{StatusField}
use Rattle.nv_entry.specs.StatusCode.{done_with}
use Rattle.nv_entry.specs.declared.status_code.StatusCode.TheVariants.{InternalError, Success}
use Rattle.nv_entry.proofs.CompletionLemmas.{completion-back, length-completion}
use Rattle.nv_model.specs.Memory.{bytes_from, stored}
use Rattle.nv_model.specs.Private.{moved_status}
use Rattle.nv_model.specs.Queue.{cqe_size, is_empty, next_slot}
use Rattle.nv_model.proofs.MemoryAlike.{stored-at}
use Rattle.nv_model.proofs.MemoryLemmas.{bytes_from-stored}
use Rattle.nv_world_model.specs.declared.event.Event.TheVariants as event
use Rattle.nv_world_model.specs.Area.{bounce_page, completion_slot, queue_pair, ring_size}
use Rattle.nv_world_model.specs.Contained.{guest_of_one, is_answered_at, next_guest, tag_stands}
use Rattle.nv_world_model.specs.Device.{DeviceLane, Held, completion_posted, completion_written, held_status, next_phase}
use Rattle.nv_world_model.specs.Geometry.{Geometry, Guest}
use Rattle.nv_world_model.specs.Seat.{completion_at, held_by, held_in}
use Rattle.nv_world_model.specs.Step.{After, completion_read, device_fail, device_post, device_posted, ended_at, for_one, for_held, is_success}
use Rattle.nv_world_model.specs.Step.{passed_on, reap, reaped, step}
use Rattle.nv_world_model.specs.View.{IsAlike, RingNumbers, guest_of_tag, is_tag_of, lane_numbers, moved_shown, own_held, ring_numbers, units_shown}
use Rattle.nv_world_model.specs.World.{Answered, Ended, Flying, InDevice, Lane, Tag, World, tag_changed, tag_in, tag_of, with_lane}
use Rattle.nv_world_model.proofs.Seats.{slice_get-set}
use Rattle.nv_laws_sound.specs.Consistent.{IsConsistentOfTags, waits_for_mediator}
use Rattle.nv_laws_sound.specs.LaidOut.{IsLaidOut}
use Rattle.nv_laws_sound.proofs.AnswerEvents.{answer-undisturbed, written-elsewhere}
use Rattle.nv_laws_sound.proofs.Lists.{count-fewer, length-set, set-same, slice_get-below, slice_get-there, some-same}
use Rattle.nv_laws_sound.proofs.MoveEvents.{held-flies}
use Rattle.nv_laws_sound.proofs.ReapEvents.{answered-at, ended-is}
use Rattle.nv_laws_sound.proofs.Retags.{stands-is}
use Rattle.nv_laws_sound.proofs.Rings.{between-head, far, far-some}
use Rattle.nv_laws.proofs.others.AlikeLanes.{completion-same, flying-shows, lane-alike, list-is, own-same, read-is, source-is, stored-both}
use Rattle.nv_laws.proofs.others.AlikeReplies.{lanes-same, rings-same, slot-here}
use Rattle.nv_laws.proofs.others.AlikeWalks.{device-both, either-both, found-both, held-both, held-too, lane-both, lane-too}
use Rattle.nv_laws.proofs.others.Behind.{numbers-read, numbers-retagged}
use Rattle.nv_laws.proofs.others.Leaving.{bytes-elsewhere}
use Rattle.nv_laws.proofs.others.Parts.{held-put}
use Rattle.nv_laws.proofs.others.RingEvents.{next-is}
use Rattle.nv_laws.proofs.others.Shown.{any-chosen, in-one, in_span}

-- ---- statuses

-- what is passed on succeeded where the command did
passed-success : (st : StatusField) → is_success (passed_on st) ≡ is_success st
passed-success st =
    (elim (is_success st) as (λ b. is_success st ≡ b → is_success (cond b (done_with Success) (cond (st.sct == 2) st (done_with InternalError))) ≡ b) [
      | true ↦ λ good. refl
      | false ↦ λ bad. (elim (st.sct == 2) as (λ b. is_success (cond b st (done_with InternalError)) ≡ false) [ true ↦ bad | false ↦ refl ])
    ]) refl

-- the numbers of a lane that has posted a completion
numbers-posted : (d e : DeviceLane) (tag : ℕ) → ring_numbers d ≡ ring_numbers e → ring_numbers (completion_posted tag d) ≡ ring_numbers (completion_posted tag e)
numbers-posted d e tag same =
    ap (λ n. record { head = d.head; tail = d.tail; posted = next_slot ring_size d.posted; phase = next_phase d.posted d.phase; slots = n }) (length-set d.held tag None)
    ∙ ap (λ n. record { head = n.head; tail = n.tail; posted = next_slot ring_size n.posted; phase = next_phase n.posted n.phase; slots = n.slots }) same
    ∙ sym (ap (λ n. record { head = e.head; tail = e.tail; posted = next_slot ring_size e.posted; phase = next_phase e.posted e.phase; slots = n }) (length-set e.held tag None))

module _ (host_bytes : ℕ) (geometry : Geometry) (w z : World) (laid : IsLaidOut host_bytes (length w.lanes) geometry) (fine : IsConsistentOfTags geometry w)
    (number : ℕ) (guest : Guest) (given : slice_get geometry.guests number ≡ Some guest) (alike : IsAlike number guest geometry w z) where
  abbrev Behind : World → World → Type 0
  Behind v u = IsAlike number guest geometry v u

  -- ---- completions that are read

  reaped-alike : (lane tag : ℕ) (l m : Lane) (d e : DeviceLane) (held : Option Held) (t : Tag) → slice_get w.lanes lane ≡ Some l → slice_get z.lanes lane ≡ Some m
      → slice_get w.device lane ≡ Some d → slice_get z.device lane ≡ Some e → lane_numbers l ≡ lane_numbers m → ring_numbers d ≡ ring_numbers e
      → slice_get l.tags tag ≡ Some t → slice_get d.held tag ≡ Some held → tag_stands (is_answered_at l.head) t ≡ true → guest_of_tag t ≡ Some number
      → Behind (reaped lane (completion_at geometry w lane l.head) w) (reaped lane (completion_at geometry z lane m.head) z)
  unfolding reaped
  reaped-alike lane tag l m d e held t at too there again numbers rings found under next own =
      let before = fine.lanes lane l d at there in
      let a = answered-at geometry lane tag l.head w.host l.head d held t (before.tags tag t held found under) next in
      let was = Flying a.command a.share (Answered l.head) in
      let flies : slice_get l.tags tag ≡ Some was = found ∙ ap (λ x. Some x) a.flies in
      let here : tag_of w lane tag ≡ Some was = ap (λ o. tag_in o tag) at ∙ flies in
      let mine : is_tag_of number (Some was) ≡ true = eq-eqb a.command.guest number (some-same a.command.guest number (sym (ap guest_of_tag a.flies) ∙ own)) in
      let x = found-both geometry w z number guest given alike lane tag l m d e was at too there again numbers rings flies mine in
      let bytes = completion_at geometry w lane l.head in
      let same : bytes ≡ completion_at geometry z lane m.head =
      completion-same geometry number guest w z alike lane tag l.head a.command a.share here mine ∙ ap (λ n. completion_at geometry z lane n.head) numbers in
      let st = status_of bytes in
      let new = Ended a.command (passed_on st) (Some a.share) in
      let now = tag_changed tag new (completion_read l) in
      let now_too = tag_changed tag new (completion_read m) in
      let bounce = bounce_page geometry.mediator lane tag in
      subst (λ bs. Behind (reaped lane bytes w) (reaped lane bs z)) same
      (subst (λ n. Behind (ended_at (tag_of w lane n) st lane n (with_lane lane completion_read w)) (ended_at (tag_of z lane n) st lane n (with_lane lane completion_read z))) (sym a.identifier)
      (subst (λ v. Behind v (ended_at (tag_of z lane tag) st lane tag (with_lane lane completion_read z))) (sym (ended-is w lane tag l a.command a.share (Answered l.head) st at flies))
      (subst (λ u. Behind (record w { lanes = set w.lanes lane now }) u) (sym (ended-is z lane tag m a.command a.share (Answered l.head) st too x.tag_two))
      (lane-alike geometry number guest w z alike lane tag was was new x now now_too d e (record w { lanes = set w.lanes lane now }) (record z { lanes = set z.lanes lane now_too })
      refl refl (numbers-retagged (completion_read l) (completion_read m) tag new (numbers-read l m numbers)) refl refl
      (sym (set-same w.device lane d there)) (sym (set-same z.device lane e again)) rings (λ b apart. refl) (λ b apart. refl)
      (λ addr is. is) (λ g b y addr apart is lies. refl) alike.view.blocks alike.marks alike.view.controller refl refl
      (λ addr is lies.
      own-same geometry number guest w z alike lane tag was addr here mine
      (read-is guest geometry w lane tag a.command a.share (Answered l.head) addr
      (ap (λ b. list_any (in_span addr) (cond b (units_shown a.share.plan [] bounce) [])) (sym (passed-success st)) ∙ lies)))
      (ap (own_held number (Some new))
      (sym (ap (λ o. held_in o tag) there) ∙ held-too geometry w z number guest given alike lane tag was here mine ∙ ap (λ o. held_in o tag) again))))))

  pub reaps-alike : (lane : ℕ) → next_guest (slice_get w.lanes lane) ≡ Some number
      → Behind (step geometry (event.Reap lane) w).world (step geometry (event.Reap lane) z).world
  unfolding step
  reaps-alike lane mine =
      lane-both Behind w z alike (slice_get w.lanes lane) (slice_get z.lanes lane) (lanes-same geometry w z number guest given alike lane) _ _ (λ l m at too numbers.
      device-both Behind w z alike (slice_get w.device lane) (slice_get z.device lane) (rings-same geometry w z number guest given alike lane)
      (λ d. reap geometry lane l d w) (λ e. reap geometry lane m e z) (λ d e there again rings.
      either-both Behind w z alike (is_empty l.head d.posted) (is_empty m.head e.posted)
      (ap (λ n. is_empty n.head d.posted) numbers ∙ ap (λ n. is_empty m.head n.posted) rings) _ _ _ _ (λ none. alike) (λ some.
      (let before = fine.lanes lane l d at there in
      let waits : l.head ≡ d.posted → ⊥ = eqb-false l.head d.posted some in
      let next = before.answered l.head (between-head l.head d.posted before.positions.read before.positions.posted (far-some l.head d.posted before.positions.read before.positions.posted waits)) in
      let tags = before.positions.tags in
      let sized = before.positions.held in
      let inside = slice_get-below l.tags next.tag next.there next.is in
      let held = slice_get-there d.held next.tag (omega (arith, tags, sized, inside)) in
      reaped-alike lane next.tag l m d e held.0 next.there at too there again numbers rings next.is held.1 next.stands
      (sym (next-is host_bytes geometry w laid fine lane l d next.tag next.there at there next.is next.stands) ∙ mine)))))

  -- ---- completions that are posted

  -- a slot whose command the device holds, in both worlds
  pub slot-both : (lane slot : ℕ) (more again : DeviceLane → Held → After) → guest_of_one (tag_of w lane slot) ≡ Some number
      → ((d e : DeviceLane) (h : Held) → slice_get w.device lane ≡ Some d → slice_get z.device lane ≡ Some e → ring_numbers d ≡ ring_numbers e
      → slice_get d.held slot ≡ Some (Some h) → slice_get e.held slot ≡ Some (Some h) → Behind (more d h).world (again e h).world)
      → Behind (for_one (slice_get w.device lane) w (λ d. for_held (slice_get d.held slot) w (more d))).world
      (for_one (slice_get z.device lane) z (λ d. for_held (slice_get d.held slot) z (again d))).world
  slot-both lane slot more again mine each =
      device-both Behind w z alike (slice_get w.device lane) (slice_get z.device lane) (rings-same geometry w z number guest given alike lane) _ _ (λ d e there behind rings.
      (let same = slot-here geometry w z number guest given alike lane slot d e there behind rings mine in
      subst (λ o. Behind (for_held (slice_get d.held slot) w (more d)).world (for_held o z (again e)).world) same
      (held-both Behind w z alike (slice_get d.held slot) (more d) (again e) (λ h held. each d e h there behind rings held (sym same ∙ held)))))

  posted-alike : (lane tag : ℕ) (st : StatusField) (l m : Lane) (d e : DeviceLane) (h : Held) (t : Tag) → slice_get w.lanes lane ≡ Some l → slice_get z.lanes lane ≡ Some m
      → slice_get w.device lane ≡ Some d → slice_get z.device lane ≡ Some e → lane_numbers l ≡ lane_numbers m → ring_numbers d ≡ ring_numbers e
      → slice_get l.tags tag ≡ Some t → slice_get d.held tag ≡ Some (Some h) → slice_get e.held tag ≡ Some (Some h) → guest_of_one (tag_of w lane tag) ≡ Some number
      → st.sct < 8 → st.sc < 256 → (is_success st ≡ true → h.left ≡ [])
      → Behind (device_posted geometry.mediator lane tag st d w) (device_posted geometry.mediator lane tag st e z)
  unfolding device_posted completion_written
  posted-alike lane tag st l m d e h t at too there again numbers rings found held held_too own type code all_moved =
      let before = fine.lanes lane l d at there in
      let lane_below = slice_get-below w.lanes lane l at in
      let holds = held-flies geometry lane tag w.host l.head d h t (before.tags tag t (Some h) found held) in
      let command = holds.command in
      let share = holds.share in
      let was = Flying command share InDevice in
      let new = Flying command share (Answered d.posted) in
      let flies : slice_get l.tags tag ≡ Some was = found ∙ ap (λ x. Some x) holds.flies in
      let here : tag_of w lane tag ≡ Some was = ap (λ o. tag_in o tag) at ∙ flies in
      let mine : is_tag_of number (Some was) ≡ true = eq-eqb command.guest number (some-same command.guest number (sym (ap guest_of_one here) ∙ own)) in
      let x = found-both geometry w z number guest given alike lane tag l m d e was at too there again numbers rings flies mine in
      let tags = before.positions.tags in
      let among = slice_get-below l.tags tag was flies in
      let waiting = count-fewer (tag_stands waits_for_mediator) l.tags tag was flies refl in
      let many = before.answered_count in
      let room : far l.head d.posted < 64 = omega (arith, waiting, many, tags) in
      let small : tag < 2 ^ 16 = omega (arith, among, tags) in
      let entry : RingNumbers → List ℕ = λ n. completion 0 n.head (queue_pair lane) tag n.phase st in
      let memory : RingNumbers → (ℕ → ℕ) → ℕ → ℕ = λ n host. stored host (completion_slot geometry.mediator lane n.posted) (entry n) in
      let bytes = entry (ring_numbers d) in
      let sized = length-completion 0 d.head (queue_pair lane) tag d.phase st in
      let slot = completion_slot geometry.mediator lane d.posted in
      let v = record w { host = memory (ring_numbers d) w.host; lanes = set w.lanes lane (tag_changed tag new l); device = set w.device lane (completion_posted tag d) } in
      let u = record z { host = memory (ring_numbers e) z.host; lanes = set z.lanes lane (tag_changed tag new m); device = set z.device lane (completion_posted tag e) } in
      let kept : (addr : ℕ) → w.host addr ≡ z.host addr → v.host addr ≡ u.host addr =
      λ addr same. stored-at w.host z.host slot bytes addr same ∙ ap (λ n. memory n z.host addr) rings in
      let stands : bytes_from v.host slot cqe_size ≡ bytes = subst (λ n. bytes_from v.host slot n ≡ bytes) sized (bytes_from-stored w.host slot bytes) in
      let success : is_success (status_of (completion_at geometry v lane d.posted)) ≡ is_success st =
      ap (λ bs. is_success (status_of bs)) stands ∙ ap is_success (completion-back 0 d.head (queue_pair lane) tag d.phase st small type code) in
      let bounce = bounce_page geometry.mediator lane tag in
      let one = stands-is w lane tag l d command share InDevice (Answered d.posted) (memory (ring_numbers d) w.host) (completion_posted tag) at there flies in
      let two = stands-is z lane tag m e command share InDevice (Answered e.posted) (memory (ring_numbers e) z.host) (completion_posted tag) too again x.tag_two in
      let two_as : _ ≡ u = two ∙ ap (λ (n : RingNumbers). record z {
        host = memory (ring_numbers e) z.host;
        lanes = set z.lanes lane (tag_changed tag (Flying command share (Answered n.posted)) m);
        device = set z.device lane (completion_posted tag e);
      }) (sym rings) in
      subst (λ y. Behind y (device_posted geometry.mediator lane tag st e z)) (sym one)
      (subst (λ y. Behind v y) (sym two_as)
      (lane-alike geometry number guest w z alike lane tag was was new x (tag_changed tag new l) (tag_changed tag new m) (completion_posted tag d) (completion_posted tag e) v u
      refl refl (numbers-retagged l m tag new numbers) refl refl refl refl (numbers-posted d e tag rings)
      (λ b apart. held-put d.held tag None b apart) (λ b apart. held-put e.held tag None b apart)
      kept
      (bytes-elsewhere geometry w v.host lane tag l.head l d (completion_posted tag d) fine at there
      (written-elsewhere geometry (length w.lanes) lane w.host d bytes sized lane_below before.positions.posted)
      (λ b y apart b_below is.
      answer-undisturbed geometry (length w.lanes) lane w.host d bytes sized lane_below before.positions.posted b l.head (set d.held tag None)
      (next_phase d.posted d.phase) y b_below before.positions.read before.positions.head before.positions.tail room))
      alike.view.blocks alike.marks alike.view.controller refl refl
      (λ addr is lies.
      flying-shows guest geometry v lane tag command share (Answered d.posted) addr (v.host addr ≡ u.host addr) lies
      (λ by_slot.
      (let both = in-one addr slot cqe_size by_slot in
      let high = both.1 in
      stored-both w.host z.host slot bytes addr both.0 (omega (arith, high, sized)) ∙ ap (λ n. memory n z.host addr) rings))
      (λ by_list. kept addr (own-same geometry number guest w z alike lane tag was addr here mine (list-is guest geometry w lane tag command share InDevice addr by_list)))
      (λ by_source. kept addr (own-same geometry number guest w z alike lane tag was addr here mine (source-is guest geometry w lane tag command share InDevice addr by_source)))
      (λ by_read.
      (let chosen = any-chosen (in_span addr) (is_success (status_of (completion_at geometry v lane d.posted))) (units_shown share.plan [] bounce) by_read in
      let none = all_moved (sym success ∙ chosen.0) in
      let holding : held_in (slice_get w.device lane) tag ≡ Some h = ap (λ o. held_in o tag) there ∙ ap held_by held in
      kept addr (own-same geometry number guest w z alike lane tag was addr here mine (read-is guest geometry w lane tag command share InDevice addr
      (ap (λ o. list_any (in_span addr) (moved_shown o share.plan bounce)) holding
      ∙ ap (λ left. list_any (in_span addr) (units_shown share.plan left bounce)) none ∙ chosen.1))))))
      (ap (own_held number (Some new)) (ap held_by (slice_get-set d.held tag (Some h) None held) ∙ sym (ap held_by (slice_get-set e.held tag (Some h) None held_too))))))

  -- where the device holds a command of that guest's
  answered-alike : (lane slot : ℕ) (st : StatusField) (d e : DeviceLane) (h : Held) → slice_get w.device lane ≡ Some d → slice_get z.device lane ≡ Some e
      → ring_numbers d ≡ ring_numbers e → slice_get d.held slot ≡ Some (Some h) → slice_get e.held slot ≡ Some (Some h) → guest_of_one (tag_of w lane slot) ≡ Some number
      → st.sct < 8 → st.sc < 256 → (is_success st ≡ true → h.left ≡ [])
      → Behind (device_posted geometry.mediator lane slot st d w) (device_posted geometry.mediator lane slot st e z)
  answered-alike lane slot st d e h there again rings held held_too own type code all_moved =
      let among = slice_get-below w.device lane d there in
      let sides = fine.sides in
      let l = slice_get-there w.lanes lane (omega (arith, among, sides)) in
      let m = lane-too geometry w z number guest given alike lane l.0 l.1 in
      let before = fine.lanes lane l.0 d l.1 there in
      let tags = before.positions.tags in
      let sized = before.positions.held in
      let under = slice_get-below d.held slot (Some h) held in
      let t = slice_get-there l.0.tags slot (omega (arith, tags, sized, under)) in
      posted-alike lane slot st l.0 m.0 d e h t.0 l.1 m.1 there again m.2 rings t.1 held held_too own type code all_moved

  status-fits : (differed : Bool) → (moved_status differed).sct < 8
  status-fits true = omega arith
  status-fits false = omega arith

  code-fits : (differed : Bool) → (moved_status differed).sc < 256
  code-fits true = omega arith
  code-fits false = omega arith

  post-left : (left : List ℕ) (lane slot : ℕ) (d e : DeviceLane) (h : Held) → slice_get w.device lane ≡ Some d → slice_get z.device lane ≡ Some e
      → ring_numbers d ≡ ring_numbers e → slice_get d.held slot ≡ Some (Some h) → slice_get e.held slot ≡ Some (Some h) → guest_of_one (tag_of w lane slot) ≡ Some number
      → h.left ≡ left → Behind (device_post left geometry.mediator lane slot h d w).world (device_post left geometry.mediator lane slot h e z).world
  post-left [] lane slot d e h there again rings held held_too own none =
      answered-alike lane slot (held_status h) d e h there again rings held held_too own (status-fits h.differed) (code-fits h.differed) (λ good. none)
  post-left (k ∷ left) lane slot d e h there again rings held held_too own some = alike

  pub device_posts-alike : (lane slot : ℕ) → guest_of_one (tag_of w lane slot) ≡ Some number
      → Behind (step geometry (event.DevPost lane slot) w).world (step geometry (event.DevPost lane slot) z).world
  unfolding step
  device_posts-alike lane slot own =
      slot-both lane slot (λ d h. device_post h.left geometry.mediator lane slot h d w) (λ e h. device_post h.left geometry.mediator lane slot h e z) own
      (λ d e h there again rings held held_too. post-left h.left lane slot d e h there again rings held held_too own refl)

  pub device_fails-alike : (lane slot : ℕ) (st : StatusField) → st.sct < 8 → st.sc < 256 → guest_of_one (tag_of w lane slot) ≡ Some number
      → Behind (step geometry (event.DevFail lane slot st) w).world (step geometry (event.DevFail lane slot st) z).world
  unfolding step
  device_fails-alike lane slot st type code own =
      slot-both lane slot (λ d h. device_fail geometry.mediator lane slot st d w) (λ e h. device_fail geometry.mediator lane slot st e z) own
      (λ d e h there again rings held held_too.
      either-both Behind w z alike (is_success st) (is_success st) refl _ _ _ _ (λ good. alike)
      (λ bad. answered-alike lane slot st d e h there again rings held held_too own type code (λ good. (let wrong : true ≡ false = sym good ∙ bad in cc))))
