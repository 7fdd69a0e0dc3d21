-- The effects of a call are the owner's, and those that a Submit has in the next slots of a submission ring.
use Rattle.std.proofs.Common.{◌≡◌, ℕ, ◌%◌, ◌<◌, ◌≤◌, Bool, ◌&&◌, ◌==◌, List, [], ◌∷◌, ◌++◌, length, nat_le, not, slice_get, slice_index, take, All}
use Rattle.std.proofs.Common.{Option, Some, None, arith, refl, sym, ap, ◌∙◌, subst}
use Rattle.std.proofs.lemmas.List.Elements.{All-append, All-nil}
use Rattle.std.proofs.lemmas.List.Sums.{count_by-le-length, length-filter}
use Rattle.nv_entry.specs.Completion.{cid_of as completed_cid, status_of}
use Rattle.nv_entry.specs.Opcode.{admin_opcode}
use Rattle.nv_entry.specs.Status.{StatusField}
use Rattle.nv_entry.specs.StatusCode.{done_with}
use Rattle.nv_entry.specs.Submission.{cid_of, fuse_of, opcode_of, psdt_of}
use Rattle.nv_entry.specs.declared.opcode.AdminOpcode.{AdminOpcode}
use Rattle.nv_entry.specs.declared.opcode.AdminOpcode.TheVariants as opcode
use Rattle.nv_entry.specs.declared.status_code.StatusCode.TheVariants.{InternalError, Success}
use Rattle.nv_laws_sound.proofs.Numbers.{numbers-are, numbers-length}
use Rattle.nv_laws_sound.proofs.Planned.{Answers, IsAnswerOr, Plans, plan_over-is, shares-planned}
use Rattle.nv_laws_sound.specs.Groups.{command_of, part_of}
use Rattle.nv_laws_sound.specs.LaidOut.{IsLaidOut}
use Rattle.nv_laws_sound.specs.Side.{IsKept, Side}
use Rattle.nv_machine.proofs.AdminWords.{carried_by, no_memory}
use Rattle.nv_machine.specs.Contained.{IsOwn, MayDo, guest_for}
use Rattle.nv_entry.specs.Layout.{number_bytes}
use Rattle.nv_model.specs.declared.reply.Reply.TheVariants as reply
use Rattle.nv_machine.specs.Doing.{Doing, controller_put, for_one, group_at, lane_changed, owner_in, replied, tag_at, tag_put, tags_put, told}
use Rattle.nv_machine.specs.Effects.{Effect, completion_stores, stores}
use Rattle.nv_machine.specs.InWorld.{AreOnPages}
use Rattle.nv_machine.specs.Machine.{acted_in, admin_stores, administered_in, answered_with, call, called, carry_out, completed_with, controlled}
use Rattle.nv_machine.specs.Machine.{delivery, ended_at, ended_at_once, front_done, in_order, is_new, list_at, names_command, opcode_stores}
use Rattle.nv_machine.specs.Machine.{post_all, post_by, ready_done, reap, shown_stores, statuses_of, structure_stores, submit_by, take_from, take_front, take_tags}
use Rattle.nv_machine.proofs.AdminDone.{admin_command-done}
use Rattle.nv_machine.proofs.CallWalks.{either, ended-walk, one-walk, owner-walk, owner_in-named, tags_put-keeps, taken-walk}
use Rattle.nv_machine.proofs.Cases.{tag-lane}
use Rattle.nv_machine.proofs.ContainedFetch.{AreSound}
use Rattle.nv_machine.proofs.ContainedOthers.{ended-has}
use Rattle.nv_machine.proofs.OwnEffects.{HasFewOf, Within, all-may, completion-within, delivery-within, stores-within}
use Rattle.nv_machine.proofs.OwnPages.{plan-few}
use Rattle.nv_machine.proofs.OwnTags.{IsGuestsTag, group-guests}
use Rattle.nv_machine.proofs.Posted.{AreReady, IsPlaced, post-placed, ready-placed}
use Rattle.nv_machine.proofs.SideWorlds.{begun}
use Rattle.nv_machine.proofs.SubmitEffects.{handed-may}
use Rattle.nv_mem.specs.GuestMap.{all_mapped, mapped}
use Rattle.nv_mem.specs.Places.{addresses, places_of}
use Rattle.nv_model.specs.Admin.{AdminEffect, Hidden, Shown, Structure, admin_command, answered, identify_reading, is_queue_full, shown}
use Rattle.nv_model.specs.Controller.{Controller, Deletion, Posted, completion_queue, doorbell, front, is_enabled, is_ready, post, ran_out, reg_read, reg_write, took}
use Rattle.nv_model.specs.Controller.{with_submission}
use Rattle.nv_model.specs.Laws.{IsCompletionInPlace, IsCompletionOnPage, IsSubmissionInPlace, IsSubmissionOnPage, QueuesInPlace, QueuesOnPages}
use Rattle.nv_model.specs.Limits.{page, part_size}
use Rattle.nv_model.specs.Reading.{Faulty, Reading, Spells, TooLong}
use Rattle.nv_model.specs.Transcript.{Outcome, ReadDone, Settled, Wanted}
use Rattle.nv_model.specs.declared.act.Act.{Act}
use Rattle.nv_model.specs.declared.act.Act.TheVariants as act
use Rattle.nv_model.proofs.QueueOrder.{IsKept-in_place, IsKept-on_pages}
use Rattle.nv_model.proofs.QueuesKept.{by_test, took-kept}
use Rattle.nv_world_model.specs.Area.{ring_size, tag_count}
use Rattle.nv_world_model.specs.Contained.{guest_of_one}
use Rattle.nv_world_model.specs.Geometry.{Geometry, regions_of, shape_of}
use Rattle.nv_world_model.specs.Plan.{Answer, Bounced, Direct, NoData, Plan, plan_over}
use Rattle.nv_world_model.specs.Seat.{Owner}
use Rattle.nv_world_model.specs.Share.{shares_of}
use Rattle.nv_world_model.specs.Step as step
use Rattle.nv_world_model.specs.View.{guest_of_tag}
use Rattle.nv_world_model.specs.World.{Command, Ended, Flying, Free, Lane, Tag, Taken, group_in, is_that, leader_of}
use Rattle.nv_world_model.specs.declared.event.Event.{Event}
use Rattle.nv_world_model.specs.declared.event.Event.TheVariants as event

-- ---- no effects

-- of tags that change
tags-none : (lane : ℕ) (tags : List ℕ) (t : Tag) (m : Doing) (es : List Effect) → m.effects ≡ es → (tags_put lane tags t m).effects ≡ es
tags-none lane tags t m es is = tags_put-keeps (λ n. n.effects ≡ es) lane t (λ n tag none. none) tags m is

at_once-none : (lane : ℕ) (tags : List ℕ) (command : Command) (st : StatusField) (m : Doing) → m.effects ≡ [] → (ended_at_once lane tags command st m).effects ≡ []
at_once-none lane [] command st m none = none
at_once-none lane (tag ∷ tags) command st m none = tags-none lane tags (Ended command (done_with Success) None) (tag_put lane tag (Ended command st None) m) [] none

ended-none : (t : Option Tag) (st : StatusField) (lane tag : ℕ) (m : Doing) → m.effects ≡ [] → (ended_at t st lane tag m).effects ≡ []
ended-none None st lane tag m none = none
ended-none (Some Free) st lane tag m none = none
ended-none (Some (Taken command reads)) st lane tag m none = none
ended-none (Some (Flying command share standing)) st lane tag m none = none
ended-none (Some (Ended command before share)) st lane tag m none = none

module _ (o : Owner) (s : Side) where
  -- nothing is done in memory
  abbrev Quiet : Doing → Type 0
  Quiet n = n.effects ≡ []

  tags-taken : (found : Option (List ℕ)) (queue lane : ℕ) (entry : List ℕ) → Quiet (take_tags found queue lane entry o (begun s)).now
  tags-taken None queue lane entry = refl
  tags-taken (Some tags) queue lane entry = tags-none lane tags _ (controller_put o.number (took o.controller queue) (begun s)) [] refl

  front-taken : (found : Option ℕ) (queue lane : ℕ) (l : Lane) (entry : List ℕ) → Quiet (take_front found queue lane l entry o (begun s)).now
  front-taken None queue lane l entry = refl
  front-taken (Some addr) queue lane l entry = tags-taken _ queue lane entry

  taken-quiet : (queue lane : ℕ) (l : Lane) (entry : List ℕ) → Quiet (take_from queue lane l entry o (begun s)).now
  taken-quiet queue lane l entry =
      either Quiet (begun s) refl (step.is_io_queue queue) _ _ (λ io. front-taken (front o.controller queue) queue lane l entry) (λ no. refl)

module _ (geometry : Geometry) (sound : AreSound geometry) (s : Side) where
  abbrev May : Option ℕ → Doing → Type 0
  May number n = All (MayDo geometry s n.side number) n.effects

  -- what has no effects may be done
  quiet-may : (number : Option ℕ) (n : Doing) → n.effects ≡ [] → May number n
  quiet-may number n none = subst (All (MayDo geometry s n.side number)) (sym none) (All-nil (MayDo geometry s n.side number))

  begun-may : (number : Option ℕ) → May number (begun s)
  begun-may number = All-nil (MayDo geometry s s number)

  -- and so is what is the owner's
  within-may : (number : ℕ) (n : Doing) (es : List Effect) → n.effects ≡ es → All (Within (IsOwn geometry s number)) es → May (Some number) n
  within-may number n es is each = subst (All (MayDo geometry s n.side (Some number))) (sym is) (all-may geometry s n.side number es each)

  -- ---- acts and admin commands

  module _ (number : ℕ) (o : Owner) (given : slice_get geometry.guests number ≡ Some o.given) where
    abbrev Its : List Effect → Type 0
    Its es = All (Within (IsOwn geometry s number)) es

    none-its : Its []
    none-its = All-nil (Within (IsOwn geometry s number))

    controlled-may : (c : Option Controller) → May (Some number) (controlled c o (begun s)).now
    controlled-may None = begun-may (Some number)
    controlled-may (Some c) = quiet-may (Some number) (controller_put o.number c (begun s)) refl

    register-may : (value : Option ℕ) → May (Some number) (for_one value (begun s) (λ value. replied (reply.Bytes (number_bytes 4 value)) (begun s))).now
    register-may None = begun-may (Some number)
    register-may (Some value) = begun-may (Some number)

    acted-may : (a : Act) (fetched : List ℕ) → May (Some number) (acted_in a fetched o (begun s)).now
    acted-may (act.Store addr bytes) fetched =
        either (May (Some number)) (begun s) (begun-may (Some number)) (all_mapped (regions_of o.given) addr (length bytes)) _ _
        (λ fits. within-may number (told (stores (regions_of o.given) (addresses addr (length bytes)) bytes) (begun s)) _ refl
        (stores-within geometry sound s number o.given given (addresses addr (length bytes)) bytes))
        (λ no. begun-may (Some number))
    acted-may (act.Load addr len) fetched =
        either (May (Some number)) (begun s) (begun-may (Some number)) (all_mapped (regions_of o.given) addr len) _ _
        (λ fits. begun-may (Some number)) (λ no. begun-may (Some number))
    acted-may (act.RegRead offset) fetched = register-may (reg_read o.controller offset)
    acted-may (act.RegWrite offset value) fetched = controlled-may (reg_write (shape_of o.given).mapped o.controller offset value)
    acted-may (act.Doorbell offset value) fetched = controlled-may (doorbell o.controller offset value)

    -- what an admin command stores
    structure-its : (bytes : List ℕ) (reading : Reading) → Its (structure_stores bytes reading (regions_of o.given))
    structure-its bytes (Spells pieces) = stores-within geometry sound s number o.given given (places_of pieces) bytes
    structure-its bytes (Faulty why) = none-its
    structure-its bytes TooLong = none-its

    shown-its : (what : Shown) (entry : List ℕ) → Its (shown_stores what entry o.given)
    shown-its (Hidden why) entry = none-its
    shown-its (Structure bytes) entry = structure-its bytes (identify_reading (shape_of o.given).mapped entry)

    opcode-its : (found : Option AdminOpcode) (entry : List ℕ) → Its (opcode_stores found entry o.given)
    opcode-its None entry = none-its
    opcode-its (Some opcode.DeleteIoSubmissionQueue) entry = none-its
    opcode-its (Some opcode.CreateIoSubmissionQueue) entry = none-its
    opcode-its (Some opcode.GetLogPage) entry = none-its
    opcode-its (Some opcode.DeleteIoCompletionQueue) entry = none-its
    opcode-its (Some opcode.CreateIoCompletionQueue) entry = none-its
    opcode-its (Some opcode.Identify) entry =
        by_test Its (psdt_of entry == 0) (shown_stores (shown (shape_of o.given).blocks entry) entry o.given) []
        (λ prp. shown-its (shown (shape_of o.given).blocks entry) entry) (λ no. none-its)
    opcode-its (Some opcode.Abort) entry = none-its
    opcode-its (Some opcode.SetFeatures) entry = none-its
    opcode-its (Some opcode.GetFeatures) entry = none-its
    opcode-its (Some opcode.AsynchronousEventRequest) entry = none-its

    admin-its : (entry : List ℕ) → Its (admin_stores entry o.given)
    admin-its entry =
        by_test Its (fuse_of entry == 0) (opcode_stores (admin_opcode (opcode_of entry)) entry o.given) []
        (λ one. opcode-its (admin_opcode (opcode_of entry)) entry) (λ fused. none-its)

    completed-may : (p : Option Posted) (es : List Effect) → IsPlaced o.given p → Its es → May (Some number) (completed_with p es o (begun s)).now
    completed-may None es placed its = begun-may (Some number)
    completed-may (Some p) es placed its =
        within-may number (told (es ++ completion_stores (regions_of o.given) p.addr p.entry) (controller_put o.number p.controller (begun s)))
        (es ++ completion_stores (regions_of o.given) p.addr p.entry) refl
        (All-append (Within (IsOwn geometry s number)) es (completion_stores (regions_of o.given) p.addr p.entry) its
        (completion-within geometry sound s number o.given given p placed))

    answered-may : (answer : Option (ℕ × StatusField)) (cid : ℕ) (c : Controller) (es : List Effect) → AreReady o.given c → Its es
        → May (Some number) (answered_with answer cid c es o (begun s)).now
    answered-may None cid c es ready its = within-may number (told es (controller_put o.number c (begun s))) es refl its
    answered-may (Some answer) cid c es ready its =
        completed-may (post c 0 answer.0 cid answer.1) es (ready-placed o.given c ready 0 answer.0 cid answer.1) its

    carried-may : (done : AdminEffect) (cid : ℕ) (es : List Effect) → AreReady o.given done.controller → Its es
        → May (Some number) (carried_by done cid es o (begun s)).now
    carried-may done cid es ready its = answered-may done.answer cid done.controller es ready its

    module _ (place : QueuesInPlace (mapped (regions_of o.given)) o.controller) (on : QueuesOnPages o.controller) where
      taken-ready : AreReady o.given (took o.controller 0)
      taken-ready =
          let test : ℕ → Bool = mapped (regions_of o.given) in
          record {
            places = (took-kept test (IsSubmissionInPlace test) (IsCompletionInPlace test) (IsKept-in_place test) o.controller 0 place).completion_queues;
            pages = (took-kept test IsSubmissionOnPage IsCompletionOnPage (IsKept-on_pages test) o.controller 0 on).completion_queues;
          }

      front-may : (found : Option ℕ) (entry : List ℕ) → May (Some number) (front_done found entry o (begun s)).now
      front-may None entry = begun-may (Some number)
      front-may (Some addr) entry =
          let is = admin_command-done o.given no_memory (sound number o.given given).apart entry (took o.controller 0) taken-ready in
          either (May (Some number)) (begun s) (begun-may (Some number)) (is_queue_full (completion_queue o.controller 0)) _ _
          (λ full. begun-may (Some number))
          (λ room. carried-may (admin_command (shape_of o.given).mapped (shape_of o.given).blocks entry (took o.controller 0) no_memory) (cid_of entry)
          (admin_stores entry o.given) (subst (AreReady o.given) is.controller is.ready) (admin-its entry))

      ready-may : (waiting : Option Deletion) (entry : List ℕ) → May (Some number) (ready_done waiting entry o (begun s)).now
      ready-may None entry = front-may (front o.controller 0) entry
      ready-may (Some d) entry =
          either (May (Some number)) (begun s) (begun-may (Some number)) (not (slice_index o.controller.taken d.queue == 0)) _ _
          (λ waits. begun-may (Some number)) (λ gone.
          either (May (Some number)) (begun s) (begun-may (Some number)) (is_queue_full (completion_queue o.controller 0)) _ _
          (λ full. begun-may (Some number)) (λ room.
          carried-may (answered 0 (record (with_submission o.controller d.queue None) { deletion = None }) no_memory) d.cid []
          (record { places = place.completion_queues; pages = on.completion_queues }) none-its))

      administered-may : (entry : List ℕ) → May (Some number) (administered_in entry o (begun s)).now
      administered-may entry =
          either (May (Some number)) (begun s) (begun-may (Some number)) (is_ready o.controller) _ _
          (λ ready. ready-may o.controller.deletion entry) (λ no. begun-may (Some number))

  -- ---- Submit

  module _ (aligned : geometry.mediator % page ≡ 0) (lane tail : ℕ) (command : Command) (o : Owner)
      (given : slice_get geometry.guests command.guest ≡ Some o.given) (at : slice_get s.tails lane ≡ Some tail) (low : tail < ring_size) (tags : List ℕ)
      (room : length tags ≤ 64) (mine : All (IsGuestsTag command.guest lane s) tags) where
    plan-may : (plan : Plan) → IsAnswerOr o.given command.entry plan
        → May (Some command.guest) (carry_out plan geometry.mediator lane tags command o (begun s))
    plan-may (Answer st) is = quiet-may (Some command.guest) (ended_at_once lane tags command st (begun s)) (at_once-none lane tags command st (begun s) refl)
    plan-may (NoData work) (Answers st fails same) = cc
    plan-may (Direct work) (Answers st fails same) = cc
    plan-may (Bounced work) (Answers st fails same) = cc
    plan-may (NoData work) (Plans whole) =
        handed-may geometry sound aligned s lane command o given tags (shares_of o.given.namespace command.entry (NoData work)) tail at low room mine
        (shares-planned o.given command.entry (NoData work) whole)
    plan-may (Direct work) (Plans whole) =
        handed-may geometry sound aligned s lane command o given tags (shares_of o.given.namespace command.entry (Direct work)) tail at low room mine
        (shares-planned o.given command.entry (Direct work) whole)
    plan-may (Bounced work) (Plans whole) =
        handed-may geometry sound aligned s lane command o given tags (shares_of o.given.namespace command.entry (Bounced work)) tail at low room mine
        (shares-planned o.given command.entry (Bounced work) whole)

    outcome-may : (reads : List ReadDone) (outcome : Outcome Plan) → plan_over o.given command.entry reads ≡ outcome
        → May (Some command.guest) (submit_by outcome geometry.mediator lane tags command o (begun s)).now
    outcome-may reads (Wanted addr len) over = begun-may (Some command.guest)
    outcome-may reads (Settled plan) over = plan-may plan (plan_over-is o.given command.entry reads plan over)

  -- ---- Post

  module _ (lane : ℕ) (command : Command) (o : Owner) (given : slice_get geometry.guests command.guest ≡ Some o.given) (tags : List ℕ)
      (mine : All (IsGuestsTag command.guest lane s) tags)
      (fine : (tag : ℕ) (t : Option Tag) → tag_at s lane tag ≡ t → IsGuestsTag command.guest lane s tag → HasFewOf t) where
    freed-may : (c : Controller) (es : List Effect) → All (Within (IsOwn geometry s command.guest)) es
        → May (Some command.guest) (tags_put lane tags Free (controller_put o.number c (told es (begun s))))
    freed-may c es its =
        within-may command.guest (tags_put lane tags Free (controller_put o.number c (told es (begun s)))) es
        (tags-none lane tags Free (controller_put o.number c (told es (begun s))) es refl) its

    posted-may : (p : Option Posted) (es : List Effect) → IsPlaced o.given p → All (Within (IsOwn geometry s command.guest)) es
        → May (Some command.guest) (post_by p es lane tags o (begun s)).now
    posted-may None es placed its = begun-may (Some command.guest)
    posted-may (Some p) es placed its =
        freed-may p.controller (es ++ completion_stores (regions_of o.given) p.addr p.entry)
        (All-append (Within (IsOwn geometry s command.guest)) es (completion_stores (regions_of o.given) p.addr p.entry) its
        (completion-within geometry sound s command.guest o.given given p placed))

    post-may : (sts : Option (List StatusField)) → ((st : StatusField) → IsPlaced o.given (post o.controller command.queue 0 (cid_of command.entry) st))
        → May (Some command.guest) (post_all sts command geometry.mediator lane tags o (begun s)).now
    post-may None placed = begun-may (Some command.guest)
    post-may (Some sts) placed =
        let st : StatusField = step.deciding sts in
        let es : List Effect = delivery st geometry.mediator lane tags o.given s in
        let its = delivery-within geometry sound s command.guest o.given given lane fine st tags mine in
        either (May (Some command.guest)) (begun s) (begun-may (Some command.guest)) (is_enabled o.controller) _ _
        (λ enabled. posted-may (post o.controller command.queue 0 (cid_of command.entry) st) es (placed st) its)
        (λ fell. freed-may (ran_out o.controller command.queue) es its)

-- a command has no more tags than a lane has
pub group-few : (s : Side) (lane leader : ℕ) (l : Lane) → slice_get s.lanes lane ≡ Some l → length l.tags ≡ tag_count → length (group_at s lane leader) ≤ 64
group-few s lane leader l at many =
    let test : Tag → Bool = λ t. is_that leader (leader_of t) in
    let same = ap (λ (x : Option Lane). length (group_in x leader)) at ∙ ap length (numbers-are test l.tags) ∙ numbers-length test l.tags in
    let counted = length-filter test l.tags in
    let few = count_by-le-length test l.tags in
    omega (arith, same, counted, few, many)

-- ---- the event

module _ (host_bytes lanes : ℕ) (geometry : Geometry) (laid : IsLaidOut host_bytes lanes geometry) (s : Side) (kept : IsKept geometry s)
    (on_pages : AreOnPages s.controllers) where
  sound : AreSound geometry
  sound number guest found = (laid.given number guest found).sound

  abbrev Fine : Option ℕ → Doing → Type 0
  Fine number n = All (MayDo geometry s n.side number) n.effects

  stay : (number : Option ℕ) → Fine number (begun s)
  stay number = begun-may geometry sound s number

  -- the guest that is named by its number
  named : (number : ℕ) (o : Owner) → owner_in geometry s number ≡ Some o → slice_get geometry.guests number ≡ Some o.given
  named number o whose =
      let n = owner_in-named geometry s number o whose in subst (λ k. slice_get geometry.guests k ≡ Some o.given) (sym n.same) n.given

  group-mine : (lane tag : ℕ) (t : Tag) (command : Command) → tag_at s lane tag ≡ Some t → command_of (part_of t) ≡ Some command → command.leader ≡ tag
      → All (IsGuestsTag command.guest lane s) (group_at s lane tag)
  group-mine lane tag t command there has leads =
      let l = tag-lane (slice_get s.lanes lane) tag t there in
      group-guests geometry s lane tag l.0 t command l.1.0 (kept.lanes lane l.0 l.1.0).groups l.1.1 has leads

  group-room : (lane tag : ℕ) (t : Tag) → tag_at s lane tag ≡ Some t → length (group_at s lane tag) ≤ 64
  group-room lane tag t there =
      let l = tag-lane (slice_get s.lanes lane) tag t there in group-few s lane tag l.0 l.1.0 (kept.lanes lane l.0 l.1.0).tags_are

  -- the shares of tags that have ended
  ended-few : (lane tag : ℕ) (t : Option Tag) → tag_at s lane tag ≡ t → HasFewOf t
  ended-few lane tag None there = tt
  ended-few lane tag (Some Free) there = tt
  ended-few lane tag (Some (Taken command reads)) there = tt
  ended-few lane tag (Some (Flying command share standing)) there = tt
  ended-few lane tag (Some (Ended command st None)) there = tt
  ended-few lane tag (Some (Ended command st (Some share))) there =
      let l = tag-lane (slice_get s.lanes lane) tag (Ended command st (Some share)) there in
      let is = (kept.lanes lane l.0 l.1.0).tags tag (Ended command st (Some share)) l.1.1 in
      plan-few is.guest command.entry share is.planned

  -- one of those that are named by a tag
  by-tag : (t : Option Tag) (x : Tag) (n : Doing) → t ≡ Some x → Fine (guest_of_tag x) n → Fine (guest_of_one t) n
  by-tag t x n is may = subst (λ (o : Option Tag). Fine (guest_of_one o) n) (sym is) may

  pub effects-may : (e : Event) (fetched : List ℕ) → Fine (guest_for e fetched s) (call geometry e fetched s).now
  unfolding called
  effects-may (event.Guest guest a) fetched =
      one-walk (Fine (Some guest)) (begun s) (stay (Some guest)) (owner_in geometry s guest) _ (λ o whose.
      acted-may geometry sound s guest o (named guest o whose) a fetched)
  effects-may (event.Admin guest) fetched =
      one-walk (Fine (Some guest)) (begun s) (stay (Some guest)) (owner_in geometry s guest) _ (λ o whose.
      (let n = owner_in-named geometry s guest o whose in
      administered-may geometry sound s guest o (named guest o whose) (kept.queues o.number o.given o.controller n.given n.controller)
      (on_pages o.number o.controller n.controller) fetched))
  effects-may (event.Take guest queue lane) fetched =
      one-walk (Fine (Some guest)) (begun s) (stay (Some guest)) (owner_in geometry s guest) _ (λ o whose.
      one-walk (Fine (Some guest)) (begun s) (stay (Some guest)) (slice_get s.lanes lane) (λ l. take_from queue lane l fetched o (begun s)) (λ l at.
      quiet-may geometry sound s (Some guest) (take_from queue lane l fetched o (begun s)).now (taken-quiet o s queue lane l fetched)))
  effects-may (event.List lane tag addr len) fetched =
      let number : Option ℕ = guest_of_one (tag_at s lane tag) in
      taken-walk (Fine number) (begun s) (stay number) tag (tag_at s lane tag) _ (λ command reads there leads.
      owner-walk (Fine number) (begun s) (stay number) (owner_in geometry s command.guest) (λ o. list_at addr len lane tag fetched command reads o (begun s)) (λ o whose.
      either (Fine number) (begun s) (stay number) (all_mapped (regions_of o.given) addr len) _ _ (λ mapped.
      either (Fine number) (begun s) (stay number) (nat_le 1 len && nat_le len part_size) _ _
      (λ fits. quiet-may geometry sound s number (tag_put lane tag (Taken command _) (begun s)) refl) (λ no. stay number)) (λ no. stay number)))
  effects-may (event.Submit lane tag) fetched =
      let number : Option ℕ = guest_of_one (tag_at s lane tag) in
      taken-walk (Fine number) (begun s) (stay number) tag (tag_at s lane tag) _ (λ command reads there leads.
      owner-walk (Fine number) (begun s) (stay number) (owner_in geometry s command.guest) (λ o. for_one (slice_get s.tails lane) (begun s) (λ tail.
      submit_by (plan_over o.given command.entry reads) geometry.mediator lane (group_at s lane tag) command o (begun s))) (λ o whose.
      one-walk (Fine number) (begun s) (stay number) (slice_get s.tails lane) _ (λ tail at.
      by-tag (tag_at s lane tag) (Taken command reads)
      (submit_by (plan_over o.given command.entry reads) geometry.mediator lane (group_at s lane tag) command o (begun s)).now there
      (outcome-may geometry sound s laid.pages lane tail command o (named command.guest o whose) at (kept.slots lane tail at) (group_at s lane tag)
      (group-room lane tag (Taken command reads) there) (group-mine lane tag (Taken command reads) command there refl leads)
      reads (plan_over o.given command.entry reads) refl))))
  effects-may (event.GiveUp lane tag) fetched =
      let number : Option ℕ = guest_of_one (tag_at s lane tag) in
      taken-walk (Fine number) (begun s) (stay number) tag (tag_at s lane tag) _ (λ command reads there leads.
      quiet-may geometry sound s number (ended_at_once lane (group_at s lane tag) command (done_with InternalError) (begun s))
      (at_once-none lane (group_at s lane tag) command (done_with InternalError) (begun s) refl))
  effects-may (event.DevTake lane) fetched = stay None
  effects-may (event.DevMove lane slot unit) fetched = stay None
  effects-may (event.DevPost lane slot) fetched = stay None
  effects-may (event.DevFail lane slot st) fetched = stay None
  effects-may (event.Keep block) fetched = stay None
  effects-may (event.Reap lane) fetched =
      let number : Option ℕ = guest_of_one (tag_at s lane (completed_cid (in_order fetched))) in
      one-walk (Fine number) (begun s) (stay number) (slice_get s.lanes lane) (λ l. reap lane l fetched (begun s)) (λ l at.
      either (Fine number) (begun s) (stay number) (is_new l (take 4 fetched)) _ _ (λ new.
      either (Fine number) (begun s) (stay number) (names_command lane l (in_order fetched)) _ _
      (λ names.
      (let n : Doing = lane_changed lane step.completion_read (begun s) in
      let t : Option Tag = slice_get l.tags (completed_cid (in_order fetched)) in
      quiet-may geometry sound s number (ended_at t (status_of (in_order fetched)) lane (completed_cid (in_order fetched)) n)
      (ended-none t (status_of (in_order fetched)) lane (completed_cid (in_order fetched)) n refl)))
      (λ strays. stay number)) (λ old. stay number))
  effects-may (event.Post lane tag) fetched =
      let number : Option ℕ = guest_of_one (tag_at s lane tag) in
      ended-walk (Fine number) (begun s) (stay number) tag (tag_at s lane tag) _ (λ command st share there leads.
      owner-walk (Fine number) (begun s) (stay number) (owner_in geometry s command.guest)
      (λ o. post_all (statuses_of lane (group_at s lane tag) s) command geometry.mediator lane (group_at s lane tag) o (begun s)) (λ o whose.
      (let n = owner_in-named geometry s command.guest o whose in
      by-tag (tag_at s lane tag) (Ended command st share)
      (post_all (statuses_of lane (group_at s lane tag) s) command geometry.mediator lane (group_at s lane tag) o (begun s)).now there
      (post-may geometry sound s lane command o (named command.guest o whose) (group_at s lane tag)
      (group-mine lane tag (Ended command st share) command there (ended-has command st share) leads) (λ k t is mine. ended-few lane k t is)
      (statuses_of lane (group_at s lane tag) s)
      (λ sts. post-placed geometry o (kept.queues o.number o.given o.controller n.given n.controller) (on_pages o.number o.controller n.controller)
      command.queue 0 (cid_of command.entry) sts)))))
