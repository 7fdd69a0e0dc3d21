-- Where each effect of a call comes from: it writes in its guest's memory, or is one of those of a share that goes by a tag which waits for its plan.
use Rattle.std.proofs.Common.{◌≡◌, ℕ, ◌<◌, Bool, ◌==◌, List, [], ◌∷◌, ◌++◌, length, not, slice_get, slice_index, All}
use Rattle.std.proofs.Common.{Option, Some, None, refl, sym, subst}
use Rattle.std.proofs.lemmas.List.Elements.{All-append, All-nil, All-weaker}
use Rattle.std.specs.List.{Contains, flat_map}
use Rattle.nv_entry.specs.Layout.{number_bytes}
use Rattle.nv_entry.specs.Opcode.{admin_opcode}
use Rattle.nv_entry.specs.Status.{StatusField}
use Rattle.nv_entry.specs.StatusCode.{done_with}
use Rattle.nv_entry.specs.Submission.{cid_of, fuse_of, opcode_of, psdt_of}
use Rattle.nv_entry.specs.declared.opcode.AdminOpcode.{AdminOpcode}
use Rattle.nv_entry.specs.declared.opcode.AdminOpcode.TheVariants as opcode
use Rattle.nv_entry.specs.declared.status_code.StatusCode.TheVariants.{Success}
use Rattle.nv_laws_sound.specs.Consistent.{IsPlanned}
use Rattle.nv_laws_sound.specs.Side.{Side}
use Rattle.nv_machine.proofs.AdminDone.{admin_command-done}
use Rattle.nv_machine.proofs.AdminWords.{carried_by, no_memory}
use Rattle.nv_machine.proofs.CallWalks.{either, tags_put-keeps}
use Rattle.nv_machine.proofs.ContainedFetch.{AreSound}
use Rattle.nv_machine.proofs.Posted.{AreReady, IsPlaced, ready-placed}
use Rattle.nv_machine.proofs.SideWorlds.{begun}
use Rattle.nv_machine.proofs.Writes.{completion_stores-written, copies_to-written, stores-written}
use Rattle.nv_machine.specs.Doing.{Doing, controller_put, for_one, replied, tag_at, tag_put, tags_put, told}
use Rattle.nv_machine.specs.Effects.{Effect, WritesIn, completion_stores, copies_to, stores}
use Rattle.nv_machine.specs.Machine.{acted_in, admin_stores, administered_in, answered_with, completed_with, controlled}
use Rattle.nv_machine.specs.Machine.{delivered_by, delivered_from, delivery, ended_at, ended_at_once, front_done}
use Rattle.nv_machine.specs.Machine.{opcode_stores, post_all, post_by, ready_done, share_effects, shown_stores, structure_stores}
use Rattle.nv_machine.specs.Machine.{take_from, take_front, take_tags}
use Rattle.nv_mem.specs.GuestMap.{all_mapped, mapped}
use Rattle.nv_mem.specs.MapRuns.{InImage}
use Rattle.nv_mem.specs.Places.{addresses, places_of}
use Rattle.nv_model.proofs.QueueOrder.{IsKept-in_place, IsKept-on_pages}
use Rattle.nv_model.proofs.QueuesKept.{by_test, took-kept}
use Rattle.nv_model.specs.Admin.{AdminEffect, Hidden, Shown, Structure, admin_command, answered, identify_reading, is_queue_full, shown}
use Rattle.nv_model.specs.Controller.{Controller, Deletion, Posted, completion_queue, doorbell, front, is_enabled, is_ready, post, ran_out, reg_read, reg_write, took}
use Rattle.nv_model.specs.Controller.{with_submission}
use Rattle.nv_model.specs.Judge.{is_read}
use Rattle.nv_model.specs.Laws.{IsCompletionInPlace, IsCompletionOnPage, IsSubmissionInPlace, IsSubmissionOnPage, QueuesInPlace, QueuesOnPages}
use Rattle.nv_model.specs.Reading.{Faulty, Reading, Spells, TooLong}
use Rattle.nv_model.specs.Transcript.{ReadDone}
use Rattle.nv_model.specs.declared.act.Act.{Act}
use Rattle.nv_model.specs.declared.act.Act.TheVariants as act
use Rattle.nv_model.specs.declared.reply.Reply.TheVariants as reply
use Rattle.nv_world_model.specs.Area.{bounce_page, ring_size}
use Rattle.nv_world_model.specs.Geometry.{Geometry, Guest, regions_of, shape_of}
use Rattle.nv_world_model.specs.Plan.{Answer, Bounced, Direct, NoData, Plan}
use Rattle.nv_world_model.specs.Seat.{Owner}
use Rattle.nv_world_model.specs.Share.{Share}
use Rattle.nv_world_model.specs.Step as step
use Rattle.nv_world_model.specs.World.{Command, Ended, Flying, Free, Lane, Tag, Taken}

pub data Comes (geometry : Geometry) (s : Side) (e : Effect) : Type 0 where
  ToMemory : (number : ℕ) (given : Guest) → slice_get geometry.guests number ≡ Some given → WritesIn (InImage (regions_of given)) e → Comes geometry s e
  OfShare : (lane tag slot : ℕ) (given : Guest) (command : Command) (reads : List ReadDone) (share : Share) → tag_at s lane tag ≡ Some (Taken command reads)
      → IsPlanned given command.entry share → slot < ring_size → Contains (share_effects share given command.entry geometry.mediator lane tag slot) e
      → Comes geometry s e

-- ---- no effects

tags-none : (lane : ℕ) (tags : List ℕ) (t : Tag) (m : Doing) (es : List Effect) → m.effects ≡ es → (tags_put lane tags t m).effects ≡ es
tags-none lane tags t m es is = tags_put-keeps (λ n. n.effects ≡ es) lane t (λ n tag none. none) tags m is

pub at_once-none : (lane : ℕ) (tags : List ℕ) (command : Command) (st : StatusField) (m : Doing) → m.effects ≡ [] → (ended_at_once lane tags command st m).effects ≡ []
at_once-none lane [] command st m none = none
at_once-none lane (tag ∷ tags) command st m none = tags-none lane tags (Ended command (done_with Success) None) (tag_put lane tag (Ended command st None) m) [] none

pub ended-none : (t : Option Tag) (st : StatusField) (lane tag : ℕ) (m : Doing) → m.effects ≡ [] → (ended_at t st lane tag m).effects ≡ []
ended-none None st lane tag m none = none
ended-none (Some Free) st lane tag m none = none
ended-none (Some (Taken command reads)) st lane tag m none = none
ended-none (Some (Flying command share standing)) st lane tag m none = none
ended-none (Some (Ended command before share)) st lane tag m none = none

module _ (o : Owner) (s : Side) where
  abbrev Quiet : Doing → Type 0
  Quiet n = n.effects ≡ []

  tags-taken : (found : Option (List ℕ)) (queue lane : ℕ) (entry : List ℕ) → Quiet (take_tags found queue lane entry o (begun s)).now
  tags-taken None queue lane entry = refl
  tags-taken (Some tags) queue lane entry = tags-none lane tags _ (controller_put o.number (took o.controller queue) (begun s)) [] refl

  front-taken : (found : Option ℕ) (queue lane : ℕ) (l : Lane) (entry : List ℕ) → Quiet (take_front found queue lane l entry o (begun s)).now
  front-taken None queue lane l entry = refl
  front-taken (Some addr) queue lane l entry = tags-taken _ queue lane entry

  pub taken-quiet : (queue lane : ℕ) (l : Lane) (entry : List ℕ) → Quiet (take_from queue lane l entry o (begun s)).now
  taken-quiet queue lane l entry =
      either Quiet (begun s) refl (step.is_io_queue queue) _ _ (λ io. front-taken (front o.controller queue) queue lane l entry) (λ no. refl)

-- ---- a guest's memory

module _ (geometry : Geometry) (sound : AreSound geometry) (s : Side) where
  abbrev Fine : Doing → Type 0
  Fine n = All (Comes geometry s) n.effects

  pub quiet-fine : (n : Doing) → n.effects ≡ [] → Fine n
  quiet-fine n none = subst (All (Comes geometry s)) (sym none) (All-nil (Comes geometry s))

  pub begun-fine : Fine (begun s)
  begun-fine = All-nil (Comes geometry s)

  module _ (number : ℕ) (o : Owner) (given : slice_get geometry.guests number ≡ Some o.given) where
    abbrev Mine : Effect → Type 0
    Mine = WritesIn (InImage (regions_of o.given))

    abbrev Its : List Effect → Type 0
    Its es = All Mine es

    none-its : Its []
    none-its = All-nil Mine

    its-fine : (n : Doing) (es : List Effect) → n.effects ≡ es → Its es → Fine n
    its-fine n es is each =
        subst (All (Comes geometry s)) (sym is) (All-weaker Mine (Comes geometry s) (λ (e : Effect). λ within. ToMemory number o.given given within) es each)

    completion-its : (p : Posted) → IsPlaced o.given (Some p) → Its (completion_stores (regions_of o.given) p.addr p.entry)
    completion-its p placed =
        completion_stores-written o.given.memory_map p.addr p.entry (sound number o.given given) placed.0 placed.1 placed.2

    controlled-fine : (c : Option Controller) → Fine (controlled c o (begun s)).now
    controlled-fine None = begun-fine
    controlled-fine (Some c) = quiet-fine (controller_put o.number c (begun s)) refl

    register-fine : (value : Option ℕ) → Fine (for_one value (begun s) (λ value. replied (reply.Bytes (number_bytes 4 value)) (begun s))).now
    register-fine None = begun-fine
    register-fine (Some value) = begun-fine

    pub acted-fine : (a : Act) (fetched : List ℕ) → Fine (acted_in a fetched o (begun s)).now
    acted-fine (act.Store addr bytes) fetched =
        either Fine (begun s) begun-fine (all_mapped (regions_of o.given) addr (length bytes)) _ _
        (λ fits. its-fine (told (stores (regions_of o.given) (addresses addr (length bytes)) bytes) (begun s)) _ refl
        (stores-written (regions_of o.given) (addresses addr (length bytes)) bytes))
        (λ no. begun-fine)
    acted-fine (act.Load addr len) fetched =
        either Fine (begun s) begun-fine (all_mapped (regions_of o.given) addr len) _ _ (λ fits. begun-fine) (λ no. begun-fine)
    acted-fine (act.RegRead offset) fetched = register-fine (reg_read o.controller offset)
    acted-fine (act.RegWrite offset value) fetched = controlled-fine (reg_write (shape_of o.given).mapped o.controller offset value)
    acted-fine (act.Doorbell offset value) fetched = controlled-fine (doorbell o.controller offset value)

    -- what an admin command stores
    structure-its : (bytes : List ℕ) (reading : Reading) → Its (structure_stores bytes reading (regions_of o.given))
    structure-its bytes (Spells pieces) = stores-written (regions_of o.given) (places_of pieces) bytes
    structure-its bytes (Faulty why) = none-its
    structure-its bytes TooLong = none-its

    shown-its : (what : Shown) (entry : List ℕ) → Its (shown_stores what entry o.given)
    shown-its (Hidden why) entry = none-its
    shown-its (Structure bytes) entry = structure-its bytes (identify_reading (shape_of o.given).mapped entry)

    opcode-its : (found : Option AdminOpcode) (entry : List ℕ) → Its (opcode_stores found entry o.given)
    opcode-its None entry = none-its
    opcode-its (Some opcode.DeleteIoSubmissionQueue) entry = none-its
    opcode-its (Some opcode.CreateIoSubmissionQueue) entry = none-its
    opcode-its (Some opcode.GetLogPage) entry = none-its
    opcode-its (Some opcode.DeleteIoCompletionQueue) entry = none-its
    opcode-its (Some opcode.CreateIoCompletionQueue) entry = none-its
    opcode-its (Some opcode.Identify) entry =
        by_test Its (psdt_of entry == 0) (shown_stores (shown (shape_of o.given).blocks entry) entry o.given) []
        (λ prp. shown-its (shown (shape_of o.given).blocks entry) entry) (λ no. none-its)
    opcode-its (Some opcode.Abort) entry = none-its
    opcode-its (Some opcode.SetFeatures) entry = none-its
    opcode-its (Some opcode.GetFeatures) entry = none-its
    opcode-its (Some opcode.AsynchronousEventRequest) entry = none-its

    admin-its : (entry : List ℕ) → Its (admin_stores entry o.given)
    admin-its entry =
        by_test Its (fuse_of entry == 0) (opcode_stores (admin_opcode (opcode_of entry)) entry o.given) []
        (λ one. opcode-its (admin_opcode (opcode_of entry)) entry) (λ fused. none-its)

    completed-fine : (p : Option Posted) (es : List Effect) → IsPlaced o.given p → Its es → Fine (completed_with p es o (begun s)).now
    completed-fine None es placed its = begun-fine
    completed-fine (Some p) es placed its =
        its-fine (told (es ++ completion_stores (regions_of o.given) p.addr p.entry) (controller_put o.number p.controller (begun s)))
        (es ++ completion_stores (regions_of o.given) p.addr p.entry) refl
        (All-append Mine es (completion_stores (regions_of o.given) p.addr p.entry) its (completion-its p placed))

    answered-fine : (answer : Option (ℕ × StatusField)) (cid : ℕ) (c : Controller) (es : List Effect) → AreReady o.given c → Its es
        → Fine (answered_with answer cid c es o (begun s)).now
    answered-fine None cid c es ready its = its-fine (told es (controller_put o.number c (begun s))) es refl its
    answered-fine (Some answer) cid c es ready its =
        completed-fine (post c 0 answer.0 cid answer.1) es (ready-placed o.given c ready 0 answer.0 cid answer.1) its

    carried-fine : (done : AdminEffect) (cid : ℕ) (es : List Effect) → AreReady o.given done.controller → Its es → Fine (carried_by done cid es o (begun s)).now
    carried-fine done cid es ready its = answered-fine done.answer cid done.controller es ready its

    module _ (place : QueuesInPlace (mapped (regions_of o.given)) o.controller) (on : QueuesOnPages o.controller) where
      taken-ready : AreReady o.given (took o.controller 0)
      taken-ready =
          let test : ℕ → Bool = mapped (regions_of o.given) in
          record {
            places = (took-kept test (IsSubmissionInPlace test) (IsCompletionInPlace test) (IsKept-in_place test) o.controller 0 place).completion_queues;
            pages = (took-kept test IsSubmissionOnPage IsCompletionOnPage (IsKept-on_pages test) o.controller 0 on).completion_queues;
          }

      front-fine : (found : Option ℕ) (entry : List ℕ) → Fine (front_done found entry o (begun s)).now
      front-fine None entry = begun-fine
      front-fine (Some addr) entry =
          let is = admin_command-done o.given no_memory (sound number o.given given).apart entry (took o.controller 0) taken-ready in
          either Fine (begun s) begun-fine (is_queue_full (completion_queue o.controller 0)) _ _ (λ full. begun-fine)
          (λ room. carried-fine (admin_command (shape_of o.given).mapped (shape_of o.given).blocks entry (took o.controller 0) no_memory) (cid_of entry)
          (admin_stores entry o.given) (subst (AreReady o.given) is.controller is.ready) (admin-its entry))

      ready-fine : (waiting : Option Deletion) (entry : List ℕ) → Fine (ready_done waiting entry o (begun s)).now
      ready-fine None entry = front-fine (front o.controller 0) entry
      ready-fine (Some d) entry =
          either Fine (begun s) begun-fine (not (slice_index o.controller.taken d.queue == 0)) _ _ (λ waits. begun-fine) (λ gone.
          either Fine (begun s) begun-fine (is_queue_full (completion_queue o.controller 0)) _ _ (λ full. begun-fine) (λ room.
          carried-fine (answered 0 (record (with_submission o.controller d.queue None) { deletion = None }) no_memory) d.cid []
          (record { places = place.completion_queues; pages = on.completion_queues }) none-its))

      pub administered-fine : (entry : List ℕ) → Fine (administered_in entry o (begun s)).now
      administered-fine entry =
          either Fine (begun s) begun-fine (is_ready o.controller) _ _ (λ ready. ready-fine o.controller.deletion entry) (λ no. begun-fine)

    -- ---- Post

    plan-its : (plan : Plan) (bounce : ℕ) → Its (delivered_by plan bounce o.given)
    plan-its (Answer st) bounce = none-its
    plan-its (NoData work) bounce = none-its
    plan-its (Direct work) bounce = none-its
    plan-its (Bounced work) bounce =
        by_test Its (is_read work.opcode) (copies_to (regions_of o.given) bounce (places_of work.pieces)) []
        (λ reads. copies_to-written (regions_of o.given) bounce (places_of work.pieces)) (λ no. none-its)

    tag-its : (t : Option Tag) (bounce : ℕ) → Its (delivered_from t bounce o.given)
    tag-its None bounce = none-its
    tag-its (Some Free) bounce = none-its
    tag-its (Some (Taken command reads)) bounce = none-its
    tag-its (Some (Flying command share standing)) bounce = none-its
    tag-its (Some (Ended command st None)) bounce = none-its
    tag-its (Some (Ended command st (Some share))) bounce = plan-its share.plan bounce

    tags-its : (lane : ℕ) (tags : List ℕ) → Its (flat_map (λ tag. delivered_from (tag_at s lane tag) (bounce_page geometry.mediator lane tag) o.given) tags)
    tags-its lane [] = none-its
    tags-its lane (tag ∷ tags) =
        All-append Mine (delivered_from (tag_at s lane tag) (bounce_page geometry.mediator lane tag) o.given)
        (flat_map (λ tag. delivered_from (tag_at s lane tag) (bounce_page geometry.mediator lane tag) o.given) tags)
        (tag-its (tag_at s lane tag) (bounce_page geometry.mediator lane tag)) (tags-its lane tags)

    delivery-its : (st : StatusField) (lane : ℕ) (tags : List ℕ) → Its (delivery st geometry.mediator lane tags o.given s)
    delivery-its st lane tags =
        by_test Its (step.is_success st)
        (flat_map (λ tag. delivered_from (tag_at s lane tag) (bounce_page geometry.mediator lane tag) o.given) tags) []
        (λ good. tags-its lane tags) (λ bad. none-its)

    freed-fine : (lane : ℕ) (tags : List ℕ) (c : Controller) (es : List Effect) → Its es
        → Fine (tags_put lane tags Free (controller_put o.number c (told es (begun s))))
    freed-fine lane tags c es its =
        its-fine (tags_put lane tags Free (controller_put o.number c (told es (begun s)))) es
        (tags-none lane tags Free (controller_put o.number c (told es (begun s))) es refl) its

    posted-fine : (lane : ℕ) (tags : List ℕ) (p : Option Posted) (es : List Effect) → IsPlaced o.given p → Its es
        → Fine (post_by p es lane tags o (begun s)).now
    posted-fine lane tags None es placed its = begun-fine
    posted-fine lane tags (Some p) es placed its =
        freed-fine lane tags p.controller (es ++ completion_stores (regions_of o.given) p.addr p.entry)
        (All-append Mine es (completion_stores (regions_of o.given) p.addr p.entry) its (completion-its p placed))

    pub post-fine : (command : Command) (lane : ℕ) (tags : List ℕ) (sts : Option (List StatusField))
        → ((st : StatusField) → IsPlaced o.given (post o.controller command.queue 0 (cid_of command.entry) st))
        → Fine (post_all sts command geometry.mediator lane tags o (begun s)).now
    post-fine command lane tags None placed = begun-fine
    post-fine command lane tags (Some sts) placed =
        let st : StatusField = step.deciding sts in
        let es : List Effect = delivery st geometry.mediator lane tags o.given s in
        either Fine (begun s) begun-fine (is_enabled o.controller) _ _
        (λ enabled. posted-fine lane tags (post o.controller command.queue 0 (cid_of command.entry) st) es (placed st) (delivery-its st lane tags))
        (λ fell. freed-fine lane tags (ran_out o.controller command.queue) es (delivery-its st lane tags))
