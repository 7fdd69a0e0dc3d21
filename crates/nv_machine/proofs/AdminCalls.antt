-- An admin step in a world.
use Rattle.std.proofs.Common.{◌≡◌, ℕ, Bool, true, false, cond, not, ◌==◌, List, [], ◌++◌, length, slice_index, Option, Some, None, refl, sym, ap, ◌∙◌}
use Rattle.nv_entry.specs.Status.{StatusField}
use Rattle.nv_entry.specs.Submission.{cid_of}
use Rattle.nv_laws_sound.specs.LaidOut.{IsLaidOut}
use Rattle.nv_laws_sound.specs.Side.{IsKept}
use Rattle.nv_machine.proofs.AdminWords.{carried_by, no_memory}
use Rattle.nv_machine.specs.Doing.{Called, Doing, owner_in}
use Rattle.nv_machine.specs.Effects.{Effect, completion_stores, effects_on}
use Rattle.nv_machine.specs.InWorld.{AreOnPages, called_in, in_world}
use Rattle.nv_machine.specs.Machine.{admin_stores, administered_in, answered_with, called, completed_with, deletion_done, front_done, ready_done}
use Rattle.nv_machine.proofs.ActCalls.{in-put_back}
use Rattle.nv_machine.proofs.AdminDone.{IsDone, admin_command-done}
use Rattle.nv_machine.proofs.Cases.{both-one}
use Rattle.nv_machine.proofs.Effects.{completion-stored, effects_on-append}
use Rattle.nv_machine.proofs.InWorlds.{Is}
use Rattle.nv_machine.proofs.Posted.{AreReady, IsPlaced, ready-placed}
use Rattle.nv_mem.specs.GuestMap.{IsSound, mapped}
use Rattle.nv_model.specs.Admin.{AdminEffect, AdminStep, NothingToDo, admin, admin_command, admin_ready, answered, finish_deletion, front_command, is_queue_full}
use Rattle.nv_model.specs.Admin.{stepped, with_answer, with_completion_posted}
use Rattle.nv_model.specs.Controller.{Controller, Deletion, Posted, completion_queue, front, is_ready, post, took, with_submission}
use Rattle.nv_model.specs.Laws.{IsCompletionInPlace, IsCompletionOnPage, IsSubmissionInPlace, IsSubmissionOnPage, QueuesInPlace, QueuesOnPages}
use Rattle.nv_model.specs.Memory.{bytes_from, image, put_image, stored}
use Rattle.nv_model.specs.Queue.{sqe_size}
use Rattle.nv_model.specs.declared.reply.Reply.TheVariants as reply
use Rattle.nv_model.proofs.MemoryAlike.{stored-at}
use Rattle.nv_model.proofs.PutImages.{image-put_image, put_image-own, put_image-twice}
use Rattle.nv_model.proofs.QueueOrder.{IsKept-in_place, IsKept-on_pages}
use Rattle.nv_model.proofs.QueuesKept.{took-kept}
use Rattle.nv_world_model.specs.Geometry.{Geometry, regions_of, shape_of}
use Rattle.nv_world_model.specs.Seat.{Owner}
use Rattle.nv_world_model.specs.Step as step
use Rattle.nv_world_model.specs.World.{World}
use Rattle.nv_world_model.specs.declared.event.Event.TheVariants as event
use Rattle.nv_world_model.proofs.Seats.{owner_of-is}

-- by cases of the step
both-step : (w : World) (m : Doing) (o : Owner) (b : Bool) (c d : Called) (x y : AdminStep) → (b ≡ true → Is w c (step.administered_by x o (in_world w m)))
    → (b ≡ false → Is w d (step.administered_by y o (in_world w m))) → Is w (cond b c d) (step.administered_by (cond b x y) o (in_world w m))
both-step w m o true c d x y so not_so = so refl
both-step w m o false c d x y so not_so = not_so refl

module _ (w : World) (m : Doing) (o : Owner) (sound : IsSound o.given.memory_map) where
  abbrev v : World
  v = in_world w m

  -- effects that come to a memory, and those of a completion
  completion-behind : (effects : List Effect) (memory : ℕ → ℕ) (p : Posted) → effects_on effects v.host ≡ put_image (regions_of o.given) memory v.host
      → IsPlaced o.given (Some p)
      → effects_on (effects ++ completion_stores (regions_of o.given) p.addr p.entry) v.host
      ≡ put_image (regions_of o.given) (stored memory p.addr p.entry) v.host
  completion-behind effects memory p is placed =
      let now : ℕ → ℕ = put_image (regions_of o.given) memory v.host in
      effects_on-append effects (completion_stores (regions_of o.given) p.addr p.entry) v.host
      ∙ ap (effects_on (completion_stores (regions_of o.given) p.addr p.entry)) is
      ∙ completion-stored o.given.memory_map p.addr p.entry now sound placed.0 placed.1 placed.2
      ∙ put_image-twice (regions_of o.given) memory (stored (image (regions_of o.given) now) p.addr p.entry) (stored memory p.addr p.entry) v.host sound.apart
      (λ addr there. stored-at (image (regions_of o.given) now) memory p.addr p.entry addr
      (image-put_image (regions_of o.given) memory v.host addr sound.apart there))

  completed-is : (found : Option Posted) (effects : List Effect) (memory : ℕ → ℕ)
      → effects_on effects v.host ≡ put_image (regions_of o.given) memory v.host → IsPlaced o.given found
      → Is w (completed_with found effects o m) (step.administered_by (with_completion_posted found memory) o v)
  completed-is None effects memory is placed = refl
  completed-is (Some p) effects memory is placed =
      ap (λ (x : World). let a : step.After = record { world = x; reply = reply.Done } in Some a)
      (in-put_back w m o (effects ++ completion_stores (regions_of o.given) p.addr p.entry) (stored memory p.addr p.entry) p.controller
      (completion-behind effects memory p is placed))

  answered-is : (answer : Option (ℕ × StatusField)) (cid : ℕ) (c : Controller) (effects : List Effect) (memory : ℕ → ℕ)
      → effects_on effects v.host ≡ put_image (regions_of o.given) memory v.host → AreReady o.given c
      → Is w (answered_with answer cid c effects o m) (step.administered_by (with_answer answer cid c memory) o v)
  answered-is None cid c effects memory is ready =
      ap (λ (x : World). let a : step.After = record { world = x; reply = reply.Done } in Some a) (in-put_back w m o effects memory c is)
  answered-is (Some answer) cid c effects memory is ready =
      completed-is (post c 0 answer.0 cid answer.1) effects memory is (ready-placed o.given c ready 0 answer.0 cid answer.1)

  -- a command that does the same without a memory
  carried-is : (done also : AdminEffect) (cid : ℕ) (effects : List Effect) → IsDone o.given v.host sound.apart done also effects
      → Is w (carried_by also cid effects o m) (step.administered_by (stepped done cid) o v)
  carried-is done also cid effects is =
      ap (λ (a : Option (ℕ × StatusField)). called_in w (answered_with a cid also.controller effects o m)) (sym is.answer)
      ∙ ap (λ (c : Controller). called_in w (answered_with done.answer cid c effects o m)) (sym is.controller)
      ∙ answered-is done.answer cid done.controller effects done.memory is.memory is.ready

  module _ (place : QueuesInPlace (mapped (regions_of o.given)) o.controller) (on : QueuesOnPages o.controller) where
    -- the front command
    taken-ready : AreReady o.given (took o.controller 0)
    taken-ready =
        let test : ℕ → Bool = mapped (regions_of o.given) in
        record {
          places = (took-kept test (IsSubmissionInPlace test) (IsCompletionInPlace test) (IsKept-in_place test) o.controller 0 place).completion_queues;
          pages = (took-kept test IsSubmissionOnPage IsCompletionOnPage (IsKept-on_pages test) o.controller 0 on).completion_queues;
        }

    front-is : (f : Option ℕ) (entry : List ℕ)
        → (is_queue_full (completion_queue o.controller 0) ≡ false → (addr : ℕ) → f ≡ Some addr
        → entry ≡ bytes_from (image (regions_of o.given) v.host) addr sqe_size)
        → Is w (front_done f entry o m)
        (step.administered_by (front_command f (shape_of o.given).mapped (shape_of o.given).blocks o.controller (image (regions_of o.given) v.host)) o v)
    front-is None entry is = refl
    front-is (Some addr) entry is =
        let shape = shape_of o.given in
        let there : List ℕ = bytes_from (image (regions_of o.given) v.host) addr sqe_size in
        both-step w m o (is_queue_full (completion_queue o.controller 0)) _ _ _ _ (λ full. refl) (λ room.
        ap (λ (e : List ℕ). called_in w
        (carried_by (admin_command shape.mapped shape.blocks e (took o.controller 0) no_memory) (cid_of e) (admin_stores e o.given) o m)) (is room addr refl)
        ∙ carried-is (admin_command shape.mapped shape.blocks there (took o.controller 0) (image (regions_of o.given) v.host))
        (admin_command shape.mapped shape.blocks there (took o.controller 0) no_memory) (cid_of there) (admin_stores there o.given)
        (admin_command-done o.given v.host sound.apart there (took o.controller 0) taken-ready))

    -- a deletion that waits
    deletion-is : (d : Deletion)
        → Is w (deletion_done d o m) (step.administered_by (finish_deletion d o.controller (image (regions_of o.given) v.host)) o v)
    unfolding effects_on
    deletion-is d =
        let behind : Controller = record (with_submission o.controller d.queue None) { deletion = None } in
        both-step w m o (not (slice_index o.controller.taken d.queue == 0)) _ _ _ _ (λ waits. refl) (λ gone.
        both-step w m o (is_queue_full (completion_queue o.controller 0)) _ _ _ _ (λ full. refl) (λ room.
        carried-is (answered 0 behind (image (regions_of o.given) v.host)) (answered 0 behind no_memory) d.cid []
        (record {
          controller = refl;
          answer = refl;
          memory = sym (put_image-own (regions_of o.given) v.host sound.apart);
          ready = record { places = place.completion_queues; pages = on.completion_queues };
        })))

    ready-is : (waiting : Option Deletion) (entry : List ℕ)
        → (waiting ≡ None → is_queue_full (completion_queue o.controller 0) ≡ false → (addr : ℕ) → front o.controller 0 ≡ Some addr
        → entry ≡ bytes_from (image (regions_of o.given) v.host) addr sqe_size)
        → Is w (ready_done waiting entry o m)
        (step.administered_by (admin_ready waiting (shape_of o.given).mapped (shape_of o.given).blocks o.controller (image (regions_of o.given) v.host)) o v)
    ready-is (Some d) entry is = deletion-is d
    ready-is None entry is = front-is (front o.controller 0) entry (is refl)

    admin-is : (entry : List ℕ)
        → (o.controller.deletion ≡ None → is_queue_full (completion_queue o.controller 0) ≡ false → (addr : ℕ) → front o.controller 0 ≡ Some addr
        → entry ≡ bytes_from (image (regions_of o.given) v.host) addr sqe_size)
        → Is w (administered_in entry o m) (step.administered_in o v)
    unfolding step.administered_in admin
    admin-is entry is =
        both-step w m o (is_ready o.controller) _ _ _ NothingToDo (λ ready. ready-is o.controller.deletion entry is) (λ no. refl)

-- ---- the event

module _ (host_bytes : ℕ) (geometry : Geometry) (w : World) (m : Doing) (laid : IsLaidOut host_bytes (length m.side.lanes) geometry)
    (kept : IsKept geometry m.side) (on_pages : AreOnPages m.side.controllers) where
  -- only where no deletion waits, and the admin completion queue has room, has the entry to be the one at the front
  pub admins-are : (number : ℕ) (entry : List ℕ)
      → ((o : Owner) (addr : ℕ) → owner_in geometry m.side number ≡ Some o → o.controller.deletion ≡ None
      → is_queue_full (completion_queue o.controller 0) ≡ false → front o.controller 0 ≡ Some addr
      → entry ≡ bytes_from (image (regions_of o.given) (in_world w m).host) addr sqe_size)
      → Is w (called geometry (event.Admin number) entry m) (step.step geometry (event.Admin number) (in_world w m))
  unfolding called step.step
  admins-are number entry is =
      both-one w m (owner_in geometry m.side number) _ _ (λ o whose.
      (let owns = owner_of-is geometry (in_world w m) number o whose in
      admin-is w m o (laid.given o.number o.given owns.given).sound (kept.queues o.number o.given o.controller owns.given owns.controller)
      (on_pages o.number o.controller owns.controller) entry (λ none room addr at. is o addr whose none room at)))
