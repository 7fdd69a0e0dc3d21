-- The private controller of a guest goes along with each admin step of the guest's.
use Rattle.std.proofs.Common.{◌≡◌, ℕ, ◌+◌, inl, inr, true, cond, ◌==◌, [], ◌∷◌, flat_map, slice_get, Option, Some, None, arith, refl, sym, ap, eq-eqb, subst}
use Rattle.nv_mem.specs.GuestMap.{mapped}
use Rattle.nv_model.proofs.MemoryAlike.{front-mapped}
use Rattle.nv_model.proofs.MemoryLemmas.{bytes_from-same}
use Rattle.nv_model.proofs.QueueOrder.{IsKept-in_place}
use Rattle.nv_model.proofs.QueuesKept.{completion_queue-has}
use Rattle.nv_model.specs.Admin.{AdminStep, NothingToDo, QueueFull, admin}
use Rattle.nv_model.specs.Controller.{completion_queue, front, submission_queue}
use Rattle.nv_model.specs.Footprint.{completion_slots}
use Rattle.nv_model.specs.Laws.{IsCompletionInPlace, IsInOrder, IsSubmissionInPlace, QueuesInPlace}
use Rattle.nv_model.specs.Memory.{bytes_from, image}
use Rattle.nv_model.specs.Private.{AdminQueueStep, Private, administered, step as private_step}
use Rattle.nv_model.specs.Queue.{CompletionQueue, SubmissionQueue, sqe_size}
use Rattle.nv_model.specs.declared.reply.Reply.TheVariants as reply
use Rattle.nv_world_model.specs.declared.event.Event.TheVariants as event
use Rattle.nv_world_model.specs.Disciplined.{is_clear}
use Rattle.nv_world_model.specs.Geometry.{Geometry, Guest, regions_of, shape_of}
use Rattle.nv_world_model.specs.Seat.{Owner, put_back}
use Rattle.nv_world_model.specs.Step.{administered_by, administered_in, for_one, step}
use Rattle.nv_world_model.specs.World.{World}
use Rattle.nv_laws.specs.Following.{GoesAlong, IsDisciplinedAt, IsReached}
use Rattle.nv_laws.specs.Related.{Related}
use Rattle.nv_laws.proofs.related.Acts.{owner-there, owner_with, put-related}
use Rattle.nv_laws.proofs.related.Beginning.{not-awaited}
use Rattle.nv_laws.proofs.related.Disciplines.{commands_of, order-is}
use Rattle.nv_laws.proofs.related.Fronts.{entry-free}
use Rattle.nv_laws.proofs.related.Goings.{dull-goes}
use Rattle.nv_laws.proofs.related.Goings.{one-goes}
use Rattle.nv_laws.proofs.related.Takes.{queues-sorted}
use Rattle.nv_laws.proofs.headline.Apart.{IsNamed, destination-apart, slots-apart}
use Rattle.nv_laws.proofs.headline.Effects.{admin_completions, queue_behind}
use Rattle.nv_laws.proofs.headline.Stepping.{BothFull, BothNothing, BothStepped, IsBesideSlot, IsStepAlike, admin-alike}

module _ (host_bytes : ℕ) (geometry : Geometry) (number : ℕ) (guest : Guest) (given : slice_get geometry.guests number ≡ Some guest)
    (w : World) (reached : IsReached host_bytes geometry w) (p : Private) (related : Related geometry number guest w p)
    (disciplined : IsDisciplinedAt geometry number guest (event.Admin number) w) where
  abbrev o : Owner
  o = owner_with number guest p.controller

  abbrev mine : ℕ → ℕ
  mine = image (regions_of guest) w.host

  clear : is_clear (flat_map (λ named. named) (commands_of number guest w p.controller)) (completion_slots p.controller) ≡ true
  clear = (order-is number guest w None p.controller related.controller disciplined.before).0

  abbrev Named : ℕ → Type 0
  Named = IsNamed number guest w

  in_place : QueuesInPlace (mapped (regions_of guest)) p.controller
  in_place = reached.consistent.of_tags.queues number guest p.controller given related.controller

  sorted : (q : SubmissionQueue) → slice_get p.controller.submission 0 ≡ Some (Some q) → IsInOrder q.size q.head q.tail
  sorted = queues-sorted host_bytes geometry number guest given w reached p related 0

  -- the entry is the same in both
  entry-same : (addr : ℕ) → front p.controller 0 ≡ Some addr → bytes_from p.memory addr sqe_size ≡ bytes_from mine addr sqe_size
  entry-same addr found =
      bytes_from-same p.memory mine addr addr sqe_size
      (λ i below.
      related.memory (addr + i)
      (front-mapped (mapped (regions_of guest)) p.controller 0 addr in_place found i below)
      (not-awaited geometry number guest w reached.consistent p related (addr + i)
      (entry-free number guest w p.controller 0 addr found sorted clear (addr + i) (omega arith) (omega (arith, below)))))

  -- a byte that a taken command names is beside the slot of the next completion
  beside-slot : (at : ℕ) → Named at → (cq : CompletionQueue) → admin_completions p.controller ≡ Some cq → IsBesideSlot cq at
  beside-slot at is cq = by_queue (submission_queue p.controller 0)
    where
      by_place : (y : ℕ) → completion_queue p.controller y ≡ Some cq → IsBesideSlot cq at
      by_place y there =
          let place = completion_queue-has (mapped (regions_of guest)) (IsSubmissionInPlace (mapped (regions_of guest)))
          (IsCompletionInPlace (mapped (regions_of guest))) (IsKept-in_place (mapped (regions_of guest))) p.controller y cq in_place there in
          let below = place.0.tail_is_slot in
          elim (slots-apart number guest w p.controller clear y cq there at is) [
            | inl low ↦ inl (omega (arith, low))
            | inr high ↦ inr (omega (arith, high, below))
          ]

      by_queue : (x : Option SubmissionQueue) → queue_behind x p.controller.completion_queues ≡ Some cq → IsBesideSlot cq at
      by_queue None e = cc
      by_queue (Some q) e = by_place q.completes_to e

  -- the admin step in the guest's memory, and in the private controller's: the same is done in both
  abbrev own_step : AdminStep
  own_step = admin (shape_of guest).mapped (shape_of guest).blocks p.controller mine

  abbrev private_one : AdminStep
  private_one = admin (shape_of guest).mapped (shape_of guest).blocks p.controller p.memory

  same-step : IsStepAlike Named mine p.memory own_step private_one
  same-step =
      admin-alike Named mine p.memory p.controller beside-slot (shape_of guest)
      (reached.counted.running number guest p.controller given related.controller).together entry-same
      (λ addr found at is. destination-apart number guest w p.controller clear addr found sorted at is)

  step-goes : (x y : AdminStep) → IsStepAlike Named mine p.memory x y → private_step (shape_of guest) AdminQueueStep p ≡ administered y p
      → GoesAlong geometry number guest (event.Admin number) w p (administered_by x o w)
  step-goes NothingToDo y BothNothing made = dull-goes geometry number guest (event.Admin number) w p refl related reply.Idle refl
  step-goes QueueFull y BothFull made = dull-goes geometry number guest (event.Admin number) w p refl related reply.Held refl
  step-goes x y (BothStepped d done also same left) made =
      let here : (number == number) ≡ true = eq-eqb number number refl in
      one-goes geometry number guest (event.Admin number) w (put_back o done d w) p (record p { memory = also; controller = d }) AdminQueueStep refl
      (ap (λ b. cond b (AdminQueueStep ∷ []) []) here) made
      (put-related host_bytes geometry number guest given w reached p related done also d
      (λ entry taken at named. left at (record { entry = entry; taken = taken; named = named }))
      (λ addr there none. sym (same addr (sym (related.memory addr there none)))))

  private-made : private_step (shape_of guest) AdminQueueStep p ≡ administered private_one p
  unfolding private_step
  private-made = refl

  world-made : step geometry (event.Admin number) w ≡ administered_by own_step o w
  unfolding step administered_in
  world-made =
      ap (λ (x : Option Owner). for_one x w (λ q.
      administered_by (admin (shape_of q.given).mapped (shape_of q.given).blocks q.controller (image (regions_of q.given) w.host)) q w))
      (owner-there geometry number guest w p.controller given related.controller)

  pub admins-go : GoesAlong geometry number guest (event.Admin number) w p (step geometry (event.Admin number) w)
  admins-go =
      subst (GoesAlong geometry number guest (event.Admin number) w p) (sym world-made) (step-goes own_step private_one same-step private-made)
