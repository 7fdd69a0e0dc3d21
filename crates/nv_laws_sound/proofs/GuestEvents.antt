-- A guest's acts and admin steps.
use Rattle.std.proofs.Common.{◌≡◌, ℕ, length, slice_get, Some}
use Rattle.nv_mem.specs.GuestMap.{mapped}
use Rattle.nv_model.specs.Admin.{AdminStep, NothingToDo, QueueFull, Stepped, admin}
use Rattle.nv_model.specs.Controller.{Controller}
use Rattle.nv_model.specs.Laws.{IsCompletionInPlace, IsSubmissionInPlace, QueuesInPlace}
use Rattle.nv_model.specs.Memory.{image}
use Rattle.nv_model.specs.Private.{Acted, ActStep, Private, acted, step as private_step}
use Rattle.nv_model.specs.declared.act.Act.{Act}
use Rattle.nv_model.proofs.AdminKept.{AdminHas, admin-kept}
use Rattle.nv_model.proofs.QueueOrder.{IsKept-in_place}
use Rattle.nv_model.proofs.StepsKept.{step-kept}
use Rattle.nv_world_model.specs.declared.event.Event.TheVariants as event
use Rattle.nv_world_model.specs.Geometry.{Geometry, regions_of, shape_of}
use Rattle.nv_world_model.specs.Seat.{Owner, owner_of, put_back, seat, with_memory}
use Rattle.nv_world_model.specs.Step.{acted_by, acted_in, administered_by, administered_in, step}
use Rattle.nv_world_model.specs.World.{World}
use Rattle.nv_world_model.proofs.Seats.{IsOwner, owner_of-is}
use Rattle.nv_world_model.proofs.SeatSteps.{Changed, IsPlain, NotDone, NotThere, Shown, act-plain}
use Rattle.nv_laws_sound.specs.Consistent.{IsConsistentOfTags}
use Rattle.nv_laws_sound.specs.LaidOut.{IsLaidOut}
use Rattle.nv_laws_sound.proofs.Changes.{controller-consistent, host-consistent, put_image-area}
use Rattle.nv_laws_sound.proofs.Walks.{guest-walk}

module _ (host_bytes : ℕ) (geometry : Geometry) where
  -- a guest's memory is put back
  pub memory-consistent : (w : World) (o : Owner) (memory : ℕ → ℕ) → IsLaidOut host_bytes (length w.lanes) geometry
      → slice_get geometry.guests o.number ≡ Some o.given → IsConsistentOfTags geometry w → IsConsistentOfTags geometry (with_memory o memory w)
  memory-consistent w o memory laid given is =
      host-consistent geometry w _ laid.pages
      (λ lane below. put_image-area host_bytes (length w.lanes) geometry o.number o.given memory w.host lane laid given below) is

  -- and its controller
  pub put_back-consistent : (w : World) (o : Owner) (memory : ℕ → ℕ) (c : Controller) → IsLaidOut host_bytes (length w.lanes) geometry
      → slice_get geometry.guests o.number ≡ Some o.given → QueuesInPlace (mapped (regions_of o.given)) c → IsConsistentOfTags geometry w
      → IsConsistentOfTags geometry (put_back o memory c w)
  unfolding put_back
  put_back-consistent w o memory c laid given place is =
      controller-consistent geometry (with_memory o memory w) o.number o.given c given place (memory-consistent w o memory laid given is)

  -- ---- acts

  act-by : (w : World) (o : Owner) → IsLaidOut host_bytes (length w.lanes) geometry → IsOwner geometry w o → IsConsistentOfTags geometry w
      → (x : Acted) → IsPlain (seat geometry o w) x → QueuesInPlace (mapped (regions_of o.given)) x.state.controller
      → IsConsistentOfTags geometry (acted_by x o w).world
  act-by w o laid owns is x (Changed memory c) place = put_back-consistent w o memory c laid owns.given place is
  act-by w o laid owns is x (Shown bytes) place = is
  act-by w o laid owns is x NotThere place = is
  act-by w o laid owns is x NotDone place = is

  acted-place : (o : Owner) (a : Act) (p : Private) → QueuesInPlace (mapped (regions_of o.given)) p.controller
      → QueuesInPlace (mapped (regions_of o.given)) (acted (shape_of o.given) a p).state.controller
  unfolding private_step
  acted-place o a p place =
      step-kept (shape_of o.given) (IsSubmissionInPlace (mapped (regions_of o.given))) (IsCompletionInPlace (mapped (regions_of o.given)))
      (IsKept-in_place (mapped (regions_of o.given))) (ActStep a) p place

  act-found : (w : World) (number : ℕ) (o : Owner) (a : Act) → IsLaidOut host_bytes (length w.lanes) geometry → IsConsistentOfTags geometry w
      → owner_of geometry w number ≡ Some o → IsConsistentOfTags geometry (acted_by (acted (shape_of o.given) a (seat geometry o w)) o w).world
  unfolding seat
  act-found w number o a laid is found =
      let owns = owner_of-is geometry w number o found in
      act-by w o laid owns is _ (act-plain geometry o a w)
      (acted-place o a (seat geometry o w) (is.queues o.number o.given o.controller owns.given owns.controller))

  -- ---- the admin queue

  admin-by : (w : World) (o : Owner) → IsLaidOut host_bytes (length w.lanes) geometry → slice_get geometry.guests o.number ≡ Some o.given
      → IsConsistentOfTags geometry w → (x : AdminStep)
      → AdminHas (IsSubmissionInPlace (mapped (regions_of o.given))) (IsCompletionInPlace (mapped (regions_of o.given))) x
      → IsConsistentOfTags geometry (administered_by x o w).world
  admin-by w o laid given is NothingToDo place = is
  admin-by w o laid given is QueueFull place = is
  admin-by w o laid given is (Stepped c memory) place = put_back-consistent w o memory c laid given place is

  admin-found : (w : World) (o : Owner) → IsLaidOut host_bytes (length w.lanes) geometry → IsConsistentOfTags geometry w → IsOwner geometry w o
      → IsConsistentOfTags geometry (administered_by (admin (shape_of o.given).mapped (shape_of o.given).blocks o.controller (image (regions_of o.given) w.host)) o w).world
  admin-found w o laid is owns =
      admin-by w o laid owns.given is _
      (admin-kept (mapped (regions_of o.given)) (IsSubmissionInPlace (mapped (regions_of o.given))) (IsCompletionInPlace (mapped (regions_of o.given)))
      (IsKept-in_place (mapped (regions_of o.given))) (shape_of o.given).blocks o.controller (image (regions_of o.given) w.host)
      (is.queues o.number o.given o.controller owns.given owns.controller))

  -- ---- events

  pub acts-consistent : (w : World) (number : ℕ) (a : Act) → IsLaidOut host_bytes (length w.lanes) geometry → IsConsistentOfTags geometry w
      → IsConsistentOfTags geometry (step geometry (event.Guest number a) w).world
  unfolding step acted_in
  acts-consistent w number a laid is =
      guest-walk (IsConsistentOfTags geometry) w is (owner_of geometry w number) (λ o. acted_by (acted (shape_of o.given) a (seat geometry o w)) o w)
      (λ o found. act-found w number o a laid is found)

  pub admins-consistent : (w : World) (number : ℕ) → IsLaidOut host_bytes (length w.lanes) geometry → IsConsistentOfTags geometry w
      → IsConsistentOfTags geometry (step geometry (event.Admin number) w).world
  unfolding step administered_in
  admins-consistent w number laid is =
      guest-walk (IsConsistentOfTags geometry) w is (owner_of geometry w number) (λ o. administered_in o w)
      (λ o found. admin-found w o laid is (owner_of-is geometry w number o found))
