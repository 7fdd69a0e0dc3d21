-- Of a guest's queues nothing is due, by what the front notes.
use Rattle.std.proofs.Common.{◌≡◌, refl, sym, ap, ◌∙◌, ℕ, cond, Bool, true, false, slice_get, Option, None, Some, is_some}
use Rattle.nv_admin.specs.Event.{is_stepped}
use Rattle.nv_core.specs.Noted.{IsQuiet, Rests, has_front}
use Rattle.nv_host.proofs.Rests.{not-there, placed}
use Rattle.nv_host.specs.Passes.{QueuesRest}
use Rattle.nv_host.specs.Work.{NotDue, Scene}
use Rattle.nv_model.specs.Admin.{AdminStep, NothingToDo, QueueFull, Stepped, admin}
use Rattle.nv_model.specs.Controller.{Controller, front}
use Rattle.nv_model.specs.Memory.{image}
use Rattle.nv_model.specs.declared.reply.Reply.TheVariants as reply
use Rattle.nv_world_model.specs.Due.{due}
use Rattle.nv_world_model.specs.Geometry.{Geometry, Guest, regions_of, shape_of}
use Rattle.nv_world_model.specs.Seat.{Owner, owner_by}
use Rattle.nv_world_model.specs.Step.{administered_by, administered_in, for_one, is_done, is_io_queue, replied, step, take_from, take_front}
use Rattle.nv_world_model.specs.World.{Lane, World}
use Rattle.nv_world_model.specs.declared.event.Event.TheVariants as event

module _ (geometry : Geometry) (w : World) (guest : ℕ) where
  abbrev seat : Guest → Controller → Owner
  seat given c = record { number = guest; given = given; controller = c }

  by_step : (x : AdminStep) (o : Owner) → is_stepped x ≡ false → is_done (administered_by x o w).reply ≡ false
  by_step NothingToDo o quiet = refl
  by_step QueueFull o quiet = refl
  by_step (Stepped c memory) o quiet = cc

  pub admin-quiet : ((c : Controller) → slice_get w.controllers guest ≡ Some c → IsQuiet c) → due geometry (event.Admin guest) w ≡ false
  unfolding due step administered_in
  admin-quiet quiet = by (slice_get geometry.guests guest) (slice_get w.controllers guest) refl
    where
      by : (x : Option Guest) (y : Option Controller) → slice_get w.controllers guest ≡ y
          → is_done (for_one (owner_by guest x y) w (λ o. administered_in o w)).reply ≡ false
      by None y at = refl
      by (Some given) None at = refl
      by (Some given) (Some c) at =
          by_step (admin (shape_of given).mapped (shape_of given).blocks c (image (regions_of given) w.host)) (seat given c)
          ((quiet c at).admin (shape_of given).mapped (shape_of given).blocks (image (regions_of given) w.host))

  pub take-quiet : (queue lane : ℕ) → ((c : Controller) → slice_get w.controllers guest ≡ Some c → is_io_queue queue ≡ true → front c queue ≡ None)
      → due geometry (event.Take guest queue lane) w ≡ false
  unfolding due step
  take-quiet queue lane none = by (slice_get geometry.guests guest) (slice_get w.controllers guest) refl
    where
      by_queue : (l : Lane) (given : Guest) (c : Controller) → slice_get w.controllers guest ≡ Some c → (b : Bool) → is_io_queue queue ≡ b
          → is_done (take_from queue lane l (seat given c) w).reply ≡ false
      by_queue l given c at false io = ap (λ (x : Bool). is_done (cond x (take_front (front c queue) queue lane l (seat given c) w) (replied reply.Ignored w)).reply) io
      by_queue l given c at true io =
          ap (λ (x : Bool). is_done (cond x (take_front (front c queue) queue lane l (seat given c) w) (replied reply.Ignored w)).reply) io
          ∙ ap (λ (o : Option ℕ). is_done (take_front o queue lane l (seat given c) w).reply) (none c at io)

      by_lane : (given : Guest) (c : Controller) → slice_get w.controllers guest ≡ Some c → (o : Option Lane)
          → is_done (for_one o w (λ l. take_from queue lane l (seat given c) w)).reply ≡ false
      by_lane given c at None = refl
      by_lane given c at (Some l) = by_queue l given c at (is_io_queue queue) refl

      by : (x : Option Guest) (y : Option Controller) → slice_get w.controllers guest ≡ y
          → is_done (for_one (owner_by guest x y) w (λ o. for_one (slice_get w.lanes lane) w (λ l. take_from queue lane l o w))).reply ≡ false
      by None y at = refl
      by (Some given) None at = refl
      by (Some given) (Some c) at = by_lane given c at (slice_get w.lanes lane)

module _ (s : Scene) (guest : ℕ) where
  -- a guest that is not noted
  pub quiet-rests : Rests guest s.served.side → QueuesRest s guest
  quiet-rests quiet =
      record {
        admin = λ w on is.
            not-there s w (event.Admin guest) tt on
            (admin-quiet s.served.setup.geometry (placed s w) guest (λ c at. quiet c (sym (ap (λ cs. slice_get cs guest) on.controllers) ∙ at))) is.1;
        takes = λ queue lane w on is.
            not-there s w (event.Take guest queue lane) tt on
            (take-quiet s.served.setup.geometry (placed s w) guest queue lane
            (λ c at io. (quiet c (sym (ap (λ cs. slice_get cs guest) on.controllers) ∙ at)).queues queue io)) is.1;
      }

  -- a queue from which nothing may be taken
  pub none-takes : (queue : ℕ) → has_front queue (slice_get s.served.side.controllers guest) ≡ false → (lane : ℕ) → NotDue s (event.Take guest queue lane)
  none-takes queue none lane w on is =
      not-there s w (event.Take guest queue lane) tt on
      (take-quiet s.served.setup.geometry (placed s w) guest queue lane
      (λ c at io. no-front (front c queue)
      (sym (ap (has_front queue) (sym (ap (λ cs. slice_get cs guest) on.controllers) ∙ at)) ∙ none))) is.1
    where
      no-front : (o : Option ℕ) → is_some o ≡ false → o ≡ None
      no-front None isnt = refl
      no-front (Some addr) isnt = cc
