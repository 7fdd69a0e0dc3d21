-- A Take that takes nothing, from the guest's controller and the lane to the world.
use Rattle.std.proofs.Common.{◌≡◌, ℕ, ◌≤◌, Bool, false, cond, length, slice_get, Option, Some, None, sym, ap, ◌∙◌, subst}
use Rattle.std.proofs.lemmas.Option.{slice_get_past}
use Rattle.nv_core.specs.State.{IsStep, State, world_of}
use Rattle.nv_core.proofs.Placed.{no-guest, owner, owner-there, same-size}
use Rattle.nv_model.specs.Controller.{Controller, front}
use Rattle.nv_model.specs.declared.reply.Reply.TheVariants as reply
use Rattle.nv_world_model.specs.declared.event.Event.TheVariants as event
use Rattle.nv_world_model.specs.Geometry.{Geometry, Guest}
use Rattle.nv_world_model.specs.Seat.{Owner, owner_of}
use Rattle.nv_world_model.specs.Step.{for_one, is_io_queue, replied, step, take_from, take_front}
use Rattle.nv_world_model.specs.World.{Lane, World}

-- the event of a guest and a lane that are there
pub take-step : (geometry : Geometry) (number queue lane : ℕ) (o : Owner) (l : Lane) (w : World) → owner_of geometry w number ≡ Some o
    → slice_get w.lanes lane ≡ Some l → step geometry (event.Take number queue lane) w ≡ take_from queue lane l o w
unfolding step
take-step geometry number queue lane o l w owns found =
    ap (λ (x : Option Owner). for_one x w (λ p. for_one (slice_get w.lanes lane) w (λ k. take_from queue lane k p w))) owns
    ∙ ap (λ (x : Option Lane). for_one x w (λ k. take_from queue lane k o w)) found

-- ---- states

module _ (geometry : Geometry) (s old : State) (number queue lane : ℕ) where
  pub take-nobody : slice_get geometry.guests number ≡ None → IsStep geometry (event.Take number queue lane) s reply.Ignored s
  unfolding step
  take-nobody none = record { after = sym (no-guest geometry (world_of s) number _ none); size = same-size s }

  module _ (guest : Guest) (c : Controller) (same : s ≡ old) (there : slice_get geometry.guests number ≡ Some guest)
      (found : slice_get s.controllers number ≡ Some c) where
    -- no such lane
    pub take-no_lane : length s.lanes ≤ lane → IsStep geometry (event.Take number queue lane) old reply.Ignored old
    unfolding step
    take-no_lane past =
        let w = world_of s in
        subst (λ (o : State). IsStep geometry (event.Take number queue lane) o reply.Ignored o) same
        (record {
          after =
              sym (ap (λ (x : Option Owner). for_one x w (λ p. for_one (slice_get w.lanes lane) w (λ k. take_from queue lane k p w))) (owner-there geometry w number guest c there found)
              ∙ ap (λ (x : Option Lane). for_one x w (λ k. take_from queue lane k (owner number guest c) w)) (slice_get_past s.lanes lane past));
          size = same-size s;
        })

    module _ (l : Lane) (found_lane : slice_get s.lanes lane ≡ Some l) where
      -- no I/O queue
      pub take-no_queue : is_io_queue queue ≡ false → IsStep geometry (event.Take number queue lane) old reply.Ignored old
      take-no_queue e =
          let w = world_of s in
          let o = owner number guest c in
          subst (λ (o : State). IsStep geometry (event.Take number queue lane) o reply.Ignored o) same
          (record {
            after =
                sym (take-step geometry number queue lane o l w (owner-there geometry w number guest c there found) found_lane
                ∙ ap (λ (b : Bool). cond b (take_front (front c queue) queue lane l o w) (replied reply.Ignored w)) e);
            size = same-size s;
          })
