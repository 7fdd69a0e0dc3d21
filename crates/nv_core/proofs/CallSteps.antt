-- A call of the machine without memory, in each world that has its side: with the bytes that lie there, it is the definition's step.
use Rattle.std.proofs.Common.{◌≡◌, ℕ, List, [], Some, refl, sym, ap, ◌∙◌}
use Rattle.nv_core.proofs.Sides.{in-each}
use Rattle.nv_core.specs.Front.{IsSideOf, IsSideStep, IsStepInEach, with_side}
use Rattle.nv_laws_sound.proofs.Lists.{some-same}
use Rattle.nv_laws_sound.specs.Mediators.{IsMediators}
use Rattle.nv_laws_sound.specs.Side.{Side}
use Rattle.nv_laws_sound.specs.Unplaced.{after_unplaced}
use Rattle.nv_machine.proofs.InWorlds.{Is, in-first}
use Rattle.nv_machine.proofs.SideWorlds.{begun}
use Rattle.nv_machine.specs.Doing.{replied}
use Rattle.nv_machine.specs.Effects.{Effect, effects_on}
use Rattle.nv_machine.specs.InWorld.{called_in, in_world, side_of}
use Rattle.nv_machine.specs.Machine.{call}
use Rattle.nv_model.specs.Controller.{Controller}
use Rattle.nv_model.specs.Memory.{byte_in}
use Rattle.nv_model.specs.declared.reply.Reply.{Reply}
use Rattle.nv_world_model.specs.Geometry.{Geometry}
use Rattle.nv_world_model.specs.Step.{After, step}
use Rattle.nv_world_model.specs.World.{Lane, World}
use Rattle.nv_world_model.specs.declared.event.Event.{Event}

-- the side of a world that has it
pub side-there : (side : Side) (memory : List ℕ) (w : World) → IsSideOf side memory w → side_of w ≡ side
side-there side memory w on =
    ap (λ (ls : List Lane). let s : Side = record (side_of w) { lanes = ls } in s) on.lanes
    ∙ ap (λ (ts : List ℕ). let s : Side = record { lanes = side.lanes; tails = ts; controllers = w.controllers } in s) on.tails
    ∙ ap (λ (cs : List Controller). let s : Side = record side { controllers = cs } in s) on.controllers

module _ (geometry : Geometry) (e : Event) (fetched : List ℕ) (old new : Side) (before after : List ℕ) (effects : List Effect) (r : Reply)
    (law : (w : World) → IsSideOf old before w
    → Is w (call geometry e fetched (side_of w)) (step geometry e (in_world w (begun (side_of w)))))
    (told : call geometry e fetched old ≡ replied r (record { side = new; effects = effects }))
    (stored : byte_in after ≡ effects_on effects (byte_in before)) where
  -- a call whose law is known of each world that has the side, and whose effects leave that memory
  pub call-step : IsSideStep geometry e old before r new after
  call-step w on =
      ap (λ (h : ℕ → ℕ). let a : After = record { world = record (with_side new after w) { host = h }; reply = r } in a)
      (stored ∙ ap (effects_on effects) (sym on.host))
      ∙ some-same _ (step geometry e w)
      (ap (called_in w) (sym told)
      ∙ ap (λ (s : Side). called_in w (call geometry e fetched s)) (sym (side-there old before w on))
      ∙ law w on ∙ ap (λ (v : World). Some (step geometry e v)) (in-first w))

  -- and but for the places of parts
  pub call-in-each : IsMediators e → IsStepInEach geometry e old before r new after
  call-in-each mine = in-each geometry e old new before after r mine (λ w on. ap after_unplaced (call-step w on))

-- a call without effects
pub quiet-step : (geometry : Geometry) (e : Event) (fetched : List ℕ) (old new : Side) (memory : List ℕ) (r : Reply)
    → ((w : World) → IsSideOf old memory w → Is w (call geometry e fetched (side_of w)) (step geometry e (in_world w (begun (side_of w)))))
    → call geometry e fetched old ≡ replied r (begun new) → IsSideStep geometry e old memory r new memory
unfolding effects_on
quiet-step geometry e fetched old new memory r law told = call-step geometry e fetched old new memory memory [] r law told refl
