-- A world of a side of the mediator: with any memory, a physical controller with the side's tails, and an empty disk.
use Rattle.std.proofs.Common.{◌≡◌, ℕ, suc, false, List, [], ◌∷◌, length, map, slice_get, arith, refl, sym, ap, ◌∙◌, subst}
use Rattle.nv_laws_sound.specs.Kept.{IsKeptWorld}
use Rattle.nv_laws_sound.specs.Side.{IsKept, Side, rung_with, tails_of}
use Rattle.nv_laws_sound.proofs.Tails.{tail-of}
use Rattle.nv_machine.specs.Doing.{Doing}
use Rattle.nv_machine.specs.InWorld.{in_world, side_of}
use Rattle.nv_machine.proofs.InWorlds.{in-first}
use Rattle.nv_world_model.specs.Device.{DeviceLane, opening_device_lane}
use Rattle.nv_world_model.specs.Geometry.{Geometry}
use Rattle.nv_world_model.specs.World.{World}

-- lanes of the physical controller with these tails
abbrev pub lanes_with : List ℕ → List DeviceLane
lanes_with tails = map (λ (tail : ℕ). record opening_device_lane { tail = tail }) tails

abbrev pub world_with : (host : ℕ → ℕ) → Side → World
world_with host s =
    record {
      host = host;
      disk = (λ block offset. 0);
      kept = (λ block. false);
      device = lanes_with s.tails;
      lanes = s.lanes;
      controllers = s.controllers;
    }

-- a call that begins
abbrev pub begun : Side → Doing
begun s = record { side = s; effects = [] }

length-lanes_with : (tails : List ℕ) → length (lanes_with tails) ≡ length tails
length-lanes_with [] = refl
length-lanes_with (tail ∷ tails) = ap suc (length-lanes_with tails)

tails-with : (tails : List ℕ) → tails_of (lanes_with tails) ≡ tails
tails-with [] = refl
tails-with (tail ∷ tails) = ap (λ (ts : List ℕ). tail ∷ ts) (tails-with tails)

-- the tails of doorbells that were all written
tails-rung : (tails : List ℕ) (ds : List DeviceLane) → length tails ≡ length ds → tails_of (rung_with tails ds) ≡ tails
tails-rung [] [] many = refl
tails-rung [] (d ∷ ds) many = cc
tails-rung (tail ∷ tails) [] many = cc
tails-rung (tail ∷ tails) (d ∷ ds) many = ap (λ (ts : List ℕ). tail ∷ ts) (tails-rung tails ds (omega (arith, many)))

module _ (host : ℕ → ℕ) (s : Side) where
  -- the side of such a world is that side
  pub side-with : side_of (world_with host s) ≡ s
  side-with = ap (λ (ts : List ℕ). let t : Side = record { lanes = s.lanes; tails = ts; controllers = s.controllers } in t) (tails-with s.tails)

  -- and a call that begins with it is made in that world
  pub begun-with : in_world (world_with host s) (begun s) ≡ world_with host s
  begun-with =
      subst (λ (t : Side). in_world (world_with host s) (record { side = t; effects = [] }) ≡ world_with host s) side-with (in-first (world_with host s))

  pub many-with : length s.tails ≡ length (world_with host s).device
  many-with = sym (length-lanes_with s.tails)

  -- what is kept of a side is kept of the world
  pub kept-with : (geometry : Geometry) → IsKept geometry s → IsKeptWorld geometry (world_with host s)
  kept-with geometry is =
      record {
        lanes = is.lanes;
        sides = sym is.many ∙ many-with;
        tails = (λ lane d there.
            is.slots lane d.tail (sym (ap (λ (ts : List ℕ). slice_get ts lane) (tails-with s.tails)) ∙ tail-of (lanes_with s.tails) lane d there));
        controllers = is.controllers;
        queues = is.queues;
      }

-- the tails behind a call that changed no number of them
pub tails-behind : (host : ℕ → ℕ) (s : Side) (m : Doing) → length m.side.tails ≡ length s.tails
    → tails_of (in_world (world_with host s) m).device ≡ m.side.tails
tails-behind host s m many = tails-rung m.side.tails (lanes_with s.tails) (many ∙ sym (length-lanes_with s.tails))
