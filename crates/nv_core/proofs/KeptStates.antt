-- What the mediator's side keeps, of a state: the events of guests and of the mediator need no more.
use Rattle.std.proofs.Common.{◌≡◌, length}
use Rattle.nv_laws_sound.specs.Side.{AreKept, tails_of}
use Rattle.nv_laws_sound.proofs.KeptWorlds.{kept-consistent, kept-world}
use Rattle.nv_core.specs.State.{IsOf, State, world_of}
use Rattle.nv_laws_sound.specs.LaidOut.{IsLaidOut}
use Rattle.nv_world_model.specs.Geometry.{Geometry}

pub record IsKeptOf (geometry : Geometry) (s : State) : Type 0 where
  pub mediator : s.device.mediator ≡ geometry.mediator
  pub laid_out : IsLaidOut (length s.host) (length s.lanes) geometry
  pub kept : AreKept geometry s.lanes (tails_of s.device.lanes) s.controllers

-- a state whose world is consistent keeps all of it
pub kept-of : (geometry : Geometry) (s : State) → IsOf geometry s → IsKeptOf geometry s
kept-of geometry s is =
    record { mediator = is.mediator; laid_out = is.laid_out; kept = kept-world geometry (world_of s) (kept-consistent geometry (world_of s) is.consistent) }
