-- The mediated world on lists: what the code holds of it, what that means as the world of the definitions, and what an event that was
-- carried out comes to (profile).
use Rattle.std.specs.Prelude.{◌≡◌, ℕ, ◌<◌, List, length, slice_get, slice_index, Some}
use Rattle.nv_laws_sound.specs.Side.{Side}
use Rattle.nv_core.specs.Places.{placed_lanes}
use Rattle.nv_device.specs.State.{Physical}
use Rattle.nv_laws_sound.specs.Consistent.{IsConsistent}
use Rattle.nv_laws_sound.specs.LaidOut.{IsLaidOut}
use Rattle.nv_laws_sound.specs.Phased.{ArePhased}
use Rattle.nv_model.specs.Controller.{Controller}
use Rattle.nv_model.specs.Memory.{byte_in}
use Rattle.nv_model.specs.declared.reply.Reply.{Reply}
use Rattle.nv_disk.specs.Flat.{byte_of_block}
use Rattle.nv_disk.specs.Marks.{mark_of}
use Rattle.nv_vctl.specs.Vctl.{most_taken}
use Rattle.nv_world_model.specs.Geometry.{Geometry}
use Rattle.nv_world_model.specs.Step.{step}
use Rattle.nv_world_model.specs.World.{Lane, World, opening_world}
use Rattle.nv_world_model.specs.declared.event.Event.{Event}

-- ---- the state

-- the host's bytes, the physical controller, the mediator's side of each lane, and each guest's controller
pub record State : Type 0 where
  pub host : List ℕ
  pub device : Physical
  pub lanes : List Lane
  pub controllers : List Controller

-- the world that it is
abbrev pub world_of : State → World
world_of s =
    record {
      host = byte_in s.host;
      disk = byte_of_block s.device.disk;
      kept = mark_of s.device.kept;
      device = s.device.lanes;
      lanes = s.lanes;
      controllers = s.controllers;
    }

-- the state by the host's bytes, the physical controller and the mediator's side: a part is where the physical controller and the rings show it
abbrev pub state_of : (host : List ℕ) → Physical → Side → State
state_of host device side =
    record {
      host = host;
      device = device;
      lanes = placed_lanes device.mediator 0 (byte_in host) device.lanes side.lanes;
      controllers = side.controllers;
    }

-- ---- what every call needs

-- the state is one of this set-up, its world is consistent, and completions have the phase tags of their passes
pub record IsOf (geometry : Geometry) (s : State) : Type 0 where
  pub mediator : s.device.mediator ≡ geometry.mediator
  pub blocks : length s.device.disk ≡ geometry.disk_blocks
  pub laid_out : IsLaidOut (length s.host) (length s.lanes) geometry
  pub consistent : IsConsistent geometry (world_of s)
  pub phased : ArePhased geometry (world_of s)

-- one more taken command of each queue of a guest can be counted
abbrev pub CountsMore : (guest : ℕ) → State → Type 0
CountsMore guest s =
    (c : Controller) (queue : ℕ) → slice_get s.controllers guest ≡ Some c → slice_index c.taken queue < most_taken

-- ---- what every call does

-- host, disk and area are as large as before, and where they were
pub record IsSameSize (old new : State) : Type 0 where
  pub host : length new.host ≡ length old.host
  pub mediator : new.device.mediator ≡ old.device.mediator
  pub blocks : length new.device.disk ≡ length old.device.disk

-- the event was carried out: its reply, and the world after it
pub record IsStep (geometry : Geometry) (e : Event) (old : State) (reply : Reply) (new : State) : Type 0 where
  pub after : record { world = world_of new; reply = reply } ≡ step geometry e (world_of old)
  pub size : IsSameSize old new

-- ---- the start

-- the world is that of the start, in a host of that many bytes and with so many lanes
pub record IsOpening (geometry : Geometry) (host_bytes lanes : ℕ) (s : State) : Type 0 where
  pub world : world_of s ≡ opening_world (λ _. 0) (λ _ _. 0) geometry lanes
  pub host : length s.host ≡ host_bytes
  pub mediator : s.device.mediator ≡ geometry.mediator
  pub blocks : length s.device.disk ≡ geometry.disk_blocks
