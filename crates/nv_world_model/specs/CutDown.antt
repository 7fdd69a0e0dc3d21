-- The world cut down to a guest: its view and the shared numbers are as they are, and all else is as at the start
-- (profile).
use Rattle.std.specs.Prelude.{ℕ, ◌&&◌, ◌||◌, ◌==◌, if◌then◌else◌, [], length, map, replicate, Some}
use Rattle.std.specs.List.{enumerate_from}
use Rattle.nv_model.specs.Controller.{Controller, opening}
use Rattle.nv_model.specs.Queue.{sqe_size}
use Rattle.nv_world_model.specs.Area.{tag_count}
use Rattle.nv_world_model.specs.Device.{DeviceLane}
use Rattle.nv_world_model.specs.Geometry.{Geometry, Guest}
use Rattle.nv_world_model.specs.View.{in_extents, in_image, is_tag_of, lies_in, own_held, shown}
use Rattle.nv_world_model.specs.World.{Command, Lane, Tag, Taken, World, is_free, tag_of}

-- a command of nobody's, which goes by no tag
abbrev pub nobodys : (nobody : ℕ) → Command
nobodys nobody = record { guest = nobody; queue = 0; entry = replicate sqe_size 0; leader = tag_count }

-- a tag that is neither free nor that guest's is Taken by nobody
abbrev pub cut_tag : (number nobody : ℕ) → Tag → Tag
cut_tag number nobody t =
    if is_free t || is_tag_of number (Some t) then t else Taken (nobodys nobody) []

abbrev pub cut_lane : (number nobody : ℕ) → Lane → Lane
cut_lane number nobody lane = record lane { tags = map (cut_tag number nobody) lane.tags }

-- the device holds that guest's commands alone
abbrev pub cut_device : (number : ℕ) → World → ℕ × DeviceLane → DeviceLane
cut_device number w d =
    record d.1 { held = map (λ h. own_held number (tag_of w d.0 h.0) h.1) (enumerate_from 0 d.1.held) }

-- every other controller is as at the start
abbrev pub cut_controller : (number : ℕ) → ℕ × Controller → Controller
cut_controller number c = if c.0 == number then c.1 else opening

-- the world of this view and these shared numbers, in which all else is as at the start
unfoldable pub cut : (number : ℕ) → Guest → Geometry → World → World
cut number guest geometry w =
    record {
      host = (λ at. if in_image guest at || lies_in (shown number guest geometry w) at then w.host at else 0);
      disk = (λ at offset. if in_extents guest.namespace at then w.disk at offset else 0);
      kept = (λ at. in_extents guest.namespace at && w.kept at);
      device = map (cut_device number w) (enumerate_from 0 w.device);
      lanes = map (cut_lane number (length geometry.guests)) w.lanes;
      controllers = map (cut_controller number) (enumerate_from 0 w.controllers);
    }
