-- What posting a completion does
use Rattle.std.specs.Prelude.{◌≡◌, ℕ, List}
use Rattle.nv_entry.specs.Status.{StatusField}
use Rattle.nv_model.specs.Memory.{byte_in}
use Rattle.nv_world_model.specs.Device.{completion_posted, completion_written}
use Rattle.nv_device.specs.Physical.{lane_of, with_lane}
use Rattle.nv_device.specs.State.{Physical}

-- the completion of the command at a slot is in the host with this status, and the command is in the device no longer; nothing else of host and
-- device has changed
pub record IsPosted (lane slot : ℕ) (st : StatusField) (old_host : List ℕ) (old : Physical) (new_host : List ℕ) (new : Physical) : Type 0 where
  pub host : byte_in new_host ≡ completion_written old.mediator lane slot st (lane_of old lane) (byte_in old_host)
  pub device : new ≡ with_lane lane (completion_posted slot (lane_of old lane)) old
