-- What a port got, and how long the answers to acts are (profile).
use Rattle.std.specs.Prelude.{ℕ, ◌%◌, ◌==◌, if◌then◌else◌, List, length, Option, Some, None}
use Rattle.nv_mem.specs.GuestMap.{all_mapped}
use Rattle.nv_model.specs.declared.act.Act.{Act}
use Rattle.nv_model.specs.declared.act.Act.TheVariants as act
use Rattle.nv_world_model.specs.Geometry.{Guest, regions_of}
use Rattle.nv_world_model.specs.declared.logged.Logged.{Logged}

-- the guest of a port, and its events with the replies that were given back, in order
pub record Told : Type 0 where
  pub guest : ℕ
  pub calls : List Logged

-- how many bytes the reply to an act has, if it has some, of a guest that was given this: those that are loaded from mapped addresses,
-- and the four of a register
abbrev pub bytes_given : Guest → Act → Option ℕ
bytes_given given (act.Store addr bytes) = None
bytes_given given (act.Load addr len) = if all_mapped (regions_of given) addr len then Some len else None
bytes_given given (act.RegRead offset) = if offset % 4 == 0 then Some 4 else None
bytes_given given (act.RegWrite offset value) = None
bytes_given given (act.Doorbell offset value) = None

-- of a guest that is not there it has none
abbrev pub bytes_of : Option Guest → Act → Option ℕ
bytes_of None a = None
bytes_of (Some given) a = bytes_given given a

-- for how many bytes room was taken, if it was
abbrev pub room_of : Option (List ℕ) → Option ℕ
room_of None = None
room_of (Some bytes) = Some (length bytes)
