-- What led to a front's side: its calls, and what the physical controller did meanwhile (profile).
use Rattle.std.specs.Prelude.{◌≡◌, ℕ, All, List}
use Rattle.nv_core.specs.Front.{IsBeside}
use Rattle.nv_laws_sound.specs.Side.{Side}
use Rattle.nv_laws.specs.Alike.{HasFittingStatus}
use Rattle.nv_laws_sound.specs.Phased.{AreRingsClear}
use Rattle.nv_world_model.specs.Log.{IsReplay}
use Rattle.nv_world_model.specs.SetUp.{SetUp}
use Rattle.nv_world_model.specs.World.{World, opening_world}
use Rattle.nv_world_model.specs.declared.logged.Logged.{Logged}

-- a world of a set-up at its start, with whatever is in memory and on the disk, but for the lanes' completion rings, which are clear
pub record IsFirst (s : SetUp) (first : World) : Type 0 where
  pub world : first ≡ opening_world first.host first.disk s.geometry s.lanes
  pub clear : AreRingsClear s first.host

-- a log leads from that world at the start of a set-up to a world that has this side and memory, but for the places of parts; and each status with
-- which it fails a command is one that a completion holds
pub record IsReached (s : SetUp) (first : World) (side : Side) (memory : List ℕ) (log : List Logged) (z : World) : Type 0 where
  pub starts : IsFirst s first
  pub replayed : IsReplay s.geometry first log z
  pub fitting : All (λ l. HasFittingStatus l.event) log
  pub beside : IsBeside side memory z
