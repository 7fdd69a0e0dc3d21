-- What a driver sees of a physical completion ring: the phase tag of each slot. A slot that the controller has written in its pass has that
-- pass's phase tag, and every other that of the pass before (Base Specification 2.0, "Completion Queue Entry", "Phase Tag").
use Rattle.std.specs.Prelude.{◌≡◌, ℕ, ◌+◌, ◌*◌, ◌<◌, ◌≤◌, Bool, not, nat_le, if◌then◌else◌, slice_get, Some}
use Rattle.nv_entry.specs.Completion.{phase_of}
use Rattle.nv_entry.specs.Status.{bit}
use Rattle.nv_model.specs.Memory.{bytes_from}
use Rattle.nv_model.specs.Queue.{cqe_size}
use Rattle.nv_world_model.specs.Area.{completion_slot, ring_size}
use Rattle.nv_world_model.specs.Device.{DeviceLane}
use Rattle.nv_world_model.specs.Geometry.{Geometry}
use Rattle.nv_world_model.specs.SetUp.{SetUp}
use Rattle.nv_world_model.specs.World.{Lane, World}

-- the phase tag in a slot of a lane's completion ring
abbrev pub phase_at : Geometry → (host : ℕ → ℕ) → (lane at : ℕ) → ℕ
phase_at geometry host lane at = phase_of (bytes_from host (completion_slot geometry.mediator lane at) cqe_size)

-- the phase tag that a reader wants that comes to slot `head` next, where the writer comes to `posted` next in a pass of that phase tag: the
-- reader is in the same pass, or in the one before
abbrev pub wanted_at : (head posted : ℕ) → (phase : Bool) → Bool
wanted_at head posted phase = if nat_le head posted then phase else not phase

pub record IsPhased (geometry : Geometry) (host : ℕ → ℕ) (lane head : ℕ) (wanted : Bool) (posted : ℕ) (phase : Bool) : Type 0 where
  pub wants : wanted ≡ wanted_at head posted phase
  pub written : (at : ℕ) → at < posted → phase_at geometry host lane at ≡ bit phase
  pub earlier : (at : ℕ) → posted ≤ at → at < ring_size → phase_at geometry host lane at ≡ bit (not phase)

-- and so each lane of a world
abbrev pub ArePhased : Geometry → World → Type 0
ArePhased geometry w =
    (lane : ℕ) (l : Lane) (d : DeviceLane) → slice_get w.lanes lane ≡ Some l → slice_get w.device lane ≡ Some d
    → IsPhased geometry w.host lane l.head l.phase d.posted d.phase

-- each byte of the lanes' completion rings is zero, and so is each phase tag: a driver makes them so before a controller has the rings
abbrev pub AreRingsClear : SetUp → (host : ℕ → ℕ) → Type 0
AreRingsClear s host =
    (lane at : ℕ) → lane < s.lanes → at < cqe_size * ring_size → host (completion_slot s.geometry.mediator lane 0 + at) ≡ 0
