-- What moving a unit of a command in the device needs and does
use Rattle.std.specs.Prelude.{◌≡◌, ℕ, ◌+◌, ◌<◌, ◌≤◌, ◌==◌, Bool, true, false, ◌&&◌, List, IfSome, length, Option, Some, None}
use Rattle.std.specs.List.{list_any}
use Rattle.nv_entry.specs.Opcode.{io_opcode}
use Rattle.nv_entry.specs.Range.{blocks_of, start_of}
use Rattle.nv_entry.specs.Submission.{opcode_of}
use Rattle.nv_entry.specs.declared.opcode.IoOpcode.{IoOpcode}
use Rattle.nv_entry.specs.declared.opcode.IoOpcode.TheVariants.{DatasetManagement}
use Rattle.nv_mem.specs.Places.{places_of}
use Rattle.nv_model.specs.Judge.{deallocates, has_blocks, has_buffer}
use Rattle.nv_model.specs.Private.{Moved}
use Rattle.nv_disk.specs.Buffer.{AreBelow}
use Rattle.nv_model.specs.Memory.{byte_in}
use Rattle.nv_disk.specs.Flat.{byte_of_block, flat, moved_of}
use Rattle.nv_disk.specs.Marks.{mark_of}
use Rattle.nv_world_model.specs.Device.{Held, device_unit, range_at, unit_gone, with_held}
use Rattle.nv_device.specs.Physical.{IsHeld, held_at, lane_of, with_lane}
use Rattle.nv_device.specs.State.{Physical}

-- ---- what it needs

-- a range of a Dataset Management that has blocks has them on a disk of that many
abbrev pub IsRangeOnDisk : (disk_blocks : ℕ) → (range : List ℕ) → Type 0
IsRangeOnDisk disk_blocks range = 0 < blocks_of range → start_of range + blocks_of range ≤ disk_blocks

-- the bytes that a command names lie in the host, and where it deallocates, the blocks of that range are on the disk
pub record IsMovable (disk_blocks : ℕ) (host : List ℕ) (number : ℕ) (h : Held) : Type 0 where
  pub bytes : AreBelow (length host) (places_of h.pieces)
  pub range : io_opcode (opcode_of h.entry) ≡ Some DatasetManagement → deallocates h.entry ≡ true →
      IsRangeOnDisk disk_blocks (range_at number h.pieces (byte_in host))

-- a unit of a command that is left, where what the device keeps of the command holds, and what the unit needs
pub record IsReady (disk_blocks : ℕ) (host : List ℕ) (number : ℕ) (h : Held) : Type 0 where
  pub left : list_any (λ k. k == number) h.left ≡ true
  pub held : IsHeld disk_blocks h
  pub movable : IsMovable disk_blocks host number h

-- whether a command moves blocks between the disk and its places
abbrev pub moves_blocks : Option IoOpcode → Bool
moves_blocks None = false
moves_blocks (Some opcode) = has_buffer opcode && has_blocks opcode

-- where the command at a slot has that unit left, it may move
abbrev pub MayMove : (lane slot number : ℕ) → (host : List ℕ) → Physical → Type 0
MayMove lane slot number host p =
    IfSome (held_at p lane slot) (λ h. list_any (λ k. k == number) h.left ≡ true → IsMovable (length p.disk) host number h)

-- ---- what it does

-- host, blocks and marks after a unit of a command, and whether it has differed
abbrev pub unit_of : (number : ℕ) → Held → (host : List ℕ) → (disk : List (List ℕ)) → (kept : List Bool) → Moved
unit_of number h host disk kept = device_unit number (length disk) h (byte_in host) (byte_of_block disk) (mark_of kept)

-- a unit of the command at a slot has moved: host, blocks and marks are as it leaves them, the command is without it, and
-- nothing else of the lanes has changed
pub record IsMoved (lane slot number : ℕ) (h : Held) (old_host : List ℕ) (old : Physical) (new_host : List ℕ) (new : Physical) : Type 0 where
  pub moved : moved_of (flat new_host new.disk new.kept) (unit_of number h old_host old.disk old.kept).differed
      ≡ unit_of number h old_host old.disk old.kept
  pub lanes : new.lanes
      ≡ (with_lane lane (with_held slot (Some (unit_gone number (unit_of number h old_host old.disk old.kept).differed h)) (lane_of old lane)) old).lanes
  pub mediator : new.mediator ≡ old.mediator
