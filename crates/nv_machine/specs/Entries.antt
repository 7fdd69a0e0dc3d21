-- Which bytes and blocks a physical entry names, whatever else is in the host's memory: those of one guest alone. Isolation between guests is the
-- project's own (profile).
use Rattle.std.specs.Prelude.{◌≡◌, ℕ, ◌+◌, ◌*◌, ◌<◌, ◌≤◌, ◌⊎◌, true, false, List, All, length, slice_get, Some}
use Rattle.std.specs.List.{Contains}
use Rattle.nv_entry.specs.Opcode.{io_opcode}
use Rattle.nv_entry.specs.Range.{blocks_of, start_of}
use Rattle.nv_entry.specs.Submission.{cid_of, fuse_of, opcode_of, psdt_of, slba_of}
use Rattle.nv_entry.specs.declared.opcode.IoOpcode.{IoOpcode}
use Rattle.nv_laws_sound.specs.Area.{Shows, ranges_of}
use Rattle.nv_laws_sound.specs.Consistent.{IsPlanned}
use Rattle.nv_laws_sound.specs.Side.{Side}
use Rattle.nv_machine.specs.Doing.{tag_at}
use Rattle.nv_machine.specs.Effects.{Effect, Store}
use Rattle.nv_machine.specs.Machine.{share_effects}
use Rattle.nv_mem.specs.Places.{At, Bucket, Place, places_of}
use Rattle.nv_model.specs.Judge.{Manage, count_of, form_of, has_blocks, range_count_of, transfer_len}
use Rattle.nv_model.specs.Limits.{page}
use Rattle.nv_model.specs.Queue.{sqe_size}
use Rattle.nv_model.specs.Transcript.{ReadDone}
use Rattle.nv_ns.specs.Extents.{Namespace}
use Rattle.nv_world_model.specs.Area.{bounce_page, lane_start, list_bytes, list_page, prps_of, ring_size, submission_slot, tag_count}
use Rattle.nv_world_model.specs.Device.{held_of, range_at}
use Rattle.nv_world_model.specs.Geometry.{Geometry, Guest}
use Rattle.nv_world_model.specs.Share.{Share}
use Rattle.nv_world_model.specs.ShareArea.{is_no_command, share_entry}
use Rattle.nv_world_model.specs.View.{in_extents, in_image}
use Rattle.nv_world_model.specs.World.{Command, Taken}

-- ---- bytes and blocks

-- a host address is the guest's memory, or in the tag's bounce pages, which end with the next tag's list page (profile)
abbrev pub IsOwnByte : Geometry → Guest → (lane tag : ℕ) → (at : ℕ) → Type 0
IsOwnByte geometry given lane tag at =
    (in_image given at ≡ true) ⊎ ((bounce_page geometry.mediator lane tag ≤ at) × (at < list_page geometry.mediator lane (tag + 1)))

-- a place that the physical controller reads or writes names such an address: PRP knows no bucket (Base Specification 2.0, "Physical Region Page
-- Entry and List")
abbrev pub NamesOwn : Geometry → Guest → (lane tag : ℕ) → Place → Type 0
NamesOwn geometry given lane tag (At at) = IsOwnByte geometry given lane tag at
NamesOwn geometry given lane tag Bucket = ⊥

-- so many blocks of the disk from that one on lie in a namespace's extents (profile)
abbrev pub AreBlocksOf : Namespace → (start count : ℕ) → Type 0
AreBlocksOf ns start count = (i : ℕ) → i < count → in_extents ns (start + i) ≡ true

-- ---- a physical entry

-- a physical entry of a guest's command in a tag, of which the tag's pages show this list and these ranges, names bytes and blocks of that guest alone
pub record IsOwnEntry (geometry : Geometry) (given : Guest) (lane tag : ℕ) (list ranges entry : List ℕ) : Type 0 where
  -- 64 bytes, and the tag is the command identifier; it isn't fused, and its data pointer is PRP (Base Specification 2.0, "Submission Queue Entry")
  pub size : length entry ≡ sqe_size
  pub identifier : cid_of entry ≡ tag
  pub fuse : fuse_of entry ≡ 0
  pub psdt : psdt_of entry ≡ 0
  -- whatever else is in memory, each place that its PRPs and the list name is an own byte (Base Specification 2.0, "Physical Region Page Entry and List")
  pub bytes : (host : ℕ → ℕ) → Shows host (list_page geometry.mediator lane tag) list
      → All (NamesOwn geometry given lane tag) (places_of (held_of entry host).pieces)
  -- and there is one for each byte of its transfer, so that none is left to chance
  pub each : (host : ℕ → ℕ) → Shows host (list_page geometry.mediator lane tag) list → (opcode : IoOpcode) → io_opcode (opcode_of entry) ≡ Some opcode
      → length (places_of (held_of entry host).pieces) ≡ transfer_len opcode entry
  -- the blocks of SLBA and NLB lie in the guest's extents (NVM Command Set Specification 1.0, "NVM Command Set Commands")
  pub blocks : (opcode : IoOpcode) → io_opcode (opcode_of entry) ≡ Some opcode → has_blocks opcode ≡ true
      → AreBlocksOf given.namespace (slba_of entry) (count_of entry)
  -- and so do those of each range that is read of a Dataset Management; a range of no blocks names none (NVM Command Set Specification 1.0, "Dataset
  -- Management command")
  pub managed : (host : ℕ → ℕ) → Shows host (list_page geometry.mediator lane tag) list → Shows host (bounce_page geometry.mediator lane tag) ranges
      → (opcode : IoOpcode) → io_opcode (opcode_of entry) ≡ Some opcode → form_of opcode ≡ Manage → (number : ℕ) → number < range_count_of entry
      → AreBlocksOf given.namespace (start_of (range_at number (held_of entry host).pieces host)) (blocks_of (range_at number (held_of entry host).pieces host))

-- ---- what Submit stores

-- an effect is one of those of a share of the plan of that tag's command, which goes to the physical controller by a tag and a slot of the lane (profile)
pub record IsOfShare (geometry : Geometry) (s : Side) (lane leader : ℕ) (effect : Effect) : Type 0 where
  pub command : Command
  pub reads : List ReadDone
  pub taken : tag_at s lane leader ≡ Some (Taken command reads)
  pub given : Guest
  pub owner : slice_get geometry.guests command.guest ≡ Some given
  pub share : Share
  pub planned : IsPlanned given command.entry share
  pub some : is_no_command share ≡ false
  pub tag : ℕ
  pub tag_below : tag < tag_count
  pub slot : ℕ
  pub slot_below : slot < ring_size
  pub among : Contains (share_effects share given command.entry geometry.mediator lane tag slot) effect

-- a host address is in the two pages of a lane's submission ring
abbrev pub IsInRing : Geometry → (lane at : ℕ) → Type 0
IsInRing geometry lane at = (lane_start geometry.mediator lane ≤ at) × (at < lane_start geometry.mediator lane + page * 2)

-- such an effect stores the share's whole entry in its slot, which names bytes and blocks of the command's guest alone
pub record StoresEntry (geometry : Geometry) (s : Side) (lane leader : ℕ) (effect : Effect) : Type 0 where
  pub of : IsOfShare geometry s lane leader effect
  pub own : IsOwnEntry geometry of.given lane of.tag
      (list_bytes (prps_of of.share.plan of.given (list_page geometry.mediator lane of.tag) (bounce_page geometry.mediator lane of.tag)))
      (ranges_of of.share.plan of.given) (share_entry of.share of.given.namespace of.given of.command.entry geometry.mediator lane of.tag)
  pub is : effect ≡ Store (submission_slot geometry.mediator lane of.slot)
      (share_entry of.share of.given.namespace of.given of.command.entry geometry.mediator lane of.tag)
