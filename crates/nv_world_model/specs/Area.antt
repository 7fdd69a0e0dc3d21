-- The mediator's own area of the host's memory: each lane's submission ring, completion ring, list pages and bounce pages; and what a physical
-- command transfers, and its entry. The layout is the project's own (profile); the physical entries are Base Specification 2.0, "Submission Queue
-- Entry", and NVM Command Set Specification 1.0, "NVM Command Set Commands". What is stored there of a share is `ShareArea`.
use Rattle.std.specs.Prelude.{ℕ, ◌+◌, ◌*◌, ◌/◌, ◌%◌, ◌^◌, if◌then◌else◌, ◌==◌, List, [], ◌∷◌, ◌++◌, flat_map, take}
use Rattle.std.specs.List.{range_with_len}
use Rattle.nv_entry.specs.Layout.{bytes_of_dwords, number_bytes}
use Rattle.nv_entry.specs.Range.{blocks_of, start_of}
use Rattle.nv_mem.specs.Places.{places_of, total_len}
use Rattle.nv_ns.specs.Extents.{Namespace, place_in}
use Rattle.nv_model.specs.Judge.{Work}
use Rattle.nv_model.specs.Limits.{page}
use Rattle.nv_model.specs.Memory.{gathered, image}
use Rattle.nv_model.specs.Queue.{cqe_size, sqe_size}
use Rattle.nv_prp.specs.Built.{built}
use Rattle.nv_prp.specs.Fits.{host_addresses}
use Rattle.nv_prp.specs.declared.prps.Prps.{Prps}
use Rattle.nv_world_model.specs.Geometry.{Guest, regions_of}
use Rattle.nv_world_model.specs.Plan.{Bounced, Direct, Plan}

-- ---- where things lie

-- the tags of a lane; they are the physical command identifiers, too
abbrev pub tag_count : ℕ
tag_count = 64

-- the slots of each physical ring, which never fills
abbrev pub ring_size : ℕ
ring_size = 65

-- the pages of a lane: two for the submission ring, one for the completion ring, and 33 for each tag
abbrev pub lane_pages : ℕ
lane_pages = 2115

-- the first byte of a lane, in an area that begins at `mediator`
abbrev pub lane_start : (mediator lane : ℕ) → ℕ
lane_start mediator lane = mediator + page * (lane_pages * lane)

-- a slot of the submission ring
abbrev pub submission_slot : (mediator lane at : ℕ) → ℕ
submission_slot mediator lane at = lane_start mediator lane + sqe_size * at

-- a slot of the completion ring
abbrev pub completion_slot : (mediator lane at : ℕ) → ℕ
completion_slot mediator lane at = lane_start mediator lane + page * 2 + cqe_size * at

-- the list page of a tag
abbrev pub list_page : (mediator lane tag : ℕ) → ℕ
list_page mediator lane tag = lane_start mediator lane + page * (3 + 33 * tag)

-- the first of the 32 bounce pages of a tag
abbrev pub bounce_page : (mediator lane tag : ℕ) → ℕ
bounce_page mediator lane tag = lane_start mediator lane + page * (4 + 33 * tag)

-- the physical queue pair of a lane
abbrev pub queue_pair : (lane : ℕ) → ℕ
queue_pair lane = lane + 1

-- ---- what a physical command transfers

-- the host addresses of a plan's transfer, in its order; `bounce` is the tag's first bounce page
abbrev pub addresses_of : Plan → Guest → (bounce : ℕ) → List ℕ
addresses_of (Direct work) guest bounce = host_addresses (regions_of guest) work.pieces
addresses_of (Bounced work) guest bounce = range_with_len bounce (total_len work.pieces)
addresses_of _ guest bounce = []

-- PRP1, PRP2 and the list that name them
abbrev pub prps_of : Plan → Guest → (list bounce : ℕ) → Prps
prps_of plan guest list bounce = built list (addresses_of plan guest bounce)

-- the bytes of the list
abbrev pub list_bytes : Prps → List ℕ
list_bytes prps = flat_map (number_bytes 8) (take prps.used prps.list)

-- the first extent's base, to which ranges of no blocks go
abbrev pub first_base : Namespace → ℕ
first_base [] = 0
first_base (extent ∷ rest) = extent.base

-- where the disk has a range: one of no blocks is as far after the first extent's base as its start is in the namespace
abbrev pub range_place : Namespace → (range : List ℕ) → ℕ
range_place ns range = if blocks_of range == 0 then first_base ns + start_of range else place_in ns (start_of range)

-- a range of Dataset Management as the disk has it: attributes 0, the length, and the disk's block
abbrev pub translated_range : Namespace → (range : List ℕ) → List ℕ
translated_range ns range =
    number_bytes 4 0 ++ number_bytes 4 (blocks_of range) ++ number_bytes 8 (range_place ns range)

-- the bytes of a source
abbrev pub source_bytes : Guest → (host : ℕ → ℕ) → Work → List ℕ
source_bytes guest host work = gathered (image (regions_of guest) host) (places_of work.pieces)

-- ---- the physical entry

-- the dwords of a number of 64 bits
abbrev pub two_dwords : ℕ → List ℕ
two_dwords number = (number % 2 ^ 32) ∷ (number / 2 ^ 32) ∷ []

-- the 64 bytes: the guest's opcode, FUSE and PSDT 0, the tag as command identifier, namespace 1, the PRPs, and CDW10
-- to CDW12
unfoldable pub physical_entry : (opcode tag : ℕ) → Prps → (dwords : List ℕ) → List ℕ
physical_entry opcode tag prps dwords =
    bytes_of_dwords (
    (opcode + 2 ^ 16 * tag) ∷ 1 ∷ 0 ∷ 0 ∷ 0 ∷ 0 ∷ two_dwords prps.prp1 ++ two_dwords prps.prp2 ++ dwords ++ 0 ∷ 0 ∷ 0 ∷ []
    )
