-- What the mediator writes for the physical controller of a share: its list, its source or its ranges as the disk has them, and its physical
-- entry, with CDW10 to CDW12 by its own units and ranges (NVM Command Set Specification 1.0, "NVM Command Set Commands"; profile).
use Rattle.std.specs.Prelude.{ℕ, ◌+◌, ◌-◌, ◌*◌, ◌^◌, ◌==◌, Bool, false, if◌then◌else◌, List, [], ◌∷◌, ◌++◌, flat_map, length}
use Rattle.nv_entry.specs.Status.{bit}
use Rattle.nv_entry.specs.Submission.{deallocate_of, opcode_of}
use Rattle.nv_ns.specs.Extents.{Namespace, place_in}
use Rattle.nv_model.specs.Judge.{ClearBlock, Form, KeepAll, Keep, LeaveBlock, Manage, MoveBlock, Transfer, Work, WorkUnit, form_of, is_fua}
use Rattle.nv_model.specs.Memory.{stored}
use Rattle.nv_world_model.specs.Area.{bounce_page, list_bytes, list_page, physical_entry, prps_of, source_bytes, submission_slot}
use Rattle.nv_world_model.specs.Area.{translated_range, two_dwords}
use Rattle.nv_world_model.specs.Geometry.{Guest}
use Rattle.nv_world_model.specs.Plan.{Answer, Bounced, Direct, NoData, Plan}
use Rattle.nv_world_model.specs.Share.{Share}

-- the first of the units' blocks
abbrev pub unit_lba : WorkUnit → ℕ
unit_lba (MoveBlock index lba) = lba
unit_lba (ClearBlock lba mark) = lba
unit_lba (LeaveBlock lba) = lba
unit_lba (KeepAll blocks) = 0

abbrev pub first_lba : List WorkUnit → ℕ
first_lba [] = 0
first_lba (unit ∷ rest) = unit_lba unit

-- CDW10 to CDW12 of a work of that form: the block on the disk, with NLB and FUA; or NR and deallocate
abbrev pub work_dwords : Form → Namespace → (entry : List ℕ) → Work → List ℕ
work_dwords Manage ns entry work = (length work.ranges - 1) ∷ (4 * deallocate_of entry) ∷ 0 ∷ []
work_dwords Keep ns entry work = 0 ∷ 0 ∷ 0 ∷ []
work_dwords _ ns entry work =
    two_dwords (place_in ns (first_lba work.units)) ++ (length work.units - 1 + 2 ^ 30 * bit (is_fua entry)) ∷ []

abbrev pub own_dwords : Plan → Namespace → (entry : List ℕ) → List ℕ
own_dwords (Answer st) ns entry = 0 ∷ 0 ∷ 0 ∷ []
own_dwords (NoData work) ns entry = work_dwords (form_of work.opcode) ns entry work
own_dwords (Direct work) ns entry = work_dwords (form_of work.opcode) ns entry work
own_dwords (Bounced work) ns entry = work_dwords (form_of work.opcode) ns entry work

-- what is in the bounce pages: a source, or the ranges
abbrev pub form_own_bytes : Form → Namespace → Guest → (host : ℕ → ℕ) → Work → List ℕ
form_own_bytes (Transfer dest) ns guest host work = if dest then [] else source_bytes guest host work
form_own_bytes Manage ns guest host work = flat_map (translated_range ns) work.ranges
form_own_bytes _ ns guest host work = []

abbrev pub own_bytes : Plan → Namespace → Guest → (host : ℕ → ℕ) → List ℕ
own_bytes (Bounced work) ns guest host = form_own_bytes (form_of work.opcode) ns guest host work
own_bytes _ ns guest host = []

-- the physical entry of a share in that tag
abbrev pub share_entry : Share → Namespace → Guest → (entry : List ℕ) → (mediator lane tag : ℕ) → List ℕ
share_entry share ns guest entry mediator lane tag =
    physical_entry (opcode_of entry) tag (prps_of share.plan guest (list_page mediator lane tag) (bounce_page mediator lane tag))
    (own_dwords share.plan ns entry)

-- whether a work of that form has nothing for the physical controller: it manages no range
abbrev pub is_no_work : Form → Work → Bool
is_no_work Manage work = length work.ranges == 0
is_no_work _ work = false

abbrev pub is_no_plan : Plan → Bool
is_no_plan (Answer st) = false
is_no_plan (NoData work) = is_no_work (form_of work.opcode) work
is_no_plan (Direct work) = is_no_work (form_of work.opcode) work
is_no_plan (Bounced work) = is_no_work (form_of work.opcode) work

abbrev pub is_no_command : Share → Bool
is_no_command share = is_no_plan share.plan

-- the host's memory with a share's list in its tag's page, its source or ranges in the bounce pages, and its physical
-- entry in that slot
unfoldable pub share_written : Share → Guest → (entry : List ℕ) → (mediator lane tag slot : ℕ) → (host : ℕ → ℕ) → ℕ → ℕ
share_written share guest entry mediator lane tag slot host =
    (let listed = stored host (list_page mediator lane tag)
    (list_bytes (prps_of share.plan guest (list_page mediator lane tag) (bounce_page mediator lane tag))) in
    let bounced = stored listed (bounce_page mediator lane tag) (own_bytes share.plan guest.namespace guest host) in
    stored bounced (submission_slot mediator lane slot) (share_entry share guest.namespace guest entry mediator lane tag))
