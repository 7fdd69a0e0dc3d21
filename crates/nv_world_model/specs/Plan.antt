-- What the mediator does with a command: it answers at once, or hands a physical command on, whose transfer goes to
-- and from the guest's own memory or by way of the mediator's bounce pages. A plan follows from the entry, the bytes
-- that were read of its lists, and what the guest was given, alone (profile).
use Rattle.std.specs.Prelude.{ℕ, Bool, if◌then◌else◌, List, []}
use Rattle.nv_entry.specs.Status.{StatusField}
use Rattle.nv_mem.specs.declared.region.Region.{Region}
use Rattle.nv_model.specs.Judge.{Form, Go, Manage, Refuse, Transfer, Verdict, Work, form_of, judge}
use Rattle.nv_model.specs.Transcript.{Outcome, ReadDone, Settled, Wanted, in_transcript}
use Rattle.nv_prp.specs.Fits.{places_fit}
use Rattle.nv_world_model.specs.Geometry.{Guest, regions_of, shape_of}

-- what is done with a command
pub data Plan : Type 0 where
  -- it ends with this status
  Answer : StatusField → Plan
  -- a physical command that moves no bytes to or from memory
  NoData : Work → Plan
  -- a transfer whose places the physical command names itself
  Direct : Work → Plan
  -- a transfer through the bounce pages: a buffer's bytes, or ranges of blocks, which are stored there translated
  Bounced : Work → Plan

-- a transfer is direct exactly where its places name no bucket and their host addresses fit PRP
abbrev pub transfer_plan : (fits : Bool) → Work → Plan
transfer_plan fits work = if fits then Direct work else Bounced work

-- the plan of a command of that form that goes
abbrev pub go_plan : Form → List Region → Work → Plan
go_plan (Transfer dest) regions work = transfer_plan (places_fit regions work.pieces) work
go_plan Manage regions work = Bounced work
go_plan _ regions work = NoData work

-- the plan of a command with that verdict
abbrev pub plan_of : List Region → Verdict → Plan
plan_of regions (Refuse st) = Answer st
plan_of regions (Go work) = go_plan (form_of work.opcode) regions work

-- ---- over a transcript

-- more is wanted, or this is the plan
abbrev pub planned : List Region → Outcome Verdict → Outcome Plan
planned regions (Wanted addr len) = Wanted addr len
planned regions (Settled verdict) = Settled (plan_of regions verdict)

-- what has come of a guest's command of 64 bytes with these reads of its lists
unfoldable pub plan_over : Guest → (entry : List ℕ) → List ReadDone → Outcome Plan
plan_over guest entry reads =
    (let shape = shape_of guest in
    planned (regions_of guest) (in_transcript (judge shape.mapped shape.limit shape.blocks entry) [] reads))
