use Rattle.std.proofs.Common.{ap}
use Rattle.nv_entry.specs.Submission.{opcode_of}
use Rattle.nv_ns.specs.Extents.{blocks_in}
use Rattle.nv_model.specs.Judge.{Go}
use Rattle.nv_model.proofs.AnyAnswers.{end-sound}
use Rattle.nv_world_model.specs.Area.{bounce_page, list_page, physical_entry, prps_of}
use Rattle.nv_world_model.specs.Plan.{plan_of}
use Rattle.nv_laws.proofs.shares.OneArea.{own_dwords-whole, shares_of-alone}
use Rattle.nv_laws.proofs.laws.shares.one_extent_is_written_by_the_entry.Goals as goal

pub returns-clause-alone : goal.returns-clause-alone
returns-clause-alone c = λ regions mapped limit ns entry work one goes.
    shares_of-alone regions mapped ns entry work one (end-sound mapped limit (blocks_in ns) entry work goes)

pub returns-clause-entry : goal.returns-clause-entry
returns-clause-entry c = λ regions mapped limit guest entry work mediator lane tag goes.
    ap (physical_entry (opcode_of entry) tag
    (prps_of (plan_of regions (Go work)) guest (list_page mediator lane tag) (bounce_page mediator lane tag)))
    (own_dwords-whole regions mapped entry guest.namespace work (end-sound mapped limit (blocks_in guest.namespace) entry work goes))
