-- The status codes that the mediator gives: Base Specification 2.0, "Status Code" (generic and command specific values); NVM
-- Command Set Specification 1.0, "Status Values" (LBA Out of Range, Compare Failure)
use Rattle.std.specs.Prelude.{ℕ, true, false}
use Rattle.nv_entry.specs.Status.{StatusField, status}
use Rattle.nv_entry.specs.declared.status_code.StatusCode.{StatusCode}
use Rattle.nv_entry.specs.declared.status_code.StatusCode.TheVariants.{Success, InvalidOpcode, InvalidField, DataTransferError, InternalError}
use Rattle.nv_entry.specs.declared.status_code.StatusCode.TheVariants.{InvalidNamespace, CommandSequenceError, InvalidSglSegment, InvalidSglCount}
use Rattle.nv_entry.specs.declared.status_code.StatusCode.TheVariants.{SglLengthInvalid, SglTypeInvalid, PrpOffsetInvalid, LbaOutOfRange}
use Rattle.nv_entry.specs.declared.status_code.StatusCode.TheVariants.{CompletionQueueInvalid, InvalidQueueIdentifier, InvalidQueueSize, EventLimitExceeded}
use Rattle.nv_entry.specs.declared.status_code.StatusCode.TheVariants.{InvalidLogPage, InvalidQueueDeletion, UnrecoveredReadError, CompareFailure}

-- the status code type: generic (0h), command specific (1h), media and data integrity errors (2h)
abbrev pub sct_of : StatusCode → ℕ
sct_of CompletionQueueInvalid = 1
sct_of InvalidQueueIdentifier = 1
sct_of InvalidQueueSize = 1
sct_of EventLimitExceeded = 1
sct_of InvalidLogPage = 1
sct_of InvalidQueueDeletion = 1
sct_of UnrecoveredReadError = 2
sct_of CompareFailure = 2
sct_of _ = 0

-- the status code
abbrev pub sc_of : StatusCode → ℕ
sc_of Success = 0x00
sc_of InvalidOpcode = 0x01
sc_of InvalidField = 0x02
sc_of DataTransferError = 0x04
sc_of InternalError = 0x06
sc_of InvalidNamespace = 0x0b
sc_of CommandSequenceError = 0x0c
sc_of InvalidSglSegment = 0x0d
sc_of InvalidSglCount = 0x0e
sc_of SglLengthInvalid = 0x0f
sc_of SglTypeInvalid = 0x11
sc_of PrpOffsetInvalid = 0x13
sc_of LbaOutOfRange = 0x80
sc_of CompletionQueueInvalid = 0x00
sc_of InvalidQueueIdentifier = 0x01
sc_of InvalidQueueSize = 0x02
sc_of EventLimitExceeded = 0x05
sc_of InvalidLogPage = 0x09
sc_of InvalidQueueDeletion = 0x0c
sc_of UnrecoveredReadError = 0x81
sc_of CompareFailure = 0x85

-- the status with this code, DNR 0
abbrev pub done_with : StatusCode → StatusField
done_with code = status (sct_of code) (sc_of code) false

-- the status with this code, DNR 1: refusals carry it, so that a host does not try again what cannot succeed (profile)
abbrev pub refused_with : StatusCode → StatusField
refused_with code = status (sct_of code) (sc_of code) true
