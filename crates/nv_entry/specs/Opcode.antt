-- Opcodes, and the transfer that PSDT announces
use Rattle.std.specs.Prelude.{ℕ, ◌==◌, if◌then◌else◌, Option, Some, None}
use Rattle.nv_entry.specs.declared.opcode.IoOpcode.{IoOpcode}
use Rattle.nv_entry.specs.declared.opcode.IoOpcode.TheVariants.{Flush, Write, Read, Compare, WriteZeroes, DatasetManagement}
use Rattle.nv_entry.specs.declared.opcode.AdminOpcode.{AdminOpcode}
use Rattle.nv_entry.specs.declared.opcode.AdminOpcode.TheVariants.{DeleteIoSubmissionQueue, CreateIoSubmissionQueue, GetLogPage}
use Rattle.nv_entry.specs.declared.opcode.AdminOpcode.TheVariants.{DeleteIoCompletionQueue, CreateIoCompletionQueue, Identify}
use Rattle.nv_entry.specs.declared.opcode.AdminOpcode.TheVariants.{Abort, SetFeatures, GetFeatures, AsynchronousEventRequest}
use Rattle.nv_entry.specs.declared.data_pointer.DataPointer.{DataPointer}
use Rattle.nv_entry.specs.declared.data_pointer.DataPointer.TheVariants.{Prp, Sgl, Reserved}

-- NVM Command Set Specification 1.0, "Submission Queue Entry" (opcodes for NVM commands); Flush: Base Specification 2.0, "I/O Commands"
abbrev pub io_opcode : ℕ → Option IoOpcode
io_opcode code =
    if code == 0x00 then Some Flush else
    if code == 0x01 then Some Write else
    if code == 0x02 then Some Read else
    if code == 0x05 then Some Compare else
    if code == 0x08 then Some WriteZeroes else
    if code == 0x09 then Some DatasetManagement else None

-- the opcode of an I/O command
abbrev pub io_code : IoOpcode → ℕ
io_code Flush = 0x00
io_code Write = 0x01
io_code Read = 0x02
io_code Compare = 0x05
io_code WriteZeroes = 0x08
io_code DatasetManagement = 0x09

-- Base Specification 2.0, "Admin Command Set" (opcodes for admin commands): those that the mediator knows
abbrev pub admin_opcode : ℕ → Option AdminOpcode
admin_opcode code =
    if code == 0x00 then Some DeleteIoSubmissionQueue else
    if code == 0x01 then Some CreateIoSubmissionQueue else
    if code == 0x02 then Some GetLogPage else
    if code == 0x04 then Some DeleteIoCompletionQueue else
    if code == 0x05 then Some CreateIoCompletionQueue else
    if code == 0x06 then Some Identify else
    if code == 0x08 then Some Abort else
    if code == 0x09 then Some SetFeatures else
    if code == 0x0a then Some GetFeatures else
    if code == 0x0c then Some AsynchronousEventRequest else None

-- the opcode of an admin command
abbrev pub admin_code : AdminOpcode → ℕ
admin_code DeleteIoSubmissionQueue = 0x00
admin_code CreateIoSubmissionQueue = 0x01
admin_code GetLogPage = 0x02
admin_code DeleteIoCompletionQueue = 0x04
admin_code CreateIoCompletionQueue = 0x05
admin_code Identify = 0x06
admin_code Abort = 0x08
admin_code SetFeatures = 0x09
admin_code GetFeatures = 0x0a
admin_code AsynchronousEventRequest = 0x0c

-- Base Specification 2.0, "Submission Queue Entry", PRP or SGL for Data Transfer (PSDT): 00b PRPs, 01b and 10b SGLs, 11b reserved
abbrev pub data_pointer : ℕ → DataPointer
data_pointer psdt =
    if psdt == 0 then Prp else
    if psdt == 3 then Reserved else Sgl
