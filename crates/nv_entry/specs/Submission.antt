-- The fields of a submission queue entry, 64 bytes: Base Specification 2.0, "Submission Queue Entry" (common command
-- format); the fields of the I/O commands: NVM Command Set Specification 1.0, "NVM Command Set Commands".
use Rattle.std.specs.Prelude.{ℕ, List, slice_range}
use Rattle.nv_entry.specs.Layout.{dword, qword, bits}

-- OPC: bits 7:0 of dword 0
abbrev pub opcode_of : List ℕ → ℕ
opcode_of entry = bits (dword entry 0) 7 0

-- FUSE: bits 9:8 of dword 0
abbrev pub fuse_of : List ℕ → ℕ
fuse_of entry = bits (dword entry 0) 9 8

-- PSDT: bits 15:14 of dword 0
abbrev pub psdt_of : List ℕ → ℕ
psdt_of entry = bits (dword entry 0) 15 14

-- CID, the command identifier: bits 31:16 of dword 0
abbrev pub cid_of : List ℕ → ℕ
cid_of entry = bits (dword entry 0) 31 16

-- NSID: bytes 7:4
abbrev pub nsid_of : List ℕ → ℕ
nsid_of entry = dword entry 1

-- MPTR, the metadata pointer: bytes 23:16
abbrev pub mptr_of : List ℕ → ℕ
mptr_of entry = qword entry 4

-- PRP1: bytes 31:24
abbrev pub prp1_of : List ℕ → ℕ
prp1_of entry = qword entry 6

-- PRP2: bytes 39:32
abbrev pub prp2_of : List ℕ → ℕ
prp2_of entry = qword entry 8

-- SGL1, the command's own SGL descriptor: bytes 39:24
abbrev pub sgl_of : List ℕ → List ℕ
sgl_of entry = slice_range entry 24 40

-- command dword n, for n from 10 to 15
abbrev pub cdw_of : ℕ → List ℕ → ℕ
cdw_of n entry = dword entry n

-- SLBA, the starting LBA of Read, Write, Compare and Write Zeroes: CDW10 (low) and CDW11 (high)
abbrev pub slba_of : List ℕ → ℕ
slba_of entry = qword entry 10

-- NLB, the number of logical blocks counted from 0: bits 15:0 of CDW12
abbrev pub nlb_of : List ℕ → ℕ
nlb_of entry = bits (dword entry 12) 15 0

-- FUA, force unit access: bit 30 of CDW12
abbrev pub fua_of : List ℕ → ℕ
fua_of entry = bits (dword entry 12) 30 30

-- NR, the number of ranges of Dataset Management counted from 0: bits 7:0 of CDW10
abbrev pub nr_of : List ℕ → ℕ
nr_of entry = bits (dword entry 10) 7 0

-- AD, deallocate, of Dataset Management: bit 2 of CDW11
abbrev pub deallocate_of : List ℕ → ℕ
deallocate_of entry = bits (dword entry 11) 2 2
