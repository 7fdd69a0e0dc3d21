-- A range of Dataset Management, 16 bytes: NVM Command Set Specification 1.0, "Dataset Management command" (range definition)
use Rattle.std.specs.Prelude.{ℕ, List}
use Rattle.nv_entry.specs.Layout.{dword, qword}

-- the context attributes: bytes 3:0
abbrev pub attributes_of : List ℕ → ℕ
attributes_of range = dword range 0

-- the length in logical blocks: bytes 7:4
abbrev pub blocks_of : List ℕ → ℕ
blocks_of range = dword range 1

-- the starting LBA: bytes 15:8
abbrev pub start_of : List ℕ → ℕ
start_of range = qword range 2
