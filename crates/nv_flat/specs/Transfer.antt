-- Commands that move blocks between the disk and a buffer
use Rattle.std.specs.Prelude.{Bool, true, false}
use Rattle.nv_entry.specs.declared.opcode.IoOpcode.{IoOpcode}
use Rattle.nv_entry.specs.declared.opcode.IoOpcode.TheVariants.{Flush, Write, Read, Compare, WriteZeroes, DatasetManagement}

-- whether a command has both a buffer and blocks
abbrev pub is_transfer : IoOpcode → Bool
is_transfer Read = true
is_transfer Write = true
is_transfer Compare = true
is_transfer WriteZeroes = false
is_transfer Flush = false
is_transfer DatasetManagement = false
