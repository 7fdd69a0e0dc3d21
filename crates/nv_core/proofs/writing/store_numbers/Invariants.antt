use Rattle.nv_core.proofs.StoredRows.{IsAtItem}
use Rattle.nv_entry.specs.Layout.{number_bytes}
use Rattle.nv_core.proofs.writing.store_numbers.Given as goal

abbrev pub invariant-loop-number : goal.invariant-loop-number
invariant-loop-number g l = IsAtItem (number_bytes 8) 8 (g.C.MemoryCell.bytes l.fn.host) l.fn.at l.numbers (g.C.MemoryCell.bytes l.host) l.at l.number-index
