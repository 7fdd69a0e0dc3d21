use Rattle.std.proofs.Common.{◌≡◌, ◌+◌, take}
use Rattle.nv_mem.specs.Places.{total_len}
use Rattle.nv_checks.proofs.prp.building.are_few.Given as goal

abbrev pub invariant-loop-piece : goal.invariant-loop-piece
invariant-loop-piece l = l.left + total_len (take l.piece-index l.piece-items) ≡ 131072
