use Rattle.std.proofs.Common.{◌≡◌, ◌+◌, drop}
use Rattle.nv_mem.specs.Places.{total_len}
use Rattle.nv_bounce.proofs.pieces.total_len.Given as goal

abbrev pub invariant-loop-piece : goal.invariant-loop-piece
invariant-loop-piece l = l.total + total_len (drop l.piece-index l.piece-items) ≡ total_len l.places
