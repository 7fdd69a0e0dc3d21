use Rattle.std.proofs.Common.{◌≡◌, ◌++◌, length}
use Rattle.nv_mem.specs.Places.{places_of, places_of_piece}
use Rattle.nv_disk.proofs.buffer.Buffer.take_front.Given as goal

abbrev pub invariant-loop-piece : goal.invariant-loop-piece
invariant-loop-piece l = l.fn.self ≡ places_of_piece l.piece ++ places_of l.behind

abbrev pub decreases-loop-piece : goal.decreases-loop-piece
decreases-loop-piece l = length l.behind
