use Rattle.std.proofs.Common.{drop}
use Rattle.nv_bounce.specs.Bounce.{gathered_to}
use Rattle.nv_bounce.proofs.Copies.{IsAtPiece}
use Rattle.nv_bounce.proofs.gathering.gather.Given as goal

abbrev pub invariant-loop-piece : goal.invariant-loop-piece
invariant-loop-piece g l =
    IsAtPiece (gathered_to l.map.regions) (g.C.MemoryCell.bytes l.fn.host) l.slot l.places (g.C.MemoryCell.bytes l.host) l.to (drop l.piece-index l.places)
