use Rattle.std.proofs.Common.{drop}
use Rattle.nv_bounce.specs.Bounce.{scattered_from}
use Rattle.nv_bounce.proofs.Copies.{IsAtPiece}
use Rattle.nv_bounce.proofs.scattering.scatter.Given as goal

abbrev pub invariant-loop-piece : goal.invariant-loop-piece
invariant-loop-piece g l =
    IsAtPiece (scattered_from l.map.regions) (g.C.MemoryCell.bytes l.fn.host) l.slot l.places (g.C.MemoryCell.bytes l.host) l.from (drop l.piece-index l.places)
