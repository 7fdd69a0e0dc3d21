use Rattle.std.proofs.Common.{ℕ, ◌<◌, get_or}
use Rattle.nv_mem.specs.GuestMap.{mapped}
use Rattle.nv_mem.specs.declared.piece.Piece.{Piece}
use Rattle.nv_model.specs.Laws.{IsMappedPiece}
use Rattle.nv_checks.proofs.prp.building.are_mapped.Given as goal

abbrev pub invariant-loop-piece : goal.invariant-loop-piece
invariant-loop-piece l = (k : ℕ) (d : Piece) → k < l.piece-index → IsMappedPiece (mapped l.map.regions) (get_or l.piece-items k d)
