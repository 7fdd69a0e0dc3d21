use Rattle.std.proofs.Common.{◌≡◌, false, List, ap, ◌∙◌}
use Rattle.nv_mem.specs.GuestMap.{span_met}
use Rattle.nv_mem.specs.Places.{places_of, total_len}
use Rattle.nv_mem.specs.declared.piece.Piece.{Piece}
use Rattle.nv_mem.specs.declared.piece.Piece.TheVariants as piece
use Rattle.nv_model.specs.Memory.{byte_in}
use Rattle.nv_bounce.specs.Bounce.{gathered_to}
use Rattle.nv_bounce.proofs.Copies.{IsAtPiece-end, IsAtPiece-next, piece-within}
use Rattle.nv_bounce.proofs.Gathered.{gathering-in_order}
use Rattle.nv_mem.proofs.Memory.{span_met-part}
use Rattle.nv_bounce.proofs.gathering.gather.Goals as goal

pub gather_piece-requires-clause-apart : goal.gather_piece-requires-clause-apart
gather_piece-requires-clause-apart g c =
    let items : List Piece = c.args.places.now in
    let apart : span_met c.args.map.now.regions c.args.slot (total_len items) ≡ false = c.requires.apart in
    let within = piece-within (gathered_to c.args.map.now.regions) (g.C.MemoryCell.bytes c.args.host.now) c.args.slot items (g.C.MemoryCell.bytes c.loop-piece.host) c.loop-piece.to
    c.loop-piece.piece-index (piece.Run 0 0) c.loop-piece.invariant c.loop-piece-test.true in
    span_met-part c.args.map.now.regions c.args.slot (total_len items) c.loop-piece.to _ apart within.0 within.1

pub loop-piece-preserved : goal.loop-piece-preserved
loop-piece-preserved g c =
    let items : List Piece = c.args.places.now in
    let apart : span_met c.args.map.now.regions c.args.slot (total_len items) ≡ false = c.requires.apart in
    rw c.len_of-to.ensures
    (IsAtPiece-next (gathered_to c.args.map.now.regions) (g.C.MemoryCell.bytes c.args.host.now) c.args.slot items (g.C.MemoryCell.bytes c.loop-piece.host) (g.C.MemoryCell.bytes c.gather_piece.new.host) c.loop-piece.to
    c.loop-piece.piece-index (piece.Run 0 0) (gathering-in_order c.args.map.now.regions c.args.slot (total_len items) apart)
    c.loop-piece.invariant c.loop-piece-test.true c.gather_piece.ensures.bytes c.gather_piece.ensures.len)

pub returns-clause-bytes : goal.returns-clause-bytes
returns-clause-bytes g c =
    let items : List Piece = c.args.places.now in
    let apart : span_met c.args.map.now.regions c.args.slot (total_len items) ≡ false = c.requires.apart in
    IsAtPiece-end (gathered_to c.args.map.now.regions) (g.C.MemoryCell.bytes c.args.host.now) c.args.slot items (g.C.MemoryCell.bytes c.loop-piece.host) c.loop-piece.to c.loop-piece.piece-index
    (gathering-in_order c.args.map.now.regions c.args.slot (total_len items) apart) c.loop-piece.invariant c.loop-piece-test.false
