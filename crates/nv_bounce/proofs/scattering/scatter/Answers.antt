use Rattle.std.proofs.Common.{◌≡◌, ℕ, false, List, ap, ◌∙◌}
use Rattle.nv_mem.specs.GuestMap.{span_met}
use Rattle.nv_mem.specs.Places.{places_of, total_len}
use Rattle.nv_mem.specs.declared.piece.Piece.{Piece}
use Rattle.nv_mem.specs.declared.piece.Piece.TheVariants as piece
use Rattle.nv_model.specs.Memory.{byte_in, bytes_from, image, put_image, scattered}
use Rattle.nv_mem.proofs.PlaceLists.{length-places_of}
use Rattle.nv_bounce.specs.Bounce.{scattered_from}
use Rattle.nv_bounce.proofs.Copies.{IsAtPiece-end, IsAtPiece-next, piece-within}
use Rattle.nv_bounce.proofs.Scattered.{scattering-in_order}
use Rattle.nv_mem.proofs.Memory.{span_met-part}
use Rattle.nv_bounce.proofs.scattering.scatter.Goals as goal

pub scatter_piece-requires-clause-apart : goal.scatter_piece-requires-clause-apart
scatter_piece-requires-clause-apart g c =
    let items : List Piece = c.args.places.now in
    let apart : span_met c.args.map.now.regions c.args.slot (total_len items) ≡ false = c.requires.apart in
    let within = piece-within (scattered_from c.args.map.now.regions) (g.C.MemoryCell.bytes c.args.host.now) c.args.slot items (g.C.MemoryCell.bytes c.loop-piece.host) c.loop-piece.from
    c.loop-piece.piece-index (piece.Run 0 0) c.loop-piece.invariant c.loop-piece-test.true in
    span_met-part c.args.map.now.regions c.args.slot (total_len items) c.loop-piece.from _ apart within.0 within.1

pub loop-piece-preserved : goal.loop-piece-preserved
loop-piece-preserved g c =
    let items : List Piece = c.args.places.now in
    let apart : span_met c.args.map.now.regions c.args.slot (total_len items) ≡ false = c.requires.apart in
    rw c.len_of-from.ensures
    (IsAtPiece-next (scattered_from c.args.map.now.regions) (g.C.MemoryCell.bytes c.args.host.now) c.args.slot items (g.C.MemoryCell.bytes c.loop-piece.host) (g.C.MemoryCell.bytes c.scatter_piece.new.host) c.loop-piece.from
    c.loop-piece.piece-index (piece.Run 0 0) (scattering-in_order c.args.map.now.regions c.args.slot (total_len items) c.host_len-known.ensures.sound.apart apart)
    c.loop-piece.invariant c.loop-piece-test.true c.scatter_piece.ensures.bytes c.scatter_piece.ensures.len)

pub returns-clause-bytes : goal.returns-clause-bytes
returns-clause-bytes g c =
    let items : List Piece = c.args.places.now in
    let apart : span_met c.args.map.now.regions c.args.slot (total_len items) ≡ false = c.requires.apart in
    IsAtPiece-end (scattered_from c.args.map.now.regions) (g.C.MemoryCell.bytes c.args.host.now) c.args.slot items (g.C.MemoryCell.bytes c.loop-piece.host) c.loop-piece.from c.loop-piece.piece-index
    (scattering-in_order c.args.map.now.regions c.args.slot (total_len items) c.host_len-known.ensures.sound.apart apart) c.loop-piece.invariant c.loop-piece-test.false
    ∙ ap (λ (n : ℕ). put_image c.args.map.now.regions
    (scattered (image c.args.map.now.regions (byte_in (g.C.MemoryCell.bytes c.args.host.now))) (places_of c.args.places.now) (bytes_from (byte_in (g.C.MemoryCell.bytes c.args.host.now)) c.args.slot n))
    (byte_in (g.C.MemoryCell.bytes c.args.host.now)))
    (length-places_of c.args.places.now)
