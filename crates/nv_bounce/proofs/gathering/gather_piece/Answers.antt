use Rattle.std.proofs.Common.{◌≡◌, ap, sym, ◌∙◌}
use Rattle.nv_mem.specs.Places.{places_of_piece}
use Rattle.nv_model.specs.Memory.{byte_in}
use Rattle.nv_bounce.specs.Bounce.{gathered_to}
use Rattle.nv_bounce.proofs.Gathered.{gathered_to-bucket}
use Rattle.nv_bounce.proofs.gathering.gather_piece.Goals as goal

pub returns-in-Bucket-clause-bytes : goal.returns-in-Bucket-clause-bytes
returns-in-Bucket-clause-bytes g c =
    let none : c.in-Bucket.len ≡ 0 = rw c.in-Bucket.is at c.requires.no_bucket in
    gathered_to-bucket c.args.map.now.regions (byte_in (g.C.MemoryCell.bytes c.args.host.now)) c.args.to c.in-Bucket.len none
    ∙ ap (λ piece. gathered_to c.args.map.now.regions (places_of_piece piece) c.args.to (byte_in (g.C.MemoryCell.bytes c.args.host.now))) (sym c.in-Bucket.is)
