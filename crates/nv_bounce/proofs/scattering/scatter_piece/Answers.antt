use Rattle.std.proofs.Common.{ap, sym, ◌∙◌}
use Rattle.nv_mem.specs.Places.{places_of_piece}
use Rattle.nv_model.specs.Memory.{byte_in}
use Rattle.nv_bounce.specs.Bounce.{scattered_from}
use Rattle.nv_bounce.proofs.Scattered.{scattered_from-buckets}
use Rattle.nv_bounce.proofs.scattering.scatter_piece.Goals as goal

pub returns-in-Bucket-clause-bytes : goal.returns-in-Bucket-clause-bytes
returns-in-Bucket-clause-bytes g c =
    scattered_from-buckets c.args.map.now.regions (byte_in (g.C.MemoryCell.bytes c.args.host.now)) c.args.from c.in-Bucket.len c.host_len-known.ensures.sound.apart
    ∙ ap (λ piece. scattered_from c.args.map.now.regions (places_of_piece piece) c.args.from (byte_in (g.C.MemoryCell.bytes c.args.host.now))) (sym c.in-Bucket.is)
