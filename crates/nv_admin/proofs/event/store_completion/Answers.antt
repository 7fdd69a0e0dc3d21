use Rattle.std.proofs.Common.{sym}
use Rattle.nv_model.specs.Memory.{byte_in}
use Rattle.nv_model.proofs.PutImages.{put_image-own}
use Rattle.nv_admin.proofs.event.store_completion.Goals as goal

pub returns-in_default-clause-bytes : goal.returns-in_default-clause-bytes
returns-in_default-clause-bytes g c =
    rw c.in_default.is
    (sym (put_image-own c.args.map.now.regions (byte_in (g.C.MemoryCell.bytes c.args.host.now)) c.host_len-known.ensures.sound.apart))
