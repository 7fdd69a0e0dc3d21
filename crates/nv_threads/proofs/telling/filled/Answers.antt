use Rattle.std.proofs.Common.{◌∙◌, ap, length, sym}
use Rattle.std.proofs.lemmas.Option.{none-some}
use Rattle.nv_core.specs.Seat.{bytes_told}
use Rattle.nv_threads.specs.Told.{room_of}
use Rattle.nv_threads.proofs.telling.filled.Goals as goal

pub unreachable-requires : goal.unreachable-requires
unreachable-requires c =
    none-some (length c.in-Bytes.bytes) (sym (ap room_of c.in_default.is) ∙ c.requires c.in-Bytes.bytes (ap bytes_told c.in-Bytes.is))
