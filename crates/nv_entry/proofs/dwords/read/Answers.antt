use Rattle.std.proofs.Common.{arith}
use Rattle.nv_entry.specs.Bytes.{bytes_back}
use Rattle.nv_entry.proofs.dwords.read.Goals as goal

pub returns-clause-spelled : goal.returns-clause-spelled
returns-clause-spelled c =
    bytes_back _ _ (omega arith) (λ i. let fits = c.type_inv.bytes i in omega arith) c.read_u32_into.ensures

pub returns-clause-dwords : goal.returns-clause-dwords
returns-clause-dwords c =
    record { count = omega arith; fit = record { each = λ i. let fits = c.type_inv.dwords i in omega arith } }
