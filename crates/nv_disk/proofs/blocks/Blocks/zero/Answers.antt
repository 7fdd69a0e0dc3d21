use Rattle.std.proofs.Common.{ℕ, List, length, ap, arith}
use Rattle.nv_disk.proofs.StoredLemmas.{length-blocks}
use Rattle.nv_disk.proofs.blocks.Blocks.zero.Goals as goal

pub index-requires : goal.index-requires
index-requires c =
    let same = length-blocks c.self.inside.stored.items c.self.inside.entries.items in
    let seen = ap (λ (bs : List (List ℕ)). length bs) c.self.view_is in
    omega arith
