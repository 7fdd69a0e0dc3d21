use Rattle.std.proofs.Common.{ℕ, replicate}
use Rattle.std.proofs.lemmas.List.{take-replicate}
use Rattle.nv_disk.proofs.blocks.zero_row.Goals as goal

pub returns : goal.returns
returns c = take-replicate c.args.count 64 (replicate {A = ℕ} 512 0) c.requires
