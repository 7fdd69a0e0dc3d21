use Rattle.std.proofs.Common.{arith, eqb, take, w8}
use Rattle.std.proofs.lemmas.List.{length-take-le}
use Rattle.std.proofs.lemmas.Simd.{bitmask_splat}
use Rattle.nv_once_script.proofs.once.lines.feeds.Goals as goal

pub returns : goal.returns
returns c = bitmask_splat w8 eqb (take 32 c.args.text.now) 32 10 (length-take-le 32 c.args.text.now c.requires) (omega arith)
