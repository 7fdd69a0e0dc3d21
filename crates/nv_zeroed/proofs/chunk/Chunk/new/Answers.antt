use Rattle.std.proofs.Common.{ℕ, List, length, ap}
use Rattle.nv_zeroed.proofs.Lists.{laid-none}
use Rattle.nv_zeroed.proofs.chunk.Chunk.new.Goals as goal

pub returns : goal.returns
returns c = laid-none 262144 c.in_ok-with_capacity.field-0.items (ap (λ (xs : List ℕ). length xs) c.in_ok-with_capacity.ensures.items)
