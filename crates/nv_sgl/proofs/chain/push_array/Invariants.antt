use Rattle.std.proofs.Common.{◌≡◌, ◌++◌, take}
use Rattle.nv_sgl.specs.Chain.{pieces_of}
use Rattle.nv_sgl.proofs.chain.push_array.Given as goal

abbrev pub invariant-loop-d : goal.invariant-loop-d
invariant-loop-d l = l.places ≡ l.initial.places ++ pieces_of l.dest (take l.d-index l.blocks)
