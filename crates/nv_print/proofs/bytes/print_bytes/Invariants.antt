use Rattle.std.proofs.Common.{◌≡◌, ℕ, List, ◌++◌, length}
use Rattle.std.specs.Io.KnownBytes.{Appends}
use Rattle.hex.specs.Hex.{encode_lower}
use Rattle.nv_print.proofs.bytes.print_bytes.Given as goal

-- the front of the bytes is printed, and these are left
abbrev pub invariant-loop-left : goal.invariant-loop-left
invariant-loop-left g l =
    (done : List ℕ)
    × Appends (g.W.Write.contents l.initial.output) (g.W.Write.contents l.output) (encode_lower done)
    × (l.bytes ≡ done ++ l.left)

abbrev pub decreases-loop-left : goal.decreases-loop-left
decreases-loop-left g l = length l.left
