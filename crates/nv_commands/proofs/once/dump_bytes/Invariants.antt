use Rattle.std.proofs.Common.{◌-◌, ◌≤◌}
use Rattle.std.specs.Io.KnownBytes.{Appends}
use Rattle.hex.specs.Hex.{encode_lower}
use Rattle.nv_mem.specs.Bytes.{bytes_at}
use Rattle.nv_commands.proofs.once.dump_bytes.Given as goal

abbrev pub invariant-loop-done : goal.invariant-loop-done
invariant-loop-done g l =
    (l.done ≤ l.len)
    × Appends (g.W.Write.contents l.initial.output) (g.W.Write.contents l.output) (encode_lower (bytes_at (g.C.One.seen l.controller).memory l.addr l.done))

abbrev pub decreases-loop-done : goal.decreases-loop-done
decreases-loop-done g l = l.len - l.done
