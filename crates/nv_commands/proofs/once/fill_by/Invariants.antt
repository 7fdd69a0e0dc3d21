use Rattle.std.proofs.Common.{◌≡◌, ◌-◌, ◌≤◌, length, replicate}
use Rattle.nv_disk.specs.Flat.{flat}
use Rattle.nv_mem.specs.Bytes.{after_store}
use Rattle.nv_commands.specs.Once.{HasSizes}
use Rattle.nv_commands.proofs.once.fill_by.Given as goal

abbrev pub invariant-loop-done : goal.invariant-loop-done
invariant-loop-done g l =
    let old = g.C.One.seen l.initial.controller in
    (l.done ≤ l.len) × (g.C.One.seen l.controller ≡ flat (after_store old.memory l.addr (replicate l.done l.byte)) old.disk old.kept)
    × HasSizes (g.C.One.seen l.controller) (length old.memory) (length old.disk)

abbrev pub decreases-loop-done : goal.decreases-loop-done
decreases-loop-done g l = l.len - l.done
