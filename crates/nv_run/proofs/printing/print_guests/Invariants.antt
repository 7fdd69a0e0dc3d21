use Rattle.std.specs.Io.KnownBytes.{Appends}
use Rattle.nv_run.specs.Parts.{part_of}
use Rattle.nv_run.specs.Shown.{lines_below}
use Rattle.nv_threads.specs.Finished.{told_to}
use Rattle.nv_run.proofs.printing.print_guests.Given as goal

-- what was printed so far
abbrev pub invariant-loop-guest : goal.invariant-loop-guest
invariant-loop-guest g l =
    Appends (g.W.Write.contents l.initial.output) (g.W.Write.contents l.output)
    (lines_below l.guest (λ guest. part_of guest l.parts) (λ guest. told_to guest l.ports))
