use Rattle.std.proofs.Common.{◌≡◌, take}
use Rattle.std.specs.Io.KnownBytes.{Appends}
use Rattle.nv_run.specs.Shown.{guest_lines}
use Rattle.nv_run.proofs.Printings.{behind_all}
use Rattle.nv_run.proofs.printing.print_guest.Given as goal

-- what was printed so far, and the calls that are left
abbrev pub invariant-loop-line : goal.invariant-loop-line
invariant-loop-line g l =
    Appends (g.W.Write.contents l.initial.output) (g.W.Write.contents l.output) (guest_lines l.guest (take l.line-index l.lines) l.calls)
    × (l.left ≡ behind_all (take l.line-index l.lines) l.calls)
