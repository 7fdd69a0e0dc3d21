use Rattle.std.proofs.Common.{ℕ, List}
use Rattle.nv_print.proofs.Growing.{Appends-nothing, Appends-then}
use Rattle.nv_run.specs.Parts.{part_of}
use Rattle.nv_run.specs.Shown.{guest_lines, lines_below}
use Rattle.nv_run.proofs.Printings.{lines_below-more}
use Rattle.nv_run_script.specs.declared.line.Line.{Line}
use Rattle.nv_threads.specs.Finished.{told_to}
use Rattle.nv_world_model.specs.declared.logged.Logged.{Logged}
use Rattle.nv_run.proofs.printing.print_guests.Goals as goal

pub loop-guest-init : goal.loop-guest-init
unfolding lines_below
loop-guest-init g c = Appends-nothing _

pub loop-guest-preserved : goal.loop-guest-preserved
loop-guest-preserved g c =
    let lines : ℕ → List Line = λ guest. part_of guest c.args.parts.now in
    let calls : ℕ → List Logged = λ guest. told_to guest c.args.ports.now in
    let guest = c.loop-guest.guest in
    rw (lines_below-more guest lines calls)
    (Appends-then _ _ _ (lines_below guest lines calls) (guest_lines guest (lines guest) (calls guest)) c.loop-guest.invariant (rw (c.lines_of.ensures, c.told_to.ensures) at c.in_ok-print_guest.ensures))
