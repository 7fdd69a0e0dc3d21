use Rattle.std.proofs.Common.{below_more}
use Rattle.nv_run.specs.Driving.{AreGone}
use Rattle.nv_run.specs.Parts.{part_of}
use Rattle.nv_threads.specs.Finished.{told_to}
use Rattle.nv_run.proofs.walk.check_parts.Goals as goal

pub loop-guest-preserved : goal.loop-guest-preserved
loop-guest-preserved c =
    below_more (λ guest. AreGone guest (part_of guest c.args.parts.now) (told_to guest c.args.ports.now)) c.loop-guest.guest c.loop-guest.invariant (rw (c.lines_of.ensures, c.told_to.ensures) at c.in_default.ensures)
