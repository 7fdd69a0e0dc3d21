use Rattle.std.proofs.Common.{◌≡◌, replicate}
use Rattle.nv_core.specs.declared.progress.Progress.TheVariants as progress
use Rattle.nv_core.proofs.lane_opening.no_progress.Given as goal

abbrev pub invariant-loop-tag : goal.invariant-loop-tag
invariant-loop-tag l = l.kept.items ≡ replicate l._tag progress.Nothing
