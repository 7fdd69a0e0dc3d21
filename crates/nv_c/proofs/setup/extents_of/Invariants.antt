use Rattle.std.proofs.Common.{◌≡◌, take}
use Rattle.nv_c.specs.Tables.{extents_of}
use Rattle.nv_c.proofs.setup.extents_of.Given as goal

abbrev pub invariant-loop-extent : goal.invariant-loop-extent
invariant-loop-extent l = l.own.items ≡ extents_of l.guest (take l.extent-index l.extents)
