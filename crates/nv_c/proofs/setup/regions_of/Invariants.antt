use Rattle.std.proofs.Common.{◌≡◌, take}
use Rattle.nv_c.specs.Tables.{regions_of}
use Rattle.nv_c.proofs.setup.regions_of.Given as goal

abbrev pub invariant-loop-region : goal.invariant-loop-region
invariant-loop-region l = l.own.items ≡ regions_of l.guest (take l.region-index l.regions)
