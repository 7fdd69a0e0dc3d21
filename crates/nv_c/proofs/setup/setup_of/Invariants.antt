use Rattle.std.proofs.Common.{◌≡◌, take}
use Rattle.nv_c.specs.Tables.{all_given}
use Rattle.nv_c.proofs.setup.setup_of.Given as goal

abbrev pub invariant-loop-number : goal.invariant-loop-number
invariant-loop-number l = l.guests.items ≡ all_given l.sizes.host_bytes l.regions l.extents 0 (take l.number l.limits)
