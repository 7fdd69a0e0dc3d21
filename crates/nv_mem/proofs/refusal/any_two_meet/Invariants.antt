use Rattle.std.proofs.Common.{◌≡◌, drop}
use Rattle.nv_mem.specs.MapRefusal.{any_two_meet}
use Rattle.nv_mem.proofs.refusal.any_two_meet.Given as goal

-- what is left decides
abbrev pub invariant-loop-i : goal.invariant-loop-i
invariant-loop-i l = any_two_meet l.regions ≡ any_two_meet (drop l.i l.regions)
