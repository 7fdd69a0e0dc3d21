use Rattle.nv_mem.specs.GuestMap.{mapped}
use Rattle.nv_checks.proofs.admin.bench.Bench.take.Goals as goal

pub invariant_of-self : goal.invariant_of-self
invariant_of-self c = (c.self.invariant.0, c.took.ensures.in_place (mapped c.self.inside.map.regions) c.self.invariant.1)
