use Rattle.std.proofs.Common.{arith}
use Rattle.nv_core.proofs.CallReaps.{new-told}
use Rattle.nv_core.proofs.reaping.is_new.Goals as goal

pub returns : goal.returns
returns c =
    new-told c.args.ring.now c.args.last c.of.result c.phase.result c.wanted_phase.result (omega arith) c.of.ensures c.phase.ensures c.wanted_phase.ensures
