use Rattle.std.proofs.Common.{◌<◌, arith, length}
use Rattle.nv_core.proofs.GroupWorlds.{looked-up}
use Rattle.nv_core.proofs.Notes.{noted-less}
use Rattle.nv_core.proofs.front.Front.settle.Goals as goal

pub invariant_of-self : goal.invariant_of-self
invariant_of-self c =
    let below : c.from-number.result < length c.self.inside.controllers.items = (let l = c.len.ensures in let t = c.if-number-len.true in omega arith) in
    noted-less c.self.inside.controllers.items c.self.inside.noted c.args.guest c.settled-self-inside.result c.index.result.now c.self.invariant
    c.settled-self-inside.ensures
    (looked-up c.self.inside.controllers.items c.args.guest c.from-number.result c.index.result.now c.from-number.ensures below c.index.ensures)
    (c.is_quiet.ensures c.if-is_quiet.true)
