use Rattle.std.proofs.Common.{refl}
use Rattle.nv_prp.proofs.Entries.{Row-next, Row-start}
use Rattle.nv_prp.proofs.met.Met.add_later.Goals as goal

pub loop-skipped-init : goal.loop-skipped-init
loop-skipped-init c = Row-start c.args.self.now c.args.from c.args.len _ refl

pub loop-skipped-preserved : goal.loop-skipped-preserved
loop-skipped-preserved c = Row-next _ _ _ _ _ _ c.loop-skipped.invariant c.loop-skipped-test.true c.push.ensures
