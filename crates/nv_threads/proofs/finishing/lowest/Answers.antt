use Rattle.std.proofs.Common.{below_more}
use Rattle.nv_threads.specs.Finished.{IsTold}
use Rattle.nv_threads.proofs.finishing.lowest.Goals as goal

pub loop-number-preserved : goal.loop-number-preserved
loop-number-preserved c = record {
  all = c.loop-number.invariant.all;
  below = below_more (IsTold c.args.log.now c.args.ports.now) c.loop-number.number c.loop-number.invariant.below c.in_default.ensures;
}
