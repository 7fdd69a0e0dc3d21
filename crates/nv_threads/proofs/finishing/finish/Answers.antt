use Rattle.std.proofs.Common.{refl}
use Rattle.nv_threads.proofs.Finishes.{finished, sum-off}
use Rattle.nv_threads.proofs.finishing.finish.Goals as goal

pub returns-then-not-adds_up-clause-err : goal.returns-then-not-adds_up-clause-err
returns-then-not-adds_up-clause-err c =
    sum-off c.log-log.result.now c.args.world.now.log c.args.ports.now c.args.shares.now c.log-log.ensures.value c.in_default.ensures
    (λ same. let added = c.if-not-adds_up.ensures.1 same in cc)

pub returns-clause-ok : goal.returns-clause-ok
returns-clause-ok c =
    finished c.log-log.result.now c.args.world.now.log c.args.ports.now c.args.shares.now c.log-log.ensures.value c.in_default.ensures
    (c.if-not-adds_up.ensures.0 refl)
