use Rattle.std.proofs.Common.{arith}
use Rattle.nv_tags.proofs.Owners.{with-mask}
use Rattle.nv_tags.proofs.owned.own.Goals as goal

pub returns-then-at-lt-NUMBER_COUNT-clause-bits :
    goal.returns-then-at-lt-NUMBER_COUNT-clause-bits
returns-then-at-lt-NUMBER_COUNT-clause-bits c =
    with-mask c.args.masks.now c.from-at.result c.args.number c.args.mask c.from-at.ensures (omega arith)
