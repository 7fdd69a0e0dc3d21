use Rattle.std.proofs.Common.{◌≡◌, ◌+◌, ◌-◌, suc, sym, ◌∙◌, arith}
use Rattle.std.proofs.lemmas.List.{length-set}
use Rattle.nv_disk.proofs.RangeLemmas.{ranged-is, ranged-more, ranged-none}
use Rattle.nv_disk.proofs.marks.put_range.Goals as goal

pub loop-at-preserved : goal.loop-at-preserved
loop-at-preserved c =
    let below = c.loop-at-test.true in
    let left : c.args.start + c.args.count - c.loop-at.at ≡ suc (c.args.start + c.args.count - (c.loop-at.at + 1)) = omega arith in
    record {
      put =
          ranged-more c.loop-at.since c.loop-at.at (c.args.start + c.args.count - c.loop-at.at) (c.args.start + c.args.count - (c.loop-at.at + 1)) c.args.number left
          ∙ c.loop-at.invariant.put;
      size = length-set c.loop-at.since c.loop-at.at c.args.number ∙ c.loop-at.invariant.size;
    }

pub returns-clause-put : goal.returns-clause-put
returns-clause-put c =
    let end = c.loop-at-test.false in
    sym (ranged-none c.loop-at.since c.loop-at.at (c.args.start + c.args.count - c.loop-at.at) c.args.number (omega arith)) ∙ c.loop-at.invariant.put
    ∙ ranged-is c.args.since.now c.args.start c.args.count c.args.number c.requires
