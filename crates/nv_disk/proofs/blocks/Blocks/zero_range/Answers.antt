use Rattle.std.proofs.Common.{◌≡◌, ◌+◌, ◌-◌, ℕ, List, length, replicate, suc, ap, sym, ◌∙◌, arith}
use Rattle.std.proofs.lemmas.List.{length-set}
use Rattle.nv_disk.proofs.Ranged.{ranged}
use Rattle.nv_disk.proofs.RangeLemmas.{ranged-is, ranged-more, ranged-none}
use Rattle.nv_disk.proofs.blocks.Blocks.zero_range.Goals as goal

pub loop-at-preserved : goal.loop-at-preserved
loop-at-preserved c =
    let at = c.loop-at.at in
    let below = c.loop-at-test.true in
    let left : c.args.start + c.args.count - at ≡ suc (c.args.start + c.args.count - (at + 1)) = omega arith in
    record {
      zeros =
          ap (λ (bs : List (List ℕ)). ranged bs (at + 1) (c.args.start + c.args.count - (at + 1)) (replicate 512 0)) c.zero.ensures
          ∙ ranged-more c.loop-at.self at (c.args.start + c.args.count - at) (c.args.start + c.args.count - (at + 1)) (replicate 512 0) left
          ∙ c.loop-at.invariant.zeros;
      size =
          ap (λ (bs : List (List ℕ)). length bs) c.zero.ensures
          ∙ length-set c.loop-at.self at (replicate 512 0)
          ∙ c.loop-at.invariant.size;
    }

pub returns : goal.returns
returns c =
    let end = c.loop-at-test.false in
    sym (ranged-none c.loop-at.self c.loop-at.at (c.args.start + c.args.count - c.loop-at.at) (replicate 512 0) (omega arith))
    ∙ c.loop-at.invariant.zeros
    ∙ ranged-is c.args.self.now c.args.start c.args.count (replicate 512 0) c.requires
