use Rattle.std.proofs.Common.{◌≡◌, ◌+◌, ◌-◌, ◌*◌, ◌/◌, ℕ, List, suc, replicate, ap, sym, ◌∙◌, arith}
use Rattle.std.specs.List.{slice_index_or}
use Rattle.std.proofs.lemmas.List.{length-set}
use Rattle.nv_disk.proofs.Ranged.{ranged}
use Rattle.nv_disk.specs.Stored.{blocks_of}
use Rattle.nv_disk.proofs.RangeLemmas.{ranged-is, ranged-more, ranged-none}
use Rattle.nv_disk.proofs.StoredLemmas.{blocks-cleared, length-blocks, places-same}
use Rattle.nv_disk.proofs.blocks.clear_entries.Goals as goal

pub loop-at-preserved : goal.loop-at-preserved
loop-at-preserved c =
    let at = c.loop-at.at in
    let place = slice_index_or c.loop-at.entries at 0 / 2 in
    let below = c.loop-at-test.true in
    let left : c.args.start + c.args.count - at ≡ suc (c.args.start + c.args.count - (at + 1)) = omega arith in
    let half : (2 * place + 1) / 2 ≡ place = omega arith in
    record {
      shown = λ stored.
          ap (λ (bs : List (List ℕ)). ranged bs (at + 1) (c.args.start + c.args.count - (at + 1)) (replicate 512 0)) (blocks-cleared stored c.loop-at.entries at place)
          ∙ ranged-more (blocks_of stored c.loop-at.entries) at (c.args.start + c.args.count - at) (c.args.start + c.args.count - (at + 1)) (replicate 512 0) left
          ∙ c.loop-at.invariant.shown stored;
      places = places-same c.loop-at.entries at (2 * place + 1) half ∙ c.loop-at.invariant.places;
      size = length-set c.loop-at.entries at (2 * place + 1) ∙ c.loop-at.invariant.size;
    }

pub returns-clause-shown : goal.returns-clause-shown
returns-clause-shown c = λ stored.
    let end = c.loop-at-test.false in
    let within = c.requires in
    let same = length-blocks stored c.args.entries.now in
    sym (ranged-none (blocks_of stored c.loop-at.entries) c.loop-at.at (c.args.start + c.args.count - c.loop-at.at) (replicate 512 0) (omega arith))
    ∙ c.loop-at.invariant.shown stored
    ∙ ranged-is (blocks_of stored c.args.entries.now) c.args.start c.args.count (replicate 512 0) (omega arith)
