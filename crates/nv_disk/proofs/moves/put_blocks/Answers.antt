use Rattle.std.proofs.Common.{◌≡◌, ℕ, List, length, take, drop, subst, ap, sym, ◌∙◌, arith}
use Rattle.std.proofs.lemmas.List.{length-drop}
use Rattle.std.proofs.lemmas.List.Elements.{All-drop}
use Rattle.nv_mem.specs.Places.{Place}
use Rattle.nv_model.specs.Memory.{byte_in}
use Rattle.nv_disk.specs.Buffer.{AreBelow, IsBelow}
use Rattle.nv_disk.specs.Flat.{joined}
use Rattle.nv_disk.proofs.RowLemmas.{put-end, put-row, row-bytes}
use Rattle.nv_disk.proofs.moves.put_blocks.Goals as goal

pub loop-left-preserved : goal.loop-left-preserved
loop-left-preserved c =
    let kept = c.loop-left.invariant in
    let most = c.row-row.ensures.most in
    let some = c.row-row.ensures.some in
    let bytes : c.as_flattened.result.now ≡ joined (take (length c.row-row.result.now) (drop c.loop-left.at c.args.disk.now)) =
    c.as_flattened.ensures.value ∙ ap joined c.row-row.ensures.value in
    let len = row-bytes (length c.as_flattened.result.now) (length c.row-row.result.now) c.as_flattened.ensures.len in
    let left = length-drop (length c.as_flattened.result.now) c.loop-left.buffer in
    let rest : length c.put.new.self ≡ length (drop (length c.as_flattened.result.now) c.loop-left.buffer) = ap (λ (ps : List Place). length ps) c.put.ensures.rest in
    let W : List Place → Type 0 = λ ps. AreBelow (length c.put.new.memory) ps in
    let X : ℕ → Type 0 = λ n. AreBelow n (drop (length c.as_flattened.result.now) c.loop-left.buffer) in
    record {
      whole =
          put-row (byte_in c.loop-left.memory) (byte_in c.put.new.memory) c.loop-left.buffer c.put.new.self c.args.disk.now c.loop-left.at c.loop-left.left (length c.row-row.result.now)
          c.as_flattened.result.now most bytes (omega arith) c.put.ensures.memory c.put.ensures.rest
          ∙ kept.whole;
      size = c.put.ensures.size ∙ kept.size;
      below = subst W (sym c.put.ensures.rest) (subst X (sym c.put.ensures.size) (All-drop (IsBelow (length c.loop-left.memory)) (length c.as_flattened.result.now) c.loop-left.buffer kept.below));
      enough = omega arith;
      within = omega arith;
    }

pub returns-clause-memory : goal.returns-clause-memory
returns-clause-memory c =
    put-end (byte_in c.loop-left.memory) _ c.loop-left.buffer c.loop-left.left (drop c.loop-left.at c.args.disk.now) c.loop-left-test.false c.loop-left.invariant.whole
