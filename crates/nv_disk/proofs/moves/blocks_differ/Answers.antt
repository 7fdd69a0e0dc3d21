use Rattle.std.proofs.Common.{◌≡◌, ◌+◌, ◌-◌, ◌*◌, ◌||◌, Bool, List, length, take, drop, subst, ap, sym, ◌∙◌, arith}
use Rattle.std.proofs.lemmas.List.{length-drop}
use Rattle.std.proofs.lemmas.List.Elements.{All-drop}
use Rattle.nv_mem.specs.Places.{Place}
use Rattle.nv_model.specs.Memory.{byte_in, gathered}
use Rattle.nv_model.specs.Private.{differs}
use Rattle.nv_disk.specs.Buffer.{AreBelow, IsBelow}
use Rattle.nv_disk.specs.Flat.{joined}
use Rattle.nv_disk.proofs.RowLemmas.{compare-end, compare-row, row-bytes}
use Rattle.nv_disk.proofs.moves.blocks_differ.Goals as goal

pub returns-then-unlike : goal.returns-then-unlike
returns-then-unlike c =
    ap (λ (b : Bool). b || differs (gathered (byte_in c.args.memory.now) (take (512 * (c.loop-left.left - length c.row-row.result.now)) c.differs-unlike.new.self))
    (joined (take (c.loop-left.left - length c.row-row.result.now) (drop (c.loop-left.at + length c.row-row.result.now) c.args.disk.now)))) (sym c.if-unlike.true)
    ∙ compare-row (byte_in c.args.memory.now) c.loop-left.buffer c.differs-unlike.new.self c.args.disk.now c.loop-left.at c.loop-left.left (length c.row-row.result.now)
    c.as_flattened.result.now c.differs-unlike.result c.row-row.ensures.most (c.as_flattened.ensures.value ∙ ap joined c.row-row.ensures.value)
    (row-bytes (length c.as_flattened.result.now) (length c.row-row.result.now) c.as_flattened.ensures.len)
    c.loop-left.invariant.enough c.differs-unlike.ensures.value c.differs-unlike.ensures.rest
    ∙ c.loop-left.invariant.whole

pub loop-left-preserved : goal.loop-left-preserved
loop-left-preserved c =
    let kept = c.loop-left.invariant in
    let most = c.row-row.ensures.most in
    let some = c.row-row.ensures.some in
    let bytes : c.as_flattened.result.now ≡ joined (take (length c.row-row.result.now) (drop c.loop-left.at c.args.disk.now)) =
    c.as_flattened.ensures.value ∙ ap joined c.row-row.ensures.value in
    let len = row-bytes (length c.as_flattened.result.now) (length c.row-row.result.now) c.as_flattened.ensures.len in
    let left = length-drop (length c.as_flattened.result.now) c.loop-left.buffer in
    let rest : length c.differs-unlike.new.self ≡ length (drop (length c.as_flattened.result.now) c.loop-left.buffer) = ap (λ (ps : List Place). length ps) c.differs-unlike.ensures.rest in
    let W : List Place → Type 0 = λ ps. AreBelow (length c.args.memory.now) ps in
    record {
      whole =
          ap (λ (b : Bool). b || differs (gathered (byte_in c.args.memory.now) (take (512 * (c.loop-left.left - length c.row-row.result.now)) c.differs-unlike.new.self))
          (joined (take (c.loop-left.left - length c.row-row.result.now) (drop (c.loop-left.at + length c.row-row.result.now) c.args.disk.now)))) (sym c.if-unlike.false)
          ∙ compare-row (byte_in c.args.memory.now) c.loop-left.buffer c.differs-unlike.new.self c.args.disk.now c.loop-left.at c.loop-left.left (length c.row-row.result.now)
          c.as_flattened.result.now c.differs-unlike.result most bytes len kept.enough c.differs-unlike.ensures.value c.differs-unlike.ensures.rest
          ∙ kept.whole;
      below = subst W (sym c.differs-unlike.ensures.rest) (All-drop (IsBelow (length c.args.memory.now)) (length c.as_flattened.result.now) c.loop-left.buffer kept.below);
      enough = omega arith;
      within = omega arith;
    }

pub returns : goal.returns
returns c =
    compare-end (byte_in c.args.memory.now) c.loop-left.buffer c.loop-left.left (drop c.loop-left.at c.args.disk.now) _ c.loop-left-test.false c.loop-left.invariant.whole
