use Rattle.std.proofs.Common.{◌≡◌, ℕ, ◌+◌, ◌^◌, ◌<◌, ◌≤◌, length, true, arith, refl, subst, sym, ◌∙◌}
use Rattle.nv_entry.specs.Descriptor.{length_of}
use Rattle.nv_mem.specs.GuestMap.{mapped}
use Rattle.nv_sgl.specs.Cursor.{is_asking}
use Rattle.nv_sgl.proofs.Parts.{behind_blocks, ended, none_left, Progress, Progress-block, Progress-end, Progress-next}
use Rattle.nv_sgl.proofs.cursor.read_part.Goals as goal

pub front-preserved : goal.front-preserved
front-preserved g c =
    let less : length c.in-Some.more.now + 16 ≡ length c.front.rest.now = c.in-Some.ensures.cases.2 in
    let some : 16 ≤ length c.front.rest.now = omega arith in
    let below : c.front.count < c.most-most.result = omega arith in
    let left = c.most-most.ensures.left in
    let budget = c.most-most.ensures.budget in
    let bytes : c.from-total.result ≡ length_of c.of-d.result = c.from-total.ensures ∙ c.length.ensures in
    let fits : length_of c.of-d.result < 2 ^ 32 = omega (arith, c.length.ensures) in
    record {
      within = omega arith;
      progress =
          let Reached : ℕ → Type 0 = λ n.
          Progress (mapped c.args.map.now.regions) c.args.dest c.args.cursor c.args.bytes.now c.args.blocks.now.items
          (behind_blocks c.args.cursor (c.front.count + 1) (c.front.total + n)) c.in-Some.more.now c.push_reserved.new.self.items in
          subst Reached (sym bytes)
          (Progress-block _ _ _ _ _ c.front.count c.front.total _ _ _ _ _ c.front.invariant.progress (c.most-most.ensures.fault (omega arith))
          (omega arith) (omega arith) some fits (c.of-d.ensures ∙ c.in-Some.ensures.cases.0) c.in-Some.ensures.cases.1 c.push_reserved.ensures.items
          (c.if-not-is_mapped_block.ensures.kind refl) (c.if-not-is_mapped_block.ensures.mapped refl));
      room =
          let len = c.push_reserved.ensures.len in
          let capacity = c.push_reserved.ensures.capacity in
          let room = c.front.invariant.room in
          omega arith;
    }

pub others-preserved : goal.others-preserved
others-preserved g c =
    let asking : is_asking c.others.cursor ≡ true = sym c.is_asking.ensures ∙ c.others-test.true in
    let less : length c.in-Some-split_first_chunk.more.now + 16 ≡ length c.others.rest.now = c.in-Some-split_first_chunk.ensures.cases.2 in
    let some : 16 ≤ length c.others.rest.now = omega arith in
    record {
      progress = Progress-next
          _ _ _ _ _ _ _ _ _ _ _ _ _ c.others.invariant.progress asking some c.pass_one.ensures (c.of-d-in-others.ensures ∙ c.in-Some-split_first_chunk.ensures.cases.0)
          c.in-Some-split_first_chunk.ensures.cases.1 c.push_reserved-in-others.ensures.items c.look_at.ensures.behind c.look_at.ensures.in_range;
      room =
          let len = c.push_reserved-in-others.ensures.len in
          let capacity = c.push_reserved-in-others.ensures.capacity in
          let room = c.others.invariant.room in
          omega arith;
    }

pub returns-after-others-clause-ok : goal.returns-after-others-clause-ok
returns-after-others-clause-ok g c =
    Progress-end
    _ _ _ _ _ _ _ _ c.others.invariant.progress
    (λ before. ended _ _ _ before _ (sym c.is_asking.ensures ∙ c.others-test.false))

pub returns-in_default-split_first_chunk-clause-ok : goal.returns-in_default-split_first_chunk-clause-ok
returns-in_default-split_first_chunk-clause-ok g c =
    Progress-end
    _ _ _ _ _ _ _ _ c.others.invariant.progress
    (λ before. none_left _ _ _ _ before c.others.invariant.progress.whole c.in_default-split_first_chunk.ensures.cases)
