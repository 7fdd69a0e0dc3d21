use Rattle.std.proofs.Common.{◌≡◌, ◌/◌, ◌+◌, ◌<◌, ◌≤◌, [], ◌++◌, suc, ℕ, List, ◌∷◌, drop, length, map, sym, ap, ◌∙◌, subst, arith, slice_index_or}
use Rattle.std.proofs.Math.Seq.{drop-cons}
use Rattle.nv_model.specs.Judge.{ranges_in}
use Rattle.nv_model.proofs.Units.{length-ranges_in}
use Rattle.nv_ns.specs.BlockRange.{Extent}
use Rattle.nv_ns.specs.Extents.{Namespace}
use Rattle.nv_plan.specs.Runs.{runs}
use Rattle.nv_plan.specs.Told.{of_ranges}
use Rattle.nv_plan.proofs.MetRanges.{AreListed, AreListed-more, AreListed-short, AreMet-there}
use Rattle.nv_plan.proofs.ranges.portions_met.Goals as goal

next-extent : (ns items : Namespace) (number : ℕ) (extent : Extent) → items ≡ ns → number < length items
    → extent ≡ slice_index_or items number extent → drop number ns ≡ extent ∷ drop (number + 1) ns
next-extent ns items number extent same below is =
    let next : suc number ≡ number + 1 = omega arith in
    ap (drop number) (sym same) ∙ drop-cons items number extent below ∙ ap (λ (e : Extent). e ∷ drop (suc number) items) (sym is)
    ∙ ap (λ (n : ℕ). extent ∷ drop n items) next ∙ ap (λ (xs : Namespace). extent ∷ drop (number + 1) xs) same

pub meet-requires-clause-there : goal.meet-requires-clause-there
meet-requires-clause-there c =
    AreMet-there c.args.ns.now (ranges_in (length c.args.bytes.now / 16) c.args.bytes.now) c.loop-number.number c.loop-number.before
    (map of_ranges (runs c.loop-number.ranges.items 0 c.loop-number.ends)) c.extent-item.result c.loop-number.invariant.met
    (next-extent c.args.ns.now c.as_slice-extent-items.result.now c.loop-number.number c.extent-item.result c.as_slice-extent-items.ensures.items
    c.loop-number-test.true c.extent-item.is)

few-ranges : (bytes : List ℕ) → length bytes ≤ 4096 → length (ranges_in (length bytes / 16) bytes) ≤ 256
few-ranges bytes short = let len = length-ranges_in (length bytes / 16) bytes in omega arith

pub overflow_cast-len : goal.overflow_cast-len
overflow_cast-len c =
    let short = AreListed-short c.args.ns.now (ranges_in (length c.args.bytes.now / 16) c.args.bytes.now) c.loop-number.number c.loop-number.before
    c.loop-number.ranges.items c.loop-number.ends c.extent-item.result c.meet.new.ranges.items c.loop-number.invariant
    (few-ranges c.args.bytes.now c.requires.short) c.in_ok-meet.ensures in
    let len = c.len.ensures in
    let same = ap (λ (ns : Namespace). length ns) c.as_slice-extent-items.ensures.items in
    let few = c.len-joins.ensures.few in
    let count = c.len-joins.ensures.value in
    let below = c.loop-number-test.true in omega arith

pub loop-number-preserved : goal.loop-number-preserved
loop-number-preserved c =
    let same : c.len.result ≡ length c.meet.new.ranges.items = (let len = c.len.ensures in omega arith) in
    subst (λ (n : ℕ). AreListed c.args.ns.now (ranges_in (length c.args.bytes.now / 16) c.args.bytes.now) (c.loop-number.number + 1)
    (c.loop-number.before + n) c.meet.new.ranges.items c.push.new.self)
    (sym c.blocks-before.ensures.value)
    (AreListed-more c.args.ns.now (ranges_in (length c.args.bytes.now / 16) c.args.bytes.now) c.loop-number.number c.loop-number.before
    c.loop-number.ranges.items c.loop-number.ends c.extent-item.result c.meet.new.ranges.items c.push.new.self c.loop-number.invariant
    (few-ranges c.args.bytes.now c.requires.short)
    (next-extent c.args.ns.now c.as_slice-extent-items.result.now c.loop-number.number c.extent-item.result c.as_slice-extent-items.ensures.items
    c.loop-number-test.true c.extent-item.is)
    c.in_ok-meet.ensures (c.push.ensures ∙ ap (λ (n : ℕ). c.loop-number.ends ++ n ∷ []) same))
