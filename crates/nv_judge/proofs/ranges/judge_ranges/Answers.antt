use Rattle.std.proofs.Common.{◌≡◌, Err, true, false, sym, ap, ◌∙◌, ◌+◌, ◌%◌, length, arith}
use Rattle.nv_entry.specs.Range.{blocks_of, start_of}
use Rattle.nv_ns.specs.BlockRange.{in_namespace}
use Rattle.nv_ns.specs.Extents.{blocks_in}
use Rattle.nv_judge.proofs.RangeLemmas.{ranges_verdict-fits, ranges_verdict-leaves, ranges_verdict-none}
use Rattle.nv_judge.proofs.ranges.judge_ranges.Goals as goal

pub returns-then-not-holds : goal.returns-then-not-holds
returns-then-not-holds c =
    let start : c.start.result ≡ start_of c.in-Some.range.now = c.start.ensures ∙ ap start_of c.of-range.ensures in
    let count : c.from.result ≡ blocks_of c.in-Some.range.now = c.from.ensures ∙ c.blocks-in-Some.ensures ∙ ap blocks_of c.of-range.ensures in
    let leaves : in_namespace c.start.result c.from.result (blocks_in c.args.ns.now) ≡ false = sym c.holds.ensures ∙ c.if-not-holds.true in
    ap Err c.refused.ensures
    ∙ ranges_verdict-leaves (blocks_in c.args.ns.now) c.loop-range.rest.now c.in-Some.range.now c.in-Some.more.now
    c.in-Some.ensures.cases.0 c.in-Some.ensures.cases.1 c.in-Some.ensures.cases.2 (rw (start, count) at leaves)
    ∙ c.loop-range.invariant.1

pub loop-range-preserved : goal.loop-range-preserved
loop-range-preserved c =
    let start : c.start.result ≡ start_of c.in-Some.range.now = c.start.ensures ∙ ap start_of c.of-range.ensures in
    let count : c.from.result ≡ blocks_of c.in-Some.range.now = c.from.ensures ∙ c.blocks-in-Some.ensures ∙ ap blocks_of c.of-range.ensures in
    let fits : in_namespace c.start.result c.from.result (blocks_in c.args.ns.now) ≡ true = sym c.holds.ensures ∙ c.if-not-holds.false in
    let less : length c.in-Some.more.now + 16 ≡ length c.loop-range.rest.now = c.in-Some.ensures.cases.2 in
    let whole : length c.loop-range.rest.now % 16 ≡ 0 = c.loop-range.invariant.0 in (
      omega arith,
      ranges_verdict-fits (blocks_in c.args.ns.now) c.loop-range.rest.now c.in-Some.range.now c.in-Some.more.now
          c.in-Some.ensures.cases.0 c.in-Some.ensures.cases.1 c.in-Some.ensures.cases.2 (rw (start, count) at fits)
          ∙ c.loop-range.invariant.1,
    )

pub returns : goal.returns
returns c = ranges_verdict-none _ _ c.in_default.ensures.cases ∙ c.loop-range.invariant.1
