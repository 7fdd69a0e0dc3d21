use Rattle.std.proofs.Common.{◌≡◌, ◌++◌, ℕ, Some, slice_get, sym, ap, ◌∙◌, arith}
use Rattle.nv_entry.specs.Layout.{number_bytes}
use Rattle.nv_entry.specs.Range.{blocks_of, start_of}
use Rattle.nv_ns.specs.Extents.{blocks_in, common, if_any, placed}
use Rattle.nv_ns.proofs.Ranges.{InNamespace-tested}
use Rattle.nv_plan.specs.Told.{standing}
use Rattle.nv_plan.proofs.MetRanges.{first-placed, first-within, met-some}
use Rattle.nv_plan.proofs.ranges.range_met.Goals as goal

pub overflow_add-base : goal.overflow_add-base
overflow_add-base c =
    let inside = InNamespace-tested (start_of c.args.range) (blocks_of c.args.range) (blocks_in c.args.ns.now) c.requires.fits in
    let within = first-within c.args.ns.now c.as_slice-known.ensures.kept in
    let start = c.start-start.ensures in
    let front : c.args.at.now.number ≡ 0 = (let t = c.if-at-gt0.false in omega arith) in
    let base = first-placed c.args.ns.now (standing c.args.at.now) (ap (slice_get (placed 0 c.args.ns.now)) (sym front) ∙ c.requires.there) in
    let is = c.base.ensures.value in
    let low = inside.1 in omega arith

pub returns : goal.returns
returns c =
    let within = first-within c.args.ns.now c.as_slice-known.ensures.kept in
    let start = c.start-start.ensures in
    let blocks = c.blocks-blocks.ensures in
    let fits = c.blocks-blocks.type_inv in
    let some = c.if-blocks-eq0.false in
    ap Some (c.disk_range-2.ensures
    ∙ ap (λ (n : ℕ). number_bytes 4 0 ++ number_bytes 4 n ++ number_bytes 8 c.start.result) c.count.ensures.value
    ∙ ap (λ (n : ℕ). number_bytes 4 0 ++ number_bytes 4 c.in_ok-part.part.count ++ number_bytes 8 n) c.start.ensures.value)
    ∙ met-some c.args.ns.now c.args.at.now.number (standing c.args.at.now) c.args.range c.in_ok-part.part c.requires.there c.requires.fits
    (omega arith) (omega arith) (omega arith)
    (ap (λ (n : ℕ). if_any (common (standing c.args.at.now) n (blocks_of c.args.range))) (sym start)
    ∙ ap (λ (n : ℕ). if_any (common (standing c.args.at.now) c.start-start.result n)) (sym (c.from.ensures ∙ blocks))
    ∙ sym c.of.ensures ∙ c.in_ok-part.was)
