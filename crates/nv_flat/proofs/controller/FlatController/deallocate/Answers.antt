use Rattle.std.proofs.Common.{◌≡◌, ℕ, false, ap, ◌∙◌, arith}
use Rattle.std.specs.List.{range_with_len}
use Rattle.nv_entry.specs.Range.{blocks_of, start_of}
use Rattle.nv_disk.specs.Flat.{moved_of}
use Rattle.nv_model.specs.Carrying.{cleared}
use Rattle.nv_flat.proofs.DatasetLemmas.{IsDeallocating-end, IsDeallocating-fits, IsDeallocating-more}
use Rattle.nv_flat.proofs.controller.FlatController.deallocate.Goals as goal

pub clear-requires : goal.clear-requires
clear-requires c =
    let start : c.start.result ≡ start_of c.in-Some.range.now = c.start.ensures ∙ ap start_of c.of-range.ensures in
    let count : c.from.result ≡ blocks_of c.in-Some.range.now = c.from.ensures ∙ c.blocks-in-Some.ensures ∙ ap blocks_of c.of-range.ensures in
    let fits = IsDeallocating-fits c.args.self.now c.args.ranges.now c.loop-range.self c.loop-range.rest.now c.in-Some.range.now c.in-Some.more.now
    c.loop-range.invariant c.in-Some.ensures.cases.0 c.in-Some.ensures.cases.1 c.in-Some.ensures.cases.2 in
    record { blocks = omega arith }

pub loop-range-preserved : goal.loop-range-preserved
loop-range-preserved c =
    let start : c.start.result ≡ start_of c.in-Some.range.now = c.start.ensures ∙ ap start_of c.of-range.ensures in
    let count : c.from.result ≡ blocks_of c.in-Some.range.now = c.from.ensures ∙ c.blocks-in-Some.ensures ∙ ap blocks_of c.of-range.ensures in
    IsDeallocating-more c.args.self.now c.args.ranges.now c.loop-range.self c.clear.new.self c.loop-range.rest.now c.in-Some.range.now c.in-Some.more.now
    c.loop-range.invariant c.in-Some.ensures.cases.0 c.in-Some.ensures.cases.1 c.in-Some.ensures.cases.2
    (c.clear.ensures.moved
    ∙ ap (λ (n : ℕ). cleared (range_with_len n c.from.result) false (moved_of c.loop-range.self false)) start
    ∙ ap (λ (n : ℕ). cleared (range_with_len (start_of c.in-Some.range.now) n) false (moved_of c.loop-range.self false)) count)
    c.clear.ensures.memory_size c.clear.ensures.disk_size

pub returns-clause-moved : goal.returns-clause-moved
returns-clause-moved c =
    λ work. IsDeallocating-end c.args.self.now c.args.ranges.now c.loop-range.self c.loop-range.rest.now c.loop-range.invariant c.in_default.ensures.cases work
