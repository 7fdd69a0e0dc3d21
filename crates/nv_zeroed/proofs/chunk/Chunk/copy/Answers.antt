use Rattle.std.proofs.Common.{◌≡◌, ℕ, ◌+◌, ◌≤◌, List, length, arith, ap, ◌∙◌}
use Rattle.nv_zeroed.specs.Chunks.{after_store, bytes_at}
use Rattle.nv_zeroed.proofs.Lists.{laid-some, pasted}
use Rattle.nv_zeroed.proofs.chunk.Chunk.copy.Goals as goal

pub returns : goal.returns
returns c =
    let before : c.lay.new.bytes.items ≡ c.args.self.now = c.lay.ensures.bytes ∙ c.self.view_is in
    let size : length c.lay.new.bytes.items ≡ 262144 = c.lay.ensures.size in
    let room = c.requires.from in
    let inside : c.args.from + c.args.len ≤ length c.lay.new.bytes.items = omega arith in
    let items = c.copy_within.ensures.items in
    let lens = c.copy_within.ensures.len in
    let len : length c.copy_within.new.self.items ≡ 262144 =
    let size : length c.lay.new.bytes.items ≡ 262144 = c.lay.ensures.size in omega arith in
    laid-some 262144 c.copy_within.new.self.items (omega arith)
    ∙ items
    ∙ pasted c.args.from c.args.to c.args.len c.lay.new.bytes.items inside
    ∙ ap (λ (xs : List ℕ). after_store xs c.args.to (bytes_at xs c.args.from c.args.len)) before
