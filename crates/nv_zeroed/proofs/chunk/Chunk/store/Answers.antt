use Rattle.std.proofs.Common.{◌≡◌, ℕ, List, length, arith, ap, ◌∙◌}
use Rattle.nv_zeroed.specs.Chunks.{after_store}
use Rattle.nv_zeroed.proofs.Lists.{stored}
use Rattle.nv_zeroed.proofs.chunk.Chunk.store.Goals as goal

pub returns : goal.returns
returns c =
    let before : c.deref_mut.result.now ≡ c.args.self.now = c.deref_mut.ensures.value ∙ c.lay.ensures.bytes ∙ c.self.view_is in
    let sized : length c.deref_mut.result.now ≡ 262144 = ap (λ (xs : List ℕ). length xs) c.deref_mut.ensures.value ∙ c.lay.ensures.size in
    let size : length c.lay.new.bytes.items ≡ 262144 = c.lay.ensures.size in
    let len : c.lay.new.bytes.len ≡ 262144 = omega arith in
    stored 262144 c.args.at (length c.args.bytes.now) c.lay.new.bytes.len c.copy_from_slice.new.self c.deref_mut.result.now c.lay.new.bytes.items
    (ap (λ (xs : List ℕ). length xs) c.copy_from_slice.ensures.after) c.requires sized len (omega arith)
    ∙ ap (λ (xs : List ℕ). after_store c.deref_mut.result.now c.args.at xs) c.copy_from_slice.ensures.after
    ∙ ap (λ (xs : List ℕ). after_store xs c.args.at c.args.bytes.now) before
