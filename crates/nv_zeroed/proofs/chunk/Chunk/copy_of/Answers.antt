use Rattle.std.proofs.Common.{◌≡◌, ℕ, ◌+◌, ◌≤◌, List, length, replicate, arith, sym, ap, ◌∙◌}
use Rattle.std.proofs.lemmas.List.{length-replicate}
use Rattle.nv_zeroed.specs.Chunks.{after_store, bytes_at}
use Rattle.nv_zeroed.proofs.Lists.{stored, part-len, zeros-part}
use Rattle.nv_zeroed.proofs.chunk.Chunk.copy_of.Goals as goal

pub returns-in-None : goal.returns-in-None
returns-in-None c =
    let before : c.deref_mut.result.now ≡ c.args.self.now = c.deref_mut.ensures.value ∙ c.lay.ensures.bytes ∙ c.self.view_is in
    let zeros : c.args.source.now ≡ replicate 262144 0 = c.in-None.ensures in
    let sized : length c.deref_mut.result.now ≡ 262144 = ap (λ (xs : List ℕ). length xs) c.deref_mut.ensures.value ∙ c.lay.ensures.size in
    let size : length c.lay.new.bytes.items ≡ 262144 = c.lay.ensures.size in
    let len : c.lay.new.bytes.len ≡ 262144 = omega arith in
    let room = c.requires.to in
    let inside : c.args.to + c.args.len ≤ length c.deref_mut.result.now = omega arith in
    let filled = c.fill.ensures.after (λ y same. same) in
    let part : c.fill.new.self ≡ replicate c.args.len 0 =
    filled ∙ ap (λ (k : ℕ). replicate k 0) (part-len c.args.to c.args.len c.deref_mut.result.now inside) in
    stored 262144 c.args.to c.args.len c.lay.new.bytes.len c.fill.new.self c.deref_mut.result.now c.lay.new.bytes.items
    (ap (λ (xs : List ℕ). length xs) part ∙ length-replicate c.args.len 0) c.requires.to sized len (omega arith)
    ∙ ap (λ (xs : List ℕ). after_store c.deref_mut.result.now c.args.to xs)
    (part ∙ sym (zeros-part 262144 c.args.from c.args.len c.requires.from) ∙ ap (λ (xs : List ℕ). bytes_at xs c.args.from c.args.len) (sym zeros))
    ∙ ap (λ (xs : List ℕ). after_store xs c.args.to (bytes_at c.args.source.now c.args.from c.args.len)) before
