use Rattle.std.proofs.Common.{◌≡◌, ◌+◌, ◌≤◌, ◌∙◌, ℕ, List, length, get_or, arith, refl, ap, sym, rules}
use Rattle.nv_core.proofs.StoredRows.{byte_in-stored, item-end, item-next}
use Rattle.nv_model.specs.Memory.{byte_in, stored}
use Rattle.nv_core.proofs.writing.store_ranges.Goals as goal

pub loop-range-preserved : goal.loop-range-preserved
loop-range-preserved g c =
    let item : List ℕ = c.range-item.result in
    let there : item ≡ get_or c.args.ranges.now c.loop-range.range-index item = c.range-item.is in
    let e : c.bytes.result ≡ get_or c.args.ranges.now c.loop-range.range-index item = c.bytes.ensures ∙ there in
    let many : length c.bytes.result ≡ 16 = search rules in
    let inside : c.loop-range.at + length c.bytes.result ≤ length (g.C.MemoryCell.bytes c.loop-range.host) =
    (let below = c.loop-range-test.true in let place = c.loop-range.invariant.place in let sized = c.loop-range.invariant.sized in let room = c.requires in omega arith) in
    item-next (λ (r : List ℕ). r) 16 (g.C.MemoryCell.bytes c.args.host.now) c.args.at c.args.ranges.now (g.C.MemoryCell.bytes c.loop-range.host) (g.C.MemoryCell.bytes c.store.new.memory) c.loop-range.at (c.loop-range.at + 16) c.loop-range.range-index item
    c.loop-range.invariant c.loop-range-test.true
    (ap byte_in c.store.ensures.bytes ∙ byte_in-stored (g.C.MemoryCell.bytes c.loop-range.host) c.loop-range.at c.bytes.result inside ∙ ap (stored (byte_in (g.C.MemoryCell.bytes c.loop-range.host)) c.loop-range.at) e)
    (ap length (sym e) ∙ many) c.store.ensures.len refl

pub returns-clause-bytes : goal.returns-clause-bytes
returns-clause-bytes g c =
    item-end (λ (r : List ℕ). r) 16 (g.C.MemoryCell.bytes c.args.host.now) c.args.at c.args.ranges.now (g.C.MemoryCell.bytes c.loop-range.host) c.loop-range.at c.loop-range.range-index c.loop-range.invariant c.loop-range-test.false
