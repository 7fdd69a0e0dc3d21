use Rattle.std.proofs.Common.{◌≡◌, ◌+◌, ◌≤◌, ◌∙◌, length, get_or, arith, refl, ap}
use Rattle.nv_core.proofs.StoredRows.{byte_in-stored, item-end, item-next}
use Rattle.nv_entry.specs.Layout.{number_bytes}
use Rattle.nv_model.specs.Memory.{byte_in, stored}
use Rattle.nv_core.proofs.writing.store_numbers.Goals as goal

pub loop-number-preserved : goal.loop-number-preserved
loop-number-preserved g c =
    let e : c.to_le_bytes.result ≡ number_bytes 8 (get_or c.args.numbers.now c.loop-number.number-index 0) = c.to_le_bytes.ensures in
    let inside : c.loop-number.at + length c.to_le_bytes.result ≤ length (g.C.MemoryCell.bytes c.loop-number.host) =
    (let many : length c.to_le_bytes.result ≡ 8 = ap length e in
    let below = c.loop-number-test.true in let place = c.loop-number.invariant.place in let sized = c.loop-number.invariant.sized in let room = c.requires in omega arith) in
    item-next (number_bytes 8) 8 (g.C.MemoryCell.bytes c.args.host.now) c.args.at c.args.numbers.now (g.C.MemoryCell.bytes c.loop-number.host) (g.C.MemoryCell.bytes c.store.new.memory) c.loop-number.at (c.loop-number.at + 8) c.loop-number.number-index 0
    c.loop-number.invariant c.loop-number-test.true
    (ap byte_in c.store.ensures.bytes ∙ byte_in-stored (g.C.MemoryCell.bytes c.loop-number.host) c.loop-number.at c.to_le_bytes.result inside ∙ ap (stored (byte_in (g.C.MemoryCell.bytes c.loop-number.host)) c.loop-number.at) e)
    refl c.store.ensures.len refl

pub returns-clause-bytes : goal.returns-clause-bytes
returns-clause-bytes g c =
    item-end (number_bytes 8) 8 (g.C.MemoryCell.bytes c.args.host.now) c.args.at c.args.numbers.now (g.C.MemoryCell.bytes c.loop-number.host) c.loop-number.at c.loop-number.number-index c.loop-number.invariant c.loop-number-test.false
