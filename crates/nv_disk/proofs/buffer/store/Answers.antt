use Rattle.std.proofs.Common.{◌≡◌, ℕ, length, arith, ap, sym, ◌∙◌}
use Rattle.nv_mem.specs.Places.{addresses, places_of_piece, piece_len}
use Rattle.nv_model.specs.Memory.{byte_in, scattered}
use Rattle.nv_model.proofs.MemoryLemmas.{scattered-buckets}
use Rattle.nv_disk.proofs.BufferLemmas.{addresses-below, scattered-run}
use Rattle.nv_disk.proofs.buffer.store.Goals as goal

pub store-requires : goal.store-requires
store-requires c = λ some.
    let whole : length c.args.bytes.now ≡ c.in-Run.len = c.requires.whole ∙ ap piece_len c.in-Run.is in
    let inside = addresses-below (length c.args.memory.now) c.in-Run.addr c.in-Run.len (omega arith) (rw c.in-Run.is at c.requires.in_memory) in
    omega arith

pub returns-in-Run-clause-memory : goal.returns-in-Run-clause-memory
returns-in-Run-clause-memory c =
    let whole : length c.args.bytes.now ≡ c.in-Run.len = c.requires.whole ∙ ap piece_len c.in-Run.is in
    let some = rw c.in-Run.is at c.requires.some in
    let inside = addresses-below (length c.args.memory.now) c.in-Run.addr c.in-Run.len some (rw c.in-Run.is at c.requires.in_memory) in
    ap byte_in c.store.ensures.bytes
    ∙ scattered-run c.args.memory.now c.in-Run.addr c.args.bytes.now (omega arith)
    ∙ ap (λ (n : ℕ). scattered (byte_in c.args.memory.now) (addresses c.in-Run.addr n) c.args.bytes.now) whole
    ∙ ap (λ p. scattered (byte_in c.args.memory.now) (places_of_piece p) c.args.bytes.now) (sym c.in-Run.is)

pub returns-in-Bucket-clause-memory : goal.returns-in-Bucket-clause-memory
returns-in-Bucket-clause-memory c =
    sym (scattered-buckets (byte_in c.args.memory.now) c.in-Bucket.len c.args.bytes.now)
    ∙ ap (λ p. scattered (byte_in c.args.memory.now) (places_of_piece p) c.args.bytes.now) (sym c.in-Bucket.is)
