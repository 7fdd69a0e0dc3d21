use Rattle.std.proofs.Common.{◌≡◌, ℕ, length, replicate, arith, ap, sym, ◌∙◌}
use Rattle.nv_mem.specs.Bytes.{bytes_at}
use Rattle.nv_mem.specs.Places.{places_of_piece, piece_len}
use Rattle.nv_model.specs.Memory.{byte_in, gathered}
use Rattle.nv_disk.proofs.BufferLemmas.{addresses-below, gathered-buckets, gathered-run}
use Rattle.nv_disk.proofs.buffer.load.Goals as goal

pub load-requires : goal.load-requires
load-requires c = λ some.
    let whole : length c.args.out.now ≡ c.in-Run.len = c.requires.whole ∙ ap piece_len c.in-Run.is in
    let inside = addresses-below (length c.args.memory.now) c.in-Run.addr c.in-Run.len (omega arith) (rw c.in-Run.is at c.requires.in_memory) in
    omega arith

pub returns-in-Run : goal.returns-in-Run
returns-in-Run c =
    let whole : length c.args.out.now ≡ c.in-Run.len = c.requires.whole ∙ ap piece_len c.in-Run.is in
    let some = rw c.in-Run.is at c.requires.some in
    let inside = addresses-below (length c.args.memory.now) c.in-Run.addr c.in-Run.len some (rw c.in-Run.is at c.requires.in_memory) in
    c.load.ensures
    ∙ ap (bytes_at c.args.memory.now c.in-Run.addr) whole
    ∙ gathered-run c.args.memory.now c.in-Run.addr c.in-Run.len inside
    ∙ ap (λ p. gathered (byte_in c.args.memory.now) (places_of_piece p)) (sym c.in-Run.is)

pub returns-in-Bucket : goal.returns-in-Bucket
returns-in-Bucket c =
    let whole : length c.args.out.now ≡ c.in-Bucket.len = c.requires.whole ∙ ap piece_len c.in-Bucket.is in
    c.fill.ensures.after (λ y same. same)
    ∙ ap (λ (n : ℕ). replicate n 0) whole
    ∙ sym (gathered-buckets (byte_in c.args.memory.now) c.in-Bucket.len)
    ∙ ap (λ p. gathered (byte_in c.args.memory.now) (places_of_piece p)) (sym c.in-Bucket.is)
