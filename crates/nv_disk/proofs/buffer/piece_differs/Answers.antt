use Rattle.std.proofs.Common.{◌+◌, ◌≤◌, ℕ, List, length, replicate, ap, subst, sym, ◌∙◌}
use Rattle.nv_mem.specs.Bytes.{bytes_at}
use Rattle.nv_mem.specs.Places.{places_of_piece, piece_len}
use Rattle.nv_model.specs.Memory.{byte_in, gathered}
use Rattle.nv_model.specs.Private.{differs}
use Rattle.nv_disk.proofs.BufferLemmas.{addresses-below, gathered-buckets, gathered-run}
use Rattle.nv_disk.proofs.CompareLemmas.{differs-told, differs-zeros}
use Rattle.nv_disk.proofs.buffer.piece_differs.Goals as goal

pub equals-requires : goal.equals-requires
equals-requires c =
    λ some. subst (λ (n : ℕ). c.in-Run.addr + n ≤ length c.args.memory.now) (sym (c.requires.whole ∙ ap piece_len c.in-Run.is))
    (addresses-below (length c.args.memory.now) c.in-Run.addr c.in-Run.len (rw c.in-Run.is at c.requires.some) (rw c.in-Run.is at c.requires.in_memory))

pub returns-in-Run : goal.returns-in-Run
returns-in-Run c =
    let inside : c.in-Run.addr + c.in-Run.len ≤ length c.args.memory.now =
    addresses-below (length c.args.memory.now) c.in-Run.addr c.in-Run.len (rw c.in-Run.is at c.requires.some) (rw c.in-Run.is at c.requires.in_memory) in
    differs-told (bytes_at c.args.memory.now c.in-Run.addr (length c.args.bytes.now)) c.args.bytes.now c.equals.result c.equals.ensures
    ∙ ap (λ (l : List ℕ). differs l c.args.bytes.now)
    (ap (λ (n : ℕ). bytes_at c.args.memory.now c.in-Run.addr n) (c.requires.whole ∙ ap piece_len c.in-Run.is)
    ∙ gathered-run c.args.memory.now c.in-Run.addr c.in-Run.len inside
    ∙ ap (λ p. gathered (byte_in c.args.memory.now) (places_of_piece p)) (sym c.in-Run.is))

pub returns-in-Bucket : goal.returns-in-Bucket
returns-in-Bucket c =
    c.has_others_than_zeros.ensures
    ∙ sym (differs-zeros c.args.bytes.now)
    ∙ ap (λ (n : ℕ). differs (replicate n 0) c.args.bytes.now) (c.requires.whole ∙ ap piece_len c.in-Bucket.is)
    ∙ ap (λ (l : List ℕ). differs l c.args.bytes.now) (sym (gathered-buckets (byte_in c.args.memory.now) c.in-Bucket.len))
    ∙ ap (λ p. differs (gathered (byte_in c.args.memory.now) (places_of_piece p)) c.args.bytes.now) (sym c.in-Bucket.is)
