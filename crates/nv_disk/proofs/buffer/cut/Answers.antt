use Rattle.std.proofs.Common.{◌≡◌, ◌+◌, ◌≤◌, ◌<◌, ◌^◌, arith, ap, ◌∙◌}
use Rattle.nv_mem.specs.Places.{places_of_piece, piece_len}
use Rattle.nv_disk.proofs.BufferLemmas.{addresses-below, bucket-split, run-split}
use Rattle.nv_disk.proofs.buffer.cut.Goals as goal

pub overflow_add-result : goal.overflow_add-result
overflow_add-result c =
    let long : c.args.most < c.in-Run.len = (let len : c.len_of.result ≡ c.in-Run.len = c.len_of.ensures ∙ ap piece_len c.in-Run.is in let b = c.if-len_of-most.false in omega arith) in
    let inside : c.in-Run.addr + c.in-Run.len ≤ 2 ^ 64 = addresses-below (2 ^ 64) c.in-Run.addr c.in-Run.len (omega arith) (rw c.in-Run.is at c.requires.in_range) in
    omega arith

pub returns-in-Run-clause-places : goal.returns-in-Run-clause-places
returns-in-Run-clause-places c =
    let long : c.args.most ≤ c.in-Run.len = (let len : c.len_of.result ≡ c.in-Run.len = c.len_of.ensures ∙ ap piece_len c.in-Run.is in let b = c.if-len_of-most.false in omega arith) in
    ap places_of_piece c.in-Run.is ∙ run-split c.in-Run.addr c.in-Run.len c.args.most long

pub returns-in-Bucket-clause-places : goal.returns-in-Bucket-clause-places
returns-in-Bucket-clause-places c =
    let long : c.args.most ≤ c.in-Bucket.len = (let len : c.len_of.result ≡ c.in-Bucket.len = c.len_of.ensures ∙ ap piece_len c.in-Bucket.is in let b = c.if-len_of-most.false in omega arith) in
    ap places_of_piece c.in-Bucket.is ∙ bucket-split c.in-Bucket.len c.args.most long
