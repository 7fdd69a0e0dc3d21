use Rattle.std.proofs.Common.{◌≡◌, ◌<◌, ℕ, List, sym, subst, ◌∙◌, arith}
use Rattle.nv_entry.specs.Opcode.{io_opcode}
use Rattle.nv_entry.specs.Submission.{opcode_of}
use Rattle.nv_mem.specs.declared.piece.Piece.{Piece}
use Rattle.nv_model.specs.Reading.{Spells}
use Rattle.nv_device.specs.Pages.{host_reading}
use Rattle.nv_device.specs.Physical.{len_of}
use Rattle.nv_device.proofs.TakeLemmas.{if_ok, places-named, same-reading}
use Rattle.nv_device.proofs.command.places_of.Goals as goal

pub returns-clause-named : goal.returns-clause-named
returns-clause-named c =
    let N : ℕ → Type 0 = λ n. 0 < n in
    let some : 0 < len_of (io_opcode (opcode_of c.args.sqe.now)) c.args.sqe.now = subst N c.transfer_len-len.ensures.value (let other = c.if-len-eq0.false in omega arith) in
    if_ok c.read_pages.result (λ (places : List Piece). host_reading c.args.host.now c.prp1.result c.prp2.result c.transfer_len-len.result ≡ Spells places) _
    (λ places spelt. places-named (io_opcode (opcode_of c.args.sqe.now)) c.args.sqe.now c.args.host.now places some
    (sym (same-reading c.args.host.now _ _ _ _ _ _ c.prp1.ensures c.prp2.ensures c.transfer_len-len.ensures.value) ∙ spelt))
    c.read_pages.ensures.read
