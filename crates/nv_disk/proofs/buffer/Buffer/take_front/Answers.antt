use Rattle.std.proofs.Common.{◌≡◌, ◌^◌, List, arith, subst, ◌∙◌}
use Rattle.nv_mem.specs.Places.{Place, piece_len, places_of, places_of_piece}
use Rattle.nv_disk.specs.Buffer.{AreBelow}
use Rattle.nv_disk.proofs.BufferLemmas.{AreBelow-front, nothing-left, one-piece-less}
use Rattle.nv_disk.proofs.buffer.Buffer.take_front.Goals as goal

pub returns-in_err-first : goal.returns-in_err-first
returns-in_err-first c =
    let empty : piece_len c.loop-piece.piece ≡ 0 = (let len = c.len_of.ensures in let test = c.loop-piece-test.true in omega arith) in
    let nothing = c.loop-piece.invariant ∙ nothing-left c.loop-piece.piece c.loop-piece.behind.now empty c.in_err-first.ensures.cases in
    rw c.from_residual.ensures (nothing, nothing)

pub loop-piece-preserved : goal.loop-piece-preserved
loop-piece-preserved c =
    let empty : piece_len c.loop-piece.piece ≡ 0 = (let len = c.len_of.ensures in let test = c.loop-piece-test.true in omega arith) in
    c.loop-piece.invariant
    ∙ one-piece-less c.loop-piece.piece c.in_ok-first.first.now c.loop-piece.behind.now c.in_ok-first.rest.now empty c.in_ok-first.ensures.cases.0

pub cut-front-requires : goal.cut-front-requires
cut-front-requires c =
    let W : List Place → Type 0 = λ ps. AreBelow (2 ^ 64) ps in
    record { in_range = AreBelow-front (2 ^ 64) (places_of_piece c.loop-piece.piece) (places_of c.loop-piece.behind.now) (subst W c.loop-piece.invariant c.requires.in_range) }
