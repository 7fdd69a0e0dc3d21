use Rattle.std.proofs.Common.{◌≡◌, ◌-◌, ◌++◌, ◌<◌, ◌≤◌, ◌^◌, ℕ, List, arith, drop, length, sym, subst, ap, ◌∙◌}
use Rattle.nv_mem.specs.Places.{Place, piece_len, places_of, places_of_piece}
use Rattle.nv_mem.proofs.PlaceLists.{length-places_of_piece}
use Rattle.nv_disk.specs.Buffer.{AreBelow}
use Rattle.nv_disk.proofs.BufferLemmas.{AreBelow-behind, AreBelow-front, no-pieces, skip-front, skip-piece}
use Rattle.nv_disk.proofs.buffer.skipped.Goals as goal

pub returns-in_default : goal.returns-in_default
returns-in_default c =
    let fits : piece_len c.loop-left.piece ≤ c.loop-left.left = (let len = c.len_of.ensures in let test = c.loop-left-test.true in omega arith) in
    let behind = places_of c.loop-left.behind.now in
    sym (no-pieces c.loop-left.behind.now (c.loop-left.left - piece_len c.loop-left.piece) c.in_default.ensures.cases)
    ∙ sym (skip-piece c.loop-left.piece behind c.loop-left.left fits)
    ∙ c.loop-left.invariant.left

pub loop-left-preserved : goal.loop-left-preserved
loop-left-preserved c =
    let fits : piece_len c.loop-left.piece ≤ c.loop-left.left = (let len = c.len_of.ensures in let test = c.loop-left-test.true in omega arith) in
    let behind = places_of c.loop-left.behind.now in
    let next = ap places_of c.in-Some.ensures.cases.0 in
    let W : List Place → Type 0 = λ ps. AreBelow (2 ^ 64) ps in
    record {
      left = ap (λ (n : ℕ). drop (c.loop-left.left - n) (places_of_piece c.in-Some.first.now ++ places_of c.in-Some.rest.now)) c.len_of-left.ensures
          ∙ ap (drop (c.loop-left.left - piece_len c.loop-left.piece)) (sym next)
          ∙ sym (skip-piece c.loop-left.piece behind c.loop-left.left fits)
          ∙ c.loop-left.invariant.left;
      in_range = subst W next (AreBelow-behind (2 ^ 64) (places_of_piece c.loop-left.piece) behind c.loop-left.invariant.in_range);
    }

pub cut-rest-requires : goal.cut-rest-requires
cut-rest-requires c =
    record { in_range = AreBelow-front (2 ^ 64) (places_of_piece c.loop-left.piece) (places_of c.loop-left.behind.now) c.loop-left.invariant.in_range }

pub returns : goal.returns
returns c =
    let short : c.loop-left.left < piece_len c.loop-left.piece = (let len = c.len_of.ensures in let test = c.loop-left-test.false in omega arith) in
    let front : length (places_of_piece c.cut-rest.result.0) ≡ c.loop-left.left =
    length-places_of_piece c.cut-rest.result.0 ∙ c.cut-rest.ensures.front ∙ (omega (arith, short)) in
    sym (skip-front (places_of_piece c.loop-left.piece) (places_of_piece c.cut-rest.result.0) (places_of_piece c.cut-rest.result.1)
    (places_of c.loop-left.behind.now) c.loop-left.left c.cut-rest.ensures.places front)
    ∙ c.loop-left.invariant.left
