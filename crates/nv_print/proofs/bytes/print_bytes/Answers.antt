use Rattle.std.proofs.Common.{◌++◌, [], refl, sym, ap, ◌∙◌, append_assoc}
use Rattle.hex.specs.Hex.{encode_lower, encode_with, lower_digits}
use Rattle.nv_print.proofs.Growing.{Appends-nothing, Appends-then, encode_with-append}
use Rattle.nv_print.proofs.bytes.print_bytes.Goals as goal

pub loop-left-init : goal.loop-left-init
unfolding encode_with
loop-left-init g c = ([], Appends-nothing _, refl)

pub loop-left-preserved : goal.loop-left-preserved
loop-left-preserved g c =
    let (done, printed, rest) = c.loop-left.invariant in
    let chunk = c.split_at.result.0.now in (
      done ++ chunk,
      rw (encode_with-append lower_digits done chunk) (Appends-then _ _ _ (encode_lower done) (encode_lower chunk) printed c.in_ok-print_chunk.ensures),
      rest ∙ ap (λ xs. done ++ xs) c.split_at.ensures.by_index.0 ∙ sym (append_assoc done chunk _),
    )
