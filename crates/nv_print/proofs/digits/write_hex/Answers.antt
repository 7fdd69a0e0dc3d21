use Rattle.std.proofs.Common.{arith, ap, refl, ◌∙◌, ◌≡◌, ◌≤◌, ◌*◌, take, length}
use Rattle.hex.specs.Hex.{encode_lower, encode_with}
use Rattle.nv_print.proofs.HexLanes.{all_written, block_more, to_end}
use Rattle.nv_print.proofs.digits.write_hex.Goals as goal
use Rattle.nv_print.proofs.digits.write_hex.Goals.{then-bytes-done-ge8, else-bytes-done-ge8, then-bytes-done-ge4, else-bytes-done-ge4}

pub sixteens-init : goal.sixteens-init
unfolding encode_with
sixteens-init c = record { within = omega arith; written = refl }

pub sixteens-preserved : goal.sixteens-preserved
sixteens-preserved c = record {
  within = omega arith;
  written =
      block_more c.args.bytes.now c.sixteens.digits c.sixteen-block.result c.sixteens.done 16 (omega arith) (omega arith) c.sixteens.invariant.written
      c.sixteen-block.ensures;
}

pub returns : goal.returns
returns c =
    let bytes = c.args.bytes.now in
    let by_eights : (c.if-bytes-done-ge8.done ≤ length bytes)
    × (take (2 * c.if-bytes-done-ge8.done) c.if-bytes-done-ge8.digits ≡ encode_lower (take c.if-bytes-done-ge8.done bytes)) =
    elim c.if-bytes-done-ge8.branch [
      | then-bytes-done-ge8 w ↦ (
        omega arith,
        rw (w.digits-is, w.done-is)
            (block_more bytes c.sixteens.digits w.eight-block.result c.sixteens.done 8 (omega arith) (omega arith) c.sixteens.invariant.written w.eight-block.ensures),
      )
      | else-bytes-done-ge8 w ↦ (omega arith, rw (w.digits-is, w.done-is) c.sixteens.invariant.written)
    ] in
    let done = c.if-bytes-done-ge4.done in
    let digits = c.if-bytes-done-ge4.digits in
    let written : (done ≤ length bytes) × (take (2 * done) digits ≡ encode_lower (take done bytes)) =
    elim c.if-bytes-done-ge4.branch [
      | then-bytes-done-ge4 w ↦ (
        omega arith,
        rw (w.digits-is, w.done-is)
            (block_more bytes c.if-bytes-done-ge8.digits w.four-block.result c.if-bytes-done-ge8.done 4 (omega arith) (omega arith) by_eights.1 w.four-block.ensures),
      )
      | else-bytes-done-ge4 w ↦ (omega (arith, by_eights.0), rw (w.digits-is, w.done-is) by_eights.1)
    ] in
    all_written bytes digits c.encode_to_slice.new.output done _ (omega arith) written.0 refl written.1
    (c.in-Ok.ensures.written ∙ ap encode_lower (to_end done bytes))
