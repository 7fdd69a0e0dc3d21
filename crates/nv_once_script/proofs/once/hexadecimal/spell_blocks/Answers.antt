use Rattle.std.proofs.Common.{arith}
use Rattle.std.proofs.lemmas.Simd.{length-put_chunk}
use Rattle.nv_once_script.proofs.HexadecimalLemmas.{block_more}
use Rattle.nv_once_script.proofs.once.hexadecimal.spell_blocks.Goals as goal

pub sixteens-preserved : goal.sixteens-preserved
sixteens-preserved c =
    let digits = c.are_digits.ensures c.if-not-are_digits.false in
    record {
      within = omega (arith, length-put_chunk c.sixteens.done c.sixteens.bytes c.spelled.result);
      spelled =
          rw (c.spelled.ensures digits)
          (block_more c.args.digits.now c.sixteens.bytes c.sixteens.done (omega arith) (omega arith) digits c.sixteens.invariant.spelled);
    }
