use Rattle.std.proofs.Common.{bit_and, bit_or, refl}
use Rattle.hex.specs.Hex.{is_hex_digit}
use Rattle.nv_once_script.proofs.HexadecimalLemmas.{is_at_most, lane_by_lane, less, none_fails, splat, with_splat}
use Rattle.nv_once_script.proofs.once.hexadecimal.are_digits.Goals as goal

pub returns : goal.returns
returns c =
    let v = c.args.bytes in
    let long = c.fits-bytes.0 in
    λ none.
    none_fails is_hex_digit v _ _ long c.fits-bytes.1 none
    (lane_by_lane bit_and _ _ v (lane_by_lane is_at_most _ _ v (splat v 10 long) (with_splat less v 48 long))
    (lane_by_lane is_at_most _ _ v (splat v 6 long) (lane_by_lane less _ _ v (with_splat bit_or v 32 long) (splat v 97 long))))
    refl
