use Rattle.std.proofs.Common.{bit_or, refl}
use Rattle.nv_once_script.proofs.HexadecimalLemmas.{lane_by_lane, less, lesser, pairs_of-digits, plus, splat, with_splat}
use Rattle.nv_once_script.proofs.once.hexadecimal.spelled.Goals as goal

pub returns : goal.returns
returns c =
    let v = c.args.digits in
    let long = c.fits-digits.0 in
    λ digits.
    pairs_of-digits v _ _ long c.fits-digits.1 digits
    (lesser _ _ v (with_splat less v 48 long)
    (lane_by_lane plus _ _ v (lane_by_lane less _ _ v (with_splat bit_or v 32 long) (splat v 97 long)) (splat v 10 long)))
    refl
