use Rattle.nv_print.proofs.HexLanes.{high_within, low_within, sixteen_bytes}
use Rattle.nv_print.proofs.digits.sixteen.Goals as goal

pub swizzle-high : goal.swizzle-high
swizzle-high c = high_within c.args.bytes c.fits-bytes.0 c.fits-bytes.1

pub swizzle-low : goal.swizzle-low
swizzle-low c = low_within c.args.bytes c.fits-bytes.0

pub returns : goal.returns
returns c = sixteen_bytes c.args.bytes c.fits-bytes.0 c.fits-bytes.1
