use Rattle.nv_print.proofs.HexLanes.{eight_bytes}
use Rattle.nv_print.proofs.digits.eight.Goals as goal

pub returns : goal.returns
returns c = eight_bytes c.args.bytes c.fits-bytes.0 c.fits-bytes.1
