use Rattle.nv_print.proofs.HexLanes.{four_bytes}
use Rattle.nv_print.proofs.digits.four.Goals as goal

pub returns : goal.returns
returns c = four_bytes c.args.bytes c.fits-bytes.0 c.fits-bytes.1
