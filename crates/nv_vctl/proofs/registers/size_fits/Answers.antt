use Rattle.nv_vctl.proofs.Fields.{ring-size_fits}
use Rattle.nv_vctl.proofs.registers.size_fits.Goals as goal

pub returns-clause-value : goal.returns-clause-value
returns-clause-value c = ring-size_fits c.fits.result c.args.size c.fits.ensures
