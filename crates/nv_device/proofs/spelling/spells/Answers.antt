use Rattle.std.proofs.Common.{◌-◌, ◌&&◌, Bool, sym, ap, ◌∙◌}
use Rattle.nv_model.specs.Prp.{pages_of}
use Rattle.nv_model.specs.Reading.{run}
use Rattle.nv_device.specs.Pages.{behind_reading, spells}
use Rattle.nv_device.proofs.SpellLemmas.{spells-whole}
use Rattle.nv_device.proofs.spelling.spells.Goals as goal

pub returns-then-fits : goal.returns-then-fits
returns-then-fits c =
    c.behind_spells.ensures (run c.args.prp1 c.min-first.result)
    ∙ sym (spells-whole c.args.host.now c.args.prp1 c.args.prp2 c.args.len c.min-first.result c.min-first.ensures
    ∙ ap (λ (b : Bool). b && spells (behind_reading c.args.host.now (pages_of (c.args.len - c.min-first.result)) c.args.prp2 (c.args.len - c.min-first.result) (run c.args.prp1 c.min-first.result)))
    (sym c.fits.ensures ∙ c.if-fits.true))

pub returns-else-fits : goal.returns-else-fits
returns-else-fits c =
    c.if-fits.false
    ∙ sym (spells-whole c.args.host.now c.args.prp1 c.args.prp2 c.args.len c.min-first.result c.min-first.ensures
    ∙ ap (λ (b : Bool). b && spells (behind_reading c.args.host.now (pages_of (c.args.len - c.min-first.result)) c.args.prp2 (c.args.len - c.min-first.result) (run c.args.prp1 c.min-first.result)))
    (sym c.fits.ensures ∙ c.if-fits.false))
