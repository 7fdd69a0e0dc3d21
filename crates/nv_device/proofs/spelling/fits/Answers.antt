use Rattle.std.proofs.Common.{◌%◌, ◌&&◌, Bool, sym, ap, ◌∙◌, eq-eqb, length}
use Rattle.nv_mem.specs.GuestMap.{everywhere}
use Rattle.nv_device.specs.Pages.{in_host}
use Rattle.nv_device.proofs.SpellLemmas.{holds-everywhere, passes-both}
use Rattle.nv_device.proofs.spelling.fits.Goals as goal

pub returns-then-addr-alignment-eq0 : goal.returns-then-addr-alignment-eq0
returns-then-addr-alignment-eq0 c =
    holds-everywhere c.holds.result (length c.args.host.now) c.args.addr c.args.len c.holds.ensures
    ∙ ap (λ (b : Bool). b && everywhere (in_host (length c.args.host.now)) c.args.addr c.args.len) (sym (eq-eqb (c.args.addr % c.args.alignment) 0 c.if-addr-alignment-eq0.true))
    ∙ sym (passes-both (in_host (length c.args.host.now)) c.args.alignment c.args.addr c.args.len)
