use Rattle.std.proofs.Common.{◌*◌, ℕ, length, sym, ap, ◌∙◌, arith}
use Rattle.std.specs.Prelude.{is_none}
use Rattle.nv_model.specs.Prp.{entry_fault}
use Rattle.nv_device.specs.Pages.{in_host}
use Rattle.nv_device.proofs.SpellLemmas.{next-pointer, no-pointer_spells}
use Rattle.nv_device.proofs.spelling.next_entry.Goals as goal

pub returns-then-fits : goal.returns-then-fits
returns-then-fits c =
    let one = c.if-slots-ne1.false in
    let other = c.if-pages-eq1.false in
    let some = c.requires.pages in
    next-pointer c.args.host.now c.args.pages c.args.slots c.args.from c.slot-pointer.result one (omega arith) c.slot-pointer.ensures
    (ap (λ (n : ℕ). is_none (entry_fault (in_host (length c.args.host.now)) 4096 c.slot-pointer.result (8 * n))) (sym c.min.ensures) ∙ sym c.fits.ensures ∙ c.if-fits.true)

pub returns-else-fits : goal.returns-else-fits
returns-else-fits c =
    let one = c.if-slots-ne1.false in
    let other = c.if-pages-eq1.false in
    let some = c.requires.pages in
    no-pointer_spells c.args.host.now c.args.pages c.args.slots c.args.from c.slot-pointer.result one (omega arith) c.slot-pointer.ensures
    (ap (λ (n : ℕ). is_none (entry_fault (in_host (length c.args.host.now)) 4096 c.slot-pointer.result (8 * n))) (sym c.min.ensures) ∙ sym c.fits.ensures ∙ c.if-fits.false)
