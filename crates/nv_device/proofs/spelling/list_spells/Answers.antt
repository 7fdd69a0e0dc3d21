use Rattle.std.proofs.Common.{arith, sym, ◌∙◌}
use Rattle.nv_device.proofs.SpellLemmas.{spelling-end, spelling-fails, spelling-more, spelling-none, spelling-start}
use Rattle.nv_device.proofs.spelling.list_spells.Goals as goal

pub loop-pages-init : goal.loop-pages-init
loop-pages-init c = spelling-start c.args.host.now c.args.pages c.args.list c.args.bytes c.requires.aligned c.requires.there c.requires.most c.requires.full

pub returns-in_default : goal.returns-in_default
returns-in_default c =
    spelling-none c.args.host.now c.args.pages c.args.list c.args.bytes c.loop-pages.pages c.loop-pages.slots c.loop-pages.from c.loop-pages.bytes
    c.loop-pages.invariant c.in_default.ensures

pub returns-then-not-fits : goal.returns-then-not-fits
returns-then-not-fits c =
    spelling-fails c.args.host.now c.args.pages c.args.list c.args.bytes c.loop-pages.pages c.loop-pages.slots c.loop-pages.from c.loop-pages.bytes
    c.in-Some.entry_slots c.in-Some.entry c.slot-addr.result c.min-len.result c.loop-pages.invariant c.loop-pages-test.true c.in-Some.ensures
    c.slot-addr.ensures c.min-len.ensures (sym c.fits.ensures ∙ c.if-not-fits.true)

pub loop-pages-preserved : goal.loop-pages-preserved
loop-pages-preserved c =
    spelling-more c.args.host.now c.args.pages c.args.list c.args.bytes c.loop-pages.pages c.loop-pages.slots c.loop-pages.from c.loop-pages.bytes
    c.in-Some.entry_slots c.in-Some.entry c.slot-addr.result c.min-len.result c.loop-pages.invariant c.loop-pages-test.true c.in-Some.ensures
    c.slot-addr.ensures c.min-len.ensures (sym c.fits.ensures ∙ c.if-not-fits.false)

pub returns : goal.returns
returns c =
    spelling-end c.args.host.now c.args.pages c.args.list c.args.bytes c.loop-pages.pages c.loop-pages.slots c.loop-pages.from c.loop-pages.bytes
    c.loop-pages.invariant (omega arith)
