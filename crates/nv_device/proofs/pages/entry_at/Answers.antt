use Rattle.nv_device.proofs.PageLemmas.{entry-behind_pointer}
use Rattle.nv_device.proofs.pages.entry_at.Goals as goal

pub returns-then-pages-gt1 : goal.returns-then-pages-gt1
returns-then-pages-gt1 c =
    entry-behind_pointer c.args.host.now c.args.pages c.args.slots c.args.from c.slot.result c.if-slots-eq1.true c.if-pages-gt1.true c.slot.ensures
