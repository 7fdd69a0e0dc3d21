use Rattle.nv_device.proofs.SpellLemmas.{IsSpelling}
use Rattle.nv_device.proofs.spelling.list_spells.Given as goal

abbrev pub invariant-loop-pages : goal.invariant-loop-pages
invariant-loop-pages l = IsSpelling l.host l.fn.pages l.list l.fn.bytes l.pages l.slots l.from l.bytes

abbrev pub decreases-loop-pages : goal.decreases-loop-pages
decreases-loop-pages l = l.pages
