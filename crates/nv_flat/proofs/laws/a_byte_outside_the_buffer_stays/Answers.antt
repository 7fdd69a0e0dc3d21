use Rattle.std.proofs.Common.{false, ap, ◌∙◌}
use Rattle.nv_model.specs.Private.{Moved}
use Rattle.nv_disk.specs.Flat.{moved_of}
use Rattle.nv_model.proofs.UnitsElsewhere.{units-memory, units-memory_at}
use Rattle.nv_flat.proofs.RunLemmas.{units-moved}
use Rattle.nv_flat.proofs.laws.a_byte_outside_the_buffer_stays.Goals as goal

pub returns-clause-named : goal.returns-clause-named
unfolding moved_of
returns-clause-named c old new entry st work addr goes each run =
    let r = units-moved old new entry st work goes run in
    ap (λ (m : Moved). m.memory addr) r.moved ∙ units-memory_at r.order work addr (moved_of old false) each

pub returns-clause-not_read : goal.returns-clause-not_read
unfolding moved_of
returns-clause-not_read c old new entry st work goes other run =
    let r = units-moved old new entry st work goes run in
    ap (λ (m : Moved). m.memory) r.moved ∙ units-memory r.order work (moved_of old false) other
