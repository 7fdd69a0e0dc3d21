use Rattle.std.proofs.Common.{false, ap, ◌∙◌}
use Rattle.nv_model.specs.Private.{Moved, moved_status}
use Rattle.nv_disk.specs.Flat.{moved_of}
use Rattle.nv_model.proofs.UnitsElsewhere.{units-differ}
use Rattle.nv_flat.proofs.RunLemmas.{units-moved}
use Rattle.nv_flat.proofs.laws.only_a_compare_fails.Goals as goal

pub returns : goal.returns
unfolding moved_of
returns c old new entry st work goes other run =
    let r = units-moved old new entry st work goes run in
    r.status
    ∙ ap moved_status (ap (λ (m : Moved). m.differed) r.moved ∙ units-differ r.order work (moved_of old false) other)
