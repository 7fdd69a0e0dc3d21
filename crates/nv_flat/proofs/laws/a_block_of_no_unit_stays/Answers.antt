use Rattle.std.proofs.Common.{false, ap, ◌∙◌}
use Rattle.nv_model.specs.Private.{Moved}
use Rattle.nv_disk.specs.Flat.{moved_of}
use Rattle.nv_model.specs.Laws.{IsElsewhere}
use Rattle.nv_model.proofs.UnitsElsewhere.{units-elsewhere}
use Rattle.nv_flat.proofs.RunLemmas.{All-order, units-moved}
use Rattle.nv_flat.proofs.laws.a_block_of_no_unit_stays.Goals as goal

pub returns : goal.returns
unfolding moved_of
returns c old new entry st work lba goes each run =
    let r = units-moved old new entry st work goes run in
    let same = units-elsewhere r.order work lba (moved_of old false) (All-order (IsElsewhere lba) r.order work.units r.each_once each) in
    (ap (λ (m : Moved). m.disk lba) r.moved ∙ same.bytes, ap (λ (m : Moved). m.kept lba) r.moved ∙ same.mark)
