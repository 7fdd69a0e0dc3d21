use Rattle.std.proofs.Common.{ℕ, ◌+◌, List, length, take, sum_by, slice_get, ap, ◌∙◌}
use Rattle.nv_entry.specs.Range.{blocks_of}
use Rattle.nv_model.specs.Judge.{Form, WorkUnit, deallocates, form_units}
use Rattle.nv_model.proofs.Judged.{verdict-sound}
use Rattle.nv_model.proofs.Units.{length-range_units, range_units-at}
use Rattle.nv_model.proofs.laws.verdicts.dataset_management_has_a_unit_for_each_block.Goals as goal

pub returns-clause-count : goal.returns-clause-count
returns-clause-count c shape memory entry work goes form =
    let sound = verdict-sound shape.mapped shape.limit shape.blocks entry memory work goes in
    ap (λ (us : List WorkUnit). length us) (sound.units ∙ ap (λ (f : Form). form_units f shape.blocks entry work.ranges) form)
    ∙ length-range_units (deallocates entry) work.ranges

pub returns-clause-each : goal.returns-clause-each
returns-clause-each c shape memory entry work k i range goes form is below =
    let sound = verdict-sound shape.mapped shape.limit shape.blocks entry memory work goes in
    let at : ℕ = sum_by blocks_of (take k work.ranges) + i in
    ap (λ (us : List WorkUnit). slice_get us at) (sound.units ∙ ap (λ (f : Form). form_units f shape.blocks entry work.ranges) form)
    ∙ range_units-at (deallocates entry) work.ranges k i range is below
