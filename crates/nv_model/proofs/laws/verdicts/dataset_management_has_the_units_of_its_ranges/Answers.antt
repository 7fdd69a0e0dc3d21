use Rattle.std.proofs.Common.{ap, ◌∙◌}
use Rattle.nv_model.specs.Judge.{Form, form_units}
use Rattle.nv_model.proofs.Judged.{verdict-sound}
use Rattle.nv_model.proofs.laws.verdicts.dataset_management_has_the_units_of_its_ranges.Goals as goal

pub returns : goal.returns
returns c shape memory entry work goes form =
    let sound = verdict-sound shape.mapped shape.limit shape.blocks entry memory work goes in
    (sound.counted form, (sound.fit, sound.units ∙ ap (λ (f : Form). form_units f shape.blocks entry work.ranges) form))
