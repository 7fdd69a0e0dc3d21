use Rattle.std.proofs.Common.{List, length, slice_get, ap, ◌∙◌}
use Rattle.nv_entry.specs.Submission.{slba_of}
use Rattle.nv_model.specs.Judge.{Form, WorkUnit, count_of, form_units, is_fua}
use Rattle.nv_model.proofs.Judged.{verdict-sound}
use Rattle.nv_model.proofs.Units.{clear_units-at, length-clear_units}
use Rattle.nv_model.proofs.laws.verdicts.write_zeroes_clears_each_block.Goals as goal

pub returns-clause-count : goal.returns-clause-count
returns-clause-count c shape memory entry work goes form =
    let sound = verdict-sound shape.mapped shape.limit shape.blocks entry memory work goes in
    ap (λ (us : List WorkUnit). length us) (sound.units ∙ ap (λ (f : Form). form_units f shape.blocks entry work.ranges) form)
    ∙ length-clear_units (is_fua entry) (slba_of entry) (count_of entry)

pub returns-clause-each : goal.returns-clause-each
returns-clause-each c shape memory entry work i goes form below =
    let sound = verdict-sound shape.mapped shape.limit shape.blocks entry memory work goes in
    ap (λ (us : List WorkUnit). slice_get us i) (sound.units ∙ ap (λ (f : Form). form_units f shape.blocks entry work.ranges) form)
    ∙ clear_units-at (is_fua entry) (slba_of entry) (count_of entry) i below
