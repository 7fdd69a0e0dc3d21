use Rattle.std.proofs.Common.{List, length, slice_get, ap, ◌∙◌}
use Rattle.nv_entry.specs.Submission.{slba_of}
use Rattle.nv_model.specs.Judge.{Form, WorkUnit, count_of, form_units}
use Rattle.nv_model.proofs.Judged.{verdict-sound}
use Rattle.nv_model.proofs.Units.{length-move_units, move_units-at}
use Rattle.nv_model.proofs.laws.verdicts.a_transfer_moves_each_block.Goals as goal

pub returns-clause-count : goal.returns-clause-count
returns-clause-count c shape memory entry work dest goes form =
    let sound = verdict-sound shape.mapped shape.limit shape.blocks entry memory work goes in
    ap (λ (us : List WorkUnit). length us) (sound.units ∙ ap (λ (f : Form). form_units f shape.blocks entry work.ranges) form)
    ∙ length-move_units (slba_of entry) (count_of entry)

pub returns-clause-each : goal.returns-clause-each
returns-clause-each c shape memory entry work dest i goes form below =
    let sound = verdict-sound shape.mapped shape.limit shape.blocks entry memory work goes in
    ap (λ (us : List WorkUnit). slice_get us i) (sound.units ∙ ap (λ (f : Form). form_units f shape.blocks entry work.ranges) form)
    ∙ move_units-at (slba_of entry) (count_of entry) i below
