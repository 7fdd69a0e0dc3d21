use Rattle.std.proofs.Common.{ap, ◌∙◌}
use Rattle.nv_ns.specs.Extents.{blocks_in}
use Rattle.nv_model.specs.Judge.{Form, deallocates, form_units}
use Rattle.nv_model.proofs.AnyAnswers.{end-sound}
use Rattle.nv_world_model.proofs.OwnUnits.{FitsFields-small, shares_of-units}
use Rattle.nv_world_model.proofs.laws.shares.a_share_has_the_units_of_its_ranges.Goals as goal

pub returns-clause-units : goal.returns-clause-units
returns-clause-units c = λ regions mapped limit ns entry work goes form fit.
    (let sound = end-sound mapped limit (blocks_in ns) entry work goes in
    shares_of-units regions ns entry (deallocates entry) work form
    (sound.units ∙ ap (λ (f : Form). form_units f (blocks_in ns) entry work.ranges) form) fit)

pub returns-clause-small : goal.returns-clause-small
returns-clause-small c = λ mapped limit blocks entry work goes small.
    FitsFields-small blocks work.ranges small (end-sound mapped limit blocks entry work goes).fit
