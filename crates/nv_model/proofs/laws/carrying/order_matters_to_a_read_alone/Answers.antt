use Rattle.std.proofs.Common.{All, List, sym, subst}
use Rattle.nv_model.specs.Judge.{WorkUnit, form_of}
use Rattle.nv_model.proofs.Judged.{verdict-sound}
use Rattle.nv_model.proofs.UnitOrder.{any-order}
use Rattle.nv_model.proofs.Units.{IsUnitOf, form_units-own}
use Rattle.nv_model.proofs.laws.carrying.order_matters_to_a_read_alone.Goals as goal

pub returns : goal.returns
returns c shape memory entry work order m goes other is =
    let sound = verdict-sound shape.mapped shape.limit shape.blocks entry memory work goes in
    any-order work entry (form_of work.opcode) order work.units m other
    (subst (λ (us : List WorkUnit). All (IsUnitOf (form_of work.opcode) entry) us) (sym sound.units)
    (form_units-own (form_of work.opcode) shape.blocks entry work.ranges)) is
