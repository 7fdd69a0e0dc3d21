use Rattle.std.proofs.Common.{sym, ap, ◌∙◌, subst}
use Rattle.nv_world_model.specs.Step.{delivered_by}
use Rattle.nv_laws_sound.proofs.Lists.{some-same}
use Rattle.nv_laws_sound.proofs.PlanSizes.{own_work}
use Rattle.nv_laws.proofs.units.Delivery.{delivered-image, delivered-when, transfer-count}
use Rattle.nv_laws.proofs.units.OwnShares.{IsOwnShare, own-share}
use Rattle.nv_laws.proofs.laws.units.delivering.what_is_delivered_is_what_the_units_moved.Goals as goal

pub returns-clause-units : goal.returns-clause-units
returns-clause-units c guest entry share work dest is goes form =
    let own = own-share guest entry share is in
    let same = some-same (own_work guest entry share is) work (sym own.goes ∙ goes) in
    transfer-count guest entry share work (subst (IsOwnShare guest entry share) same own) dest form

pub returns-clause-when : goal.returns-clause-when
returns-clause-when c o command st share work w bounce bounced reads =
    ap (λ p. delivered_by p bounce o w) bounced ∙ delivered-when o work w bounce reads

pub returns-clause-memory : goal.returns-clause-memory
returns-clause-memory c o work w bounce units memory sound = delivered-image o work w bounce units memory sound.apart
