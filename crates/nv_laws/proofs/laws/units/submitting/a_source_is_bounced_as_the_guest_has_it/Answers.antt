use Rattle.std.proofs.Common.{sym, ap, ◌∙◌, subst}
use Rattle.nv_world_model.specs.Seat.{work_of}
use Rattle.nv_laws_sound.proofs.Lists.{some-same}
use Rattle.nv_laws_sound.proofs.PlanSizes.{own_work}
use Rattle.nv_laws.proofs.units.OwnShares.{IsOwnShare, own-share}
use Rattle.nv_laws.proofs.units.Submitted.{source-written}
use Rattle.nv_laws.proofs.laws.units.submitting.a_source_is_bounced_as_the_guest_has_it.Goals as goal

pub returns : goal.returns
returns c geometry guest entry share work lane tag slot host is below bounced form =
    let own = own-share guest entry share is in
    let same = some-same (own_work guest entry share is) work (sym own.goes ∙ ap work_of bounced) in
    source-written geometry guest entry share work (subst (IsOwnShare guest entry share) same own) lane tag slot host below bounced form
