use Rattle.nv_mem.specs.Places.{At}
use Rattle.nv_model.specs.Laws.{IsAnother}
use Rattle.nv_laws.proofs.units.AllPlaces.{places-all}
use Rattle.nv_laws.proofs.units.SharePlaces.{share-all, share-blocks}
use Rattle.nv_laws.proofs.laws.units.delivering.a_share_lies_in_the_whole.Goals as goal

pub returns-clause-blocks : goal.returns-clause-blocks
returns-clause-blocks c guest entry share is work dest unit number goes form at = share-blocks guest entry share is work goes dest form unit number at

pub returns-clause-part : goal.returns-clause-part
returns-clause-part c guest entry share is work addr goes each = share-all guest entry share is work goes (IsAnother (At addr)) each

pub returns-clause-together : goal.returns-clause-together
returns-clause-together c guest entry share is dest addr form each = places-all (IsAnother (At addr)) guest entry share is dest form each
