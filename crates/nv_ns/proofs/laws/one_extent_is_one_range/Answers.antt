use Rattle.std.proofs.Common.{[], ◌∷◌, ◌∙◌, arith}
use Rattle.nv_ns.proofs.Spelled.{place_in-here, walk-first}
use Rattle.nv_ns.proofs.CutWalk.{cuts-walk}
use Rattle.nv_ns.proofs.laws.one_extent_is_one_range.Goals as goal

pub returns-clause-places : goal.returns-clause-places
returns-clause-places c = λ extent lba below. place_in-here extent [] lba below

pub returns-clause-cut : goal.returns-clause-cut
returns-clause-cut c = λ extent slba count some within.
    cuts-walk (extent ∷ []) slba count ∙ walk-first extent [] slba count some (omega arith)

pub returns-clause-first : goal.returns-clause-first
returns-clause-first c = λ extent rest slba count some within.
    cuts-walk (extent ∷ rest) slba count ∙ walk-first extent rest slba count some (omega arith)
